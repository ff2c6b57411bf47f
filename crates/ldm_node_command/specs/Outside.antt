-- What the command `node` uses of the outside.
use Rattle.std.specs.Prelude.{◌≡◌, ◌≤◌, ◌⊎◌, ℕ, List, Option}
use Rattle.std.specs.List.{All}
use Rattle.std.specs.Option.{option_map}
use Rattle.ldm_disk.specs.declared.desk.Desk.{Desk}
use Rattle.ldm_disk.specs.Desks.{DeskRecord, desk_tells}
use Rattle.ldm_disk.specs.Told.{DiskRecord}
use Rattle.ldm_outside.specs.Clock.{ClockRecord}
use Rattle.ldm_outside.specs.Dial.{DialRecord}
use Rattle.ldm_outside.specs.Gate.{GateRecord}
use Rattle.ldm_outside.specs.Io.{SinkRecord}
use Rattle.ldm_outside.specs.Launcher.{LauncherRecord}
use Rattle.ldm_outside.specs.Station.{StationRecord, IsNew}
use Rattle.ldm_outside.specs.Store.{StoreRecord}

-- What it uses of the outside, at a moment. S is the type of a station.
pub record Outside (S : Type 0) : Type 0 where
  pub sink : SinkRecord
  pub log : SinkRecord
  pub store : StoreRecord
  pub launcher : LauncherRecord
  pub net : DialRecord
  -- the stations that the net keeps
  pub kept : List S
  -- the port that the net was asked for last
  pub port : Option ℕ
  -- the desk that the net keeps
  pub desk : Option DeskRecord

-- what it uses, by what its parts tell, and of the net also the stations that it keeps, the port and the desk
abbrev pub outside_of : {S : Type 0} → SinkRecord → SinkRecord → StoreRecord → LauncherRecord → DialRecord → List S → Option ℕ → Option DeskRecord → Outside S
outside_of sink log store launcher net kept port desk =
    record { sink = sink; log = log; store = store; launcher = launcher; net = net; kept = kept; port = port; desk = desk }

-- what is told of the desk that a net keeps, if it keeps one, by what the parts of a desk tell
abbrev pub kept_desk_of : {F E C G : Type 0} → (F → DiskRecord) → (E → SinkRecord) → (C → ClockRecord) → (G → GateRecord)
    → Option (Desk F E C G) → Option DeskRecord
kept_desk_of disk log clock gate kept = option_map (desk_tells disk log clock gate) kept

-- No count fell.
pub record KeepsFaults {S : Type 0} (old new : Outside S) : Type 0 where
  pub sink : old.sink.faults ≤ new.sink.faults
  pub log : old.log.faults ≤ new.log.faults
  pub store : old.store.faults ≤ new.store.faults
  pub long : old.store.long ≤ new.store.long
  pub launcher : old.launcher.faults ≤ new.launcher.faults
  pub net : old.net.faults ≤ new.net.faults

-- No call was made of the net.
pub record LeavesNet {S : Type 0} (old new : Outside S) : Type 0 where
  pub net : new.net ≡ old.net
  pub kept : new.kept ≡ old.kept
  pub port : new.port ≡ old.port
  pub desk : new.desk ≡ old.desk

-- No worker of a node worked: nothing was written to the sink, and the net keeps what it kept, or stations that are new.
pub record IsIdle {S : Type 0} (tells : S → StationRecord) (idles : Option ℕ) (old new : Outside S) : Type 0 where
  pub sink : new.sink ≡ old.sink
  pub unused : (new.kept ≡ old.kept) ⊎ All (λ station. IsNew idles (tells station)) new.kept

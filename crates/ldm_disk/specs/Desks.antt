-- What a desk tells, and what a net gives that hands one out.
use Rattle.std.specs.Prelude.{◌≡◌, ℕ, [], false, Option, IfSome}
use Rattle.ldm_outside.specs.Count.{Rose}
use Rattle.ldm_outside.specs.Io.{SinkRecord}
use Rattle.ldm_outside.specs.Clock.{ClockRecord}
use Rattle.ldm_outside.specs.Gate.{GateRecord, StopsAfter}
use Rattle.ldm_outside.specs.Dial.{DialRecord}
use Rattle.ldm_disk.specs.declared.desk.Desk.{Desk}
use Rattle.ldm_disk.specs.declared.desk.Furnished.{Furnished}
use Rattle.ldm_disk.specs.declared.desk.Furnished.TheVariants as furnished
use Rattle.ldm_disk.specs.Told.{DiskRecord}

-- What a desk tells at a moment.
pub record DeskRecord : Type 0 where
  pub disk : DiskRecord
  pub log : SinkRecord
  pub clock : ClockRecord
  pub gate : GateRecord

-- A desk of which no part was used, and whose gate stops after so many idle calls: all counts are 0, no file is attached, and
-- what its log, clock and gate tell is empty.
pub record IsNewDesk (idles : Option ℕ) (desk : DeskRecord) : Type 0 where
  pub disk : (desk.disk.faults ≡ 0) × (desk.disk.attached ≡ false)
  pub log : (desk.log.faults ≡ 0) × IfSome desk.log.written (λ bytes. bytes ≡ [])
  pub clock : IfSome desk.clock.answers (λ instants. instants ≡ [])
  pub gate : (desk.gate.stops ≡ 0) × IfSome desk.gate.calls (λ calls. calls ≡ [])
  pub stopping : StopsAfter idles desk.gate

-- what a desk tells, by what its parts tell
abbrev pub desk_tells : {F E C G : Type 0} → (F → DiskRecord) → (E → SinkRecord) → (C → ClockRecord) → (G → GateRecord) → Desk F E C G → DeskRecord
desk_tells disk log clock gate desk = record {
  disk = disk desk.disk;
  log = log desk.log;
  clock = clock desk.clock;
  gate = gate desk.gate;
}

module _ {D : Type 0} (tells : D → DeskRecord) where
  -- What one call of `desk` did, for a gate that is to stop after so many idle calls.
  abbrev pub DeskGives : Furnished D → Option ℕ → DialRecord → DialRecord → Type 0
  -- a desk that is new
  DeskGives (furnished.Desk desk) idles old new = IsNewDesk idles (tells desk) × (new ≡ old)
  -- the net failed
  DeskGives furnished.Failed idles old new = Rose old.faults new.faults × (new ≡ record old { faults = new.faults })
  DeskGives furnished.OutOfMemory idles old new = new ≡ old

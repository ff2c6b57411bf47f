-- What contracts see of a site in memory: a net with a desk.
use Rattle.std.specs.Prelude.{◌≡◌, ℕ, [], Option, Some, None}
use Rattle.ldm_outside.specs.Dial.{DialRecord}
use Rattle.ldm_outside_memory.specs.Memory.{SinkState, first_plan, told_by_sink}
use Rattle.ldm_outside.specs.Count.{raised}
use Rattle.ldm_outside_memory.specs.MemClock.{ClockState, told_by_clock}
use Rattle.ldm_outside_memory.specs.MemGate.{GateState, first_gate, told_by_gate}
use Rattle.ldm_outside_memory.specs.MemDial.{told_by_dial}
use Rattle.ldm_outside_memory.specs.MemNet.{NetState}
use Rattle.ldm_disk.specs.declared.desk.Desk.{Desk}
use Rattle.ldm_disk.specs.declared.desk.Furnished.{Furnished}
use Rattle.ldm_disk.specs.declared.desk.Furnished.TheVariants as furnished
use Rattle.ldm_disk_memory.specs.declared.mem_site.DeskScript.{DeskScript}
use Rattle.ldm_disk_memory.specs.MemDisk.{MemDiskState, first_disk, told_by_disk}
use Rattle.ldm_disk.specs.Desks.{DeskRecord, desk_tells}

-- a desk whose parts are in memory
abbrev pub DeskState : Type 0
DeskState = Desk MemDiskState SinkState ClockState GateState

-- the desk at its beginning
abbrev pub first_desk : DeskScript → DeskState
first_desk script = record {
  disk = first_disk script.bytes.items script.disk_failing.items;
  log = record { written = []; faults = 0; plan = first_plan script.log_failing.items };
  clock = record { instants = script.instants.items; calls = 0 };
  gate = first_gate script.stopping.items;
}

-- what a desk in memory tells
abbrev pub told_by_desk : DeskState → DeskRecord
told_by_desk = desk_tells told_by_disk told_by_sink told_by_clock told_by_gate

-- a net in memory that has a desk
pub record SiteState : Type 0 where
  pub net : NetState
  -- how often it failed, as the net or at the desk
  pub faults : ℕ
  -- the desk that it did not hand out yet
  pub ready : Option DeskScript
  -- the desk that it keeps
  pub kept_desk : Option DeskState

-- the site at its beginning
abbrev pub first_site : NetState → Option DeskScript → SiteState
first_site net ready = record { net = net; faults = 0; ready = ready; kept_desk = None }

-- what a site in memory tells
abbrev pub told_by_site : SiteState → DialRecord
told_by_site s = record (told_by_dial s.net.dial) { faults = s.faults }

-- What one call of `desk` did.
abbrev pub DeskAsPlanned : Furnished DeskState → SiteState → SiteState → Type 0
-- it hands out the desk
DeskAsPlanned (furnished.Desk desk) old new =
    ((script : DeskScript) × (old.ready ≡ Some script) × (desk ≡ first_desk script)) × (new ≡ record old { ready = None })
-- it has none any more
DeskAsPlanned furnished.Failed old new = (old.ready ≡ None) × (new ≡ record old { faults = raised old.faults })
DeskAsPlanned furnished.OutOfMemory old new = ⊥

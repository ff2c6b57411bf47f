-- The law of the queue, of what a node writes.
use Rattle.std.specs.Prelude.{◌≡◌, ◌⊎◌, ◌<◌, ℕ, List, length, map, Ok, Option, Some, None}
use Rattle.ldm_types.specs.declared.signature.Signature.{Signature}
use Rattle.ldm_outside.specs.Count.{Rose}
use Rattle.ldm_outside.specs.Io.{Takes, WritesFront}
use Rattle.ldm_outside.specs.Station.{StationRecord}
use Rattle.ldm_shared.specs.declared.steps.TheConstants.{MOST_TURNS}
use Rattle.ldm_shared.specs.Passes.{PassView}
use Rattle.ldm_model.specs.Lawful.{IsLawful}
use Rattle.ldm_conf.specs.Confs.{ConfView}
use Rattle.ldm_node.specs.Causes.{NodeCause, SomeHas}
use Rattle.ldm_node.specs.Clerks.{LeftRecord}
use Rattle.ldm_recorder.specs.declared.end.RecordEnd.TheVariants as recording
use Rattle.ldm_status.specs.Status.{ReportsBecause}
use Rattle.ldm_node.specs.declared.stop.NodeStop.{NodeStop}
use Rattle.ldm_node.specs.declared.stop.NodeStop.TheVariants as stop
use Rattle.ldm_node_command.specs.declared.ending.NodeFault.{NodeFault}
use Rattle.ldm_node_command.specs.Ending.{StaysIdle}
use Rattle.ldm_node_command.specs.Node.{Attends, Journals, Works, plan_for, stat_line}
use Rattle.ldm_node_command.specs.Outside.{Outside}
use Rattle.ldm_node_command.specs.Setup.{Setup}
use Rattle.ldm_node_command.specs.Statuses.{status_of_fault}

-- The last products with which a node began, and what its workers leave: the last pass, and what recording left where it keeps a journal.
pub record Leaves : Type 0 where
  pub lasts : List (Option Signature)
  pub last : PassView
  pub recorded : Option LeftRecord

-- where a journal is kept, recording went on to the end: all that was queued then is committed
abbrev pub IsRecordedWhole : Option LeftRecord → Type 0
IsRecordedWhole None = Unit {0}
IsRecordedWhole (Some left) = (at : ℕ) × (left.end ≡ recording.Stopped at)

-- the disk of a journal failed, or its log
abbrev pub DiskFailed : Option LeftRecord → Type 0
DiskFailed None = ⊥
DiskFailed (Some left) = 0 < left.desk.disk.faults

abbrev pub LogFailed : Option LeftRecord → Type 0
LogFailed None = ⊥
LogFailed (Some left) = 0 < left.desk.log.faults

-- a journal is kept
abbrev pub IsKept : Option LeftRecord → Type 0
IsKept None = ⊥
IsKept (Some left) = Unit {0}

module _ {S : Type 0} (tells : S → StationRecord) (setup : Setup) where
  -- Each worker was done, and the clerk, the programs were waited for, and the line of the queue is written.
  pub record IsWhole (conf : ConfView) (left : Leaves) (old new : Outside S) : Type 0 where
    pub done : NodeCause stop.Done (plan_for setup conf left.lasts) (map tells new.kept) left.last
    pub recorded : IsRecordedWhole left.recorded
    pub waited : Attends (Ok tt) conf old.launcher new.launcher
    pub written : Takes old.sink (stat_line setup left.last.seen) new.sink

  -- The number that a node which was run ends with, and what holds then. There is no other.
  abbrev pub NumberOfRun : ℕ → ConfView → Leaves → Outside S → Outside S → Type 0
  NumberOfRun code conf left old new =
      ((code ≡ 0) × IsWhole conf left old new)
      -- a door failed
      ⊎ (((code ≡ 69) × SomeHas (λ station. 0 < station.door.faults) (map tells new.kept))
      -- there is no memory
      ⊎ ((code ≡ 71)
      -- a program could not be waited for
      ⊎ (((code ≡ 73) × Rose old.launcher.faults new.launcher.faults)
      -- the sink failed
      ⊎ (((code ≡ 75) × Rose old.sink.faults new.sink.faults)
      -- the log of a worker failed, or that of the clerk, or that of the program
      ⊎ (((code ≡ 76) × (SomeHas (λ station. 0 < station.log.faults) (map tells new.kept) ⊎ (LogFailed left.recorded ⊎ Rose old.log.faults new.log.faults)))
      -- the queue has had all its calls
      ⊎ (((code ≡ 77) × (length left.last.seen ≡ MOST_TURNS))
      -- the disk of the journal failed
      ⊎ (((code ≡ 72) × DiskFailed left.recorded)
      -- another wrote into the file of the journal, or it has had all the numbers
      ⊎ ((code ≡ 65) × IsKept left.recorded))))))))

  -- A node was run. What the last pass has seen is the history of all calls of its queue. It obeys the law, whatever the sink tells; and the
  -- line of the queue after it is written: whole, or a front where the sink failed.
  pub record NodeWritesLawful (code : ℕ) (old new : Outside S) : Type 0 where
    pub stop : NodeStop
    pub conf : ConfView
    pub given : List S
    pub lasts : List (Option Signature)
    pub last : PassView
    pub works : Works tells setup conf lasts given (record { pass = last; stations = new.kept; end = stop })
    pub lawful : IsLawful setup.arena setup.slots last.seen
    pub front : WritesFront old.sink (stat_line setup last.seen) new.sink
    pub whole : ¬ (Rose old.sink.faults new.sink.faults) → Takes old.sink (stat_line setup last.seen) new.sink
    pub left : Option LeftRecord
    pub journal : Journals setup conf lasts last left
    pub number : NumberOfRun code conf (record { lasts = lasts; last = last; recorded = left }) old new

  -- No node was run, for this cause, and the number and the log tell it. Nothing is written.
  pub record NodeWritesNothing (code : ℕ) (old new : Outside S) : Type 0 where
    pub why : NodeFault
    pub cause : StaysIdle tells why setup old new
    pub nothing : new.sink ≡ old.sink
    pub told : ReportsBecause (status_of_fault why) code old.log new.log

  -- What a node writes obeys the law, and where none was run there is a cause that is told.
  abbrev pub ObeysNodeLaw : ℕ → Outside S → Outside S → Type 0
  ObeysNodeLaw code old new = NodeWritesNothing code old new ⊎ NodeWritesLawful code old new

-- How the command `node` ends, its log apart.
use Rattle.std.specs.Prelude.{◌≡◌, ℕ, ◌-◌, List, Option, Some, IfSome, Result, Ok, Err}
use Rattle.ldm_types.specs.declared.signature.Signature.{Signature}
use Rattle.ldm_disk.specs.Desks.{DeskRecord}
use Rattle.ldm_outside.specs.Count.{Rose}
use Rattle.ldm_outside.specs.Station.{StationRecord}
use Rattle.ldm_outside.specs.Store.{File, StoreRecord}
use Rattle.ldm_conf.specs.Confs.{ConfView}
use Rattle.ldm_conf.specs.Reading.{Read}
use Rattle.ldm_shared.specs.Limits.{IsFaultOf}
use Rattle.ldm_shared.specs.Passes.{PassView, SharedView, new_pass}
use Rattle.ldm_node.specs.Clerks.{ClerkRecord}
use Rattle.ldm_command_files.specs.declared.conf_file.ConfNotTaken.{ConfNotTaken}
use Rattle.ldm_command_files.specs.ConfFiles.{CompletesConf, FileReadsTo, TakesConf}
use Rattle.ldm_node_command.specs.declared.ending.NodeFault.{NodeFault}
use Rattle.ldm_node_command.specs.declared.ending.NodeFault.TheVariants.{NotTaken, NotMade, NotRestored, NotListening, NotStarted}
use Rattle.ldm_node_command.specs.declared.ending.Ran.{Ran}
use Rattle.ldm_node_command.specs.Commands.{StopsStarting}
use Rattle.ldm_node_command.specs.Listening.{FailsToListen, Listens}
use Rattle.ldm_node_command.specs.declared.restoring.RestoreFault.{RestoreFault}
use Rattle.ldm_node_command.specs.Node.{IsMade, RunsNode}
use Rattle.ldm_node_command.specs.Outside.{LeavesNet, Outside}
use Rattle.ldm_node_command.specs.Restoring.{FailsToRestore, HasJournal, NetRecord, Restored, restored_net}
use Rattle.ldm_node_command.specs.Setup.{IsGoodSize, Setup, passes_for}

-- This configuration was taken. Where the store tells its files and did not fail, they mean no other.
pub record Takes (conf : ConfView) (path : List ℕ) (old new : StoreRecord) : Type 0 where
  pub reads : FileReadsTo old path (Read conf)
  pub same : new ≡ old
  pub sole : (files : List File) (other : ConfView) → old.files ≡ Some files → FileReadsTo old path (Read other) → ¬ (Rose old.faults new.faults) → other ≡ conf

-- No configuration was taken, for this cause. Where the store tells its files and did not fail, it is that of these files.
pub record TakesNone (why : ConfNotTaken) (path : List ℕ) (old new : StoreRecord) : Type 0 where
  pub takes : TakesConf (Err why) path old new
  pub completes : CompletesConf (Err why) path old new

-- What the journal kept was put back, with the last pass of a queue of those sizes, and the net keeps the desk. Nothing was inserted since.
pub record PutBackFirst (setup : Setup) (conf : ConfView) (desk : Option DeskRecord) : Type 0 where
  pub shared : SharedView
  pub made : IsMade setup conf shared
  pub pass : PassView
  pub clerk : Option ClerkRecord
  pub lasts : List (Option Signature)
  pub restored : Restored setup conf (new_pass shared (shared.passes - 1)) pass clerk lasts
  pub kept : IfSome clerk (λ clerk. desk ≡ Some clerk.desk)

-- It was not, for this cause.
pub record NotPutBack (why : RestoreFault) (setup : Setup) (conf : ConfView) (old new : NetRecord) : Type 0 where
  pub shared : SharedView
  pub made : IsMade setup conf shared
  pub journal : HasJournal setup
  pub fails : FailsToRestore setup conf why (new_pass shared (shared.passes - 1)) old new

module _ {S : Type 0} (tells : S → StationRecord) where
  -- Why no node was run, and what was done then.
  abbrev pub StaysIdle : NodeFault → Setup → Outside S → Outside S → Type 0
  -- no configuration was taken, and nothing else was done
  StaysIdle (NotTaken why) setup old new = TakesNone why setup.path old.store new.store × LeavesNet old new × (new.launcher ≡ old.launcher)
  -- there is no such queue or no memory for it, and nothing else was done
  StaysIdle (NotMade fault) setup old new =
      (conf : ConfView) × Takes conf setup.path old.store new.store × IsFaultOf setup.arena setup.slots (passes_for setup conf) fault
      × LeavesNet old new × (new.launcher ≡ old.launcher)
  -- what the journal kept was not put back, and nothing else was done
  StaysIdle (NotRestored why) setup old new =
      (conf : ConfView) × Takes conf setup.path old.store new.store × IsGoodSize setup conf
      × NotPutBack why setup conf (restored_net old.net old.desk) (restored_net new.net new.desk)
      × (new.port ≡ old.port) × (new.kept ≡ old.kept) × (new.launcher ≡ old.launcher)
  -- the net, asked for the port of the setup, gave no stations, and no program was started
  StaysIdle (NotListening why) setup old new =
      (conf : ConfView) × Takes conf setup.path old.store new.store × IsGoodSize setup conf
      × FailsToListen why old.net new.net × (new.port ≡ Some setup.port)
      × (new.kept ≡ old.kept) × (new.launcher ≡ old.launcher) × PutBackFirst setup conf new.desk
  -- not all programs were started, and the net keeps the stations as it gave them for the port of the setup
  StaysIdle (NotStarted why) setup old new =
      (conf : ConfView) × Takes conf setup.path old.store new.store × IsGoodSize setup conf
      × Listens tells setup conf new.kept old.net new.net × (new.port ≡ Some setup.port)
      × StopsStarting why conf.commands old.launcher new.launcher × PutBackFirst setup conf new.desk

  abbrev pub NodeEnds : Result Ran NodeFault → Setup → Outside S → Outside S → Type 0
  -- a node was run
  NodeEnds (Ok ran) setup old new = (conf : ConfView) × Takes conf setup.path old.store new.store × RunsNode tells ran setup conf old new
  -- none was
  NodeEnds (Err why) setup old new = StaysIdle why setup old new × (new.sink ≡ old.sink)

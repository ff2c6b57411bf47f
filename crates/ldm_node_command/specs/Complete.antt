-- When a node is run to its end, and its line is written.
use Rattle.std.specs.Prelude.{◌≡◌, ◌⊎◌, ℕ, List, [], map, None, Some, IfSome}
use Rattle.std.specs.List.{All}
use Rattle.ldm_disk.specs.Told.{FileRecord}
use Rattle.ldm_disk.specs.Desks.{DeskRecord}
use Rattle.ldm_outside.specs.Count.{Rose}
use Rattle.ldm_outside.specs.Station.{StationRecord}
use Rattle.ldm_outside.specs.Store.{File}
use Rattle.ldm_journal.specs.Records.{Kept}
use Rattle.ldm_journal.specs.Format.{Holds}
use Rattle.ldm_conf.specs.Confs.{ConfView}
use Rattle.ldm_conf.specs.Reading.{Read}
use Rattle.ldm_command_files.specs.ConfFiles.{FileReadsTo}
use Rattle.ldm_node_command.specs.Outside.{Outside}
use Rattle.ldm_node_command.specs.Restoring.{HasJournal}
use Rattle.ldm_node_command.specs.Setup.{IsGoodSize, Setup}

-- The disk of a desk tells a file that is a journal with a ring of that size, or is empty; and neither its disk nor its log failed.
pub record IsDeskUnhindered (ring : ℕ) (desk : DeskRecord) : Type 0 where
  pub file : FileRecord
  pub told : desk.disk.file ≡ Some file
  pub is_journal : (file.bytes ≡ []) ⊎ ((kept : List Kept) × (note : List ℕ) × Holds ring kept note file.bytes)
  pub disk_works : desk.disk.faults ≡ 0
  pub log_works : desk.log.faults ≡ 0

module _ {S : Type 0} (tells : S → StationRecord) where
  -- Nothing hinders a node: the store tells files that mean a configuration; there is a queue of those sizes for it; and neither the
  -- store, the launcher, the net, the sink or the log failed, nor a door or a log of a station that the net keeps since.
  pub record NodeUnhindered (setup : Setup) (old new : Outside S) : Type 0 where
    pub files : List File
    pub told : old.store.files ≡ Some files
    pub conf : ConfView
    pub reads : FileReadsTo old.store setup.path (Read conf)
    pub good : IsGoodSize setup conf
    -- it keeps no journal, or nothing hinders that of the desk that the net keeps since
    pub journal : (setup.journal ≡ None) ⊎ IfSome new.desk (IsDeskUnhindered setup.arena)
    pub store_works : ¬ (Rose old.store.faults new.store.faults)
    pub launcher_works : ¬ (Rose old.launcher.faults new.launcher.faults)
    pub net_works : ¬ (Rose old.net.faults new.net.faults)
    pub stations_work : All (λ station. (station.door.faults ≡ 0) × (station.log.faults ≡ 0)) (map tells new.kept)
    pub sink_works : ¬ (Rose old.sink.faults new.sink.faults)
    pub log_works : ¬ (Rose old.log.faults new.log.faults)

  -- A node that nothing hinders ends with 0, with 71 for want of memory, with 77 once the queue had all the calls that it can have, or with
  -- 65 once its journal had all the numbers.
  abbrev pub NodeCompletes : Setup → ℕ → Outside S → Outside S → Type 0
  NodeCompletes setup code old new =
      NodeUnhindered setup old new → (code ≡ 0) ⊎ ((code ≡ 71) ⊎ ((code ≡ 77) ⊎ ((code ≡ 65) × HasJournal setup)))

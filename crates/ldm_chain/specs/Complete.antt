-- When a chain is fed, and all its text is written.
use Rattle.std.specs.Prelude.{◌≡◌, ◌⊎◌, ℕ, ◌<◌, List, length, Option, Some, None}
use Rattle.ldm_outside.specs.Count.{Rose}
use Rattle.ldm_outside.specs.Store.{File, StoreRecord}
use Rattle.ldm_class.specs.Rules.{Rules}
use Rattle.ldm_conf.specs.Confs.{ConfView}
use Rattle.ldm_conf.specs.Reading.{Read}
use Rattle.ldm_command_files.specs.ConfFiles.{FileReadsTo}
use Rattle.ldm_chain.specs.Script.{script_played}
use Rattle.ldm_status.specs.declared.whole_script.TheConstants.{LONGEST_SCRIPT}
use Rattle.ldm_chain.specs.Work.{ChainOutside, ChainWork, IsGoodSize}
use Rattle.ldm_chain.specs.Policy.{TakesRules}
use Rattle.ldm_chain.specs.Unfed.{LeavesNothing, LeavesUnmeant}

-- the store tells its files, and the file under the path, where one is given, is a configuration
abbrev pub HasConf : Option (List ℕ) → StoreRecord → Type 0
HasConf None store = Unit {0}
HasConf (Some path) store = ((files : List File) × (store.files ≡ Some files)) × ((conf : ConfView) × FileReadsTo store path (Read conf))

-- The rules leave each node some of its class, and each pattern of that means something.
pub record LeavesAll (rules : Rules) (work : ChainWork) : Type 0 where
  pub some : ¬ (LeavesNothing rules work)
  pub meant : ¬ (LeavesUnmeant rules work)

-- Nothing hinders a chain: there are such queues; the configuration is one, and its rules leave each node some of its class, in which each
-- pattern means something; the source tells a script of fewer bytes than are too many, each line of which is in the grammar; and no count
-- of faults rose.
pub record ChainUnhindered (work : ChainWork) (old new : ChainOutside) : Type 0 where
  pub good : IsGoodSize work
  pub conf : HasConf work.conf old.store
  pub leaves : (rules : Rules) → TakesRules work.conf rules old.store new.store → LeavesAll rules work
  pub script : List ℕ
  pub told : old.streams.source.left ≡ Some script
  pub short : length script < LONGEST_SCRIPT
  pub to_end : (script_played work.arena work.slots script).stop ≡ None
  pub store_works : ¬ (Rose old.store.faults new.store.faults)
  pub source_works : ¬ (Rose old.streams.source.faults new.streams.source.faults)
  pub sink_works : ¬ (Rose old.streams.sink.faults new.streams.sink.faults)
  pub log_works : ¬ (Rose old.streams.log.faults new.streams.log.faults)

-- A chain that nothing hinders ends with 0, or with 71 for want of memory.
abbrev pub ChainCompletes : ChainWork → ℕ → ChainOutside → ChainOutside → Type 0
ChainCompletes work code old new = ChainUnhindered work old new → (code ≡ 0) ⊎ (code ≡ 71)

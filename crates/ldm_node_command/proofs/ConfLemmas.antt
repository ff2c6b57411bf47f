-- The configuration that was taken.
use Rattle.std.proofs.Common.{◌≡◌, ◌∙◌, ◌⊎◌, ℕ, List, Some, Ok, Err, Result, inl, inr, sym, ap}
use Rattle.ldm_outside.specs.Count.{Rose}
use Rattle.ldm_outside.specs.Store.{File, StoreRecord}
use Rattle.ldm_conf.specs.declared.conf.Conf.{Conf}
use Rattle.ldm_conf.specs.Confs.{ConfView, conf_view}
use Rattle.ldm_conf.specs.Reading.{Read}
use Rattle.ldm_command_files.specs.declared.conf_file.ConfNotTaken.{ConfNotTaken}
use Rattle.ldm_command_files.specs.declared.conf_file.ConfNotTaken.TheVariants.{OutOfMemory}
use Rattle.ldm_command_files.specs.ConfFiles.{CompletesConf, FileReadsTo, IsAnswer, TakesConf}
use Rattle.ldm_node_command.specs.Ending.{Takes, TakesNone}

-- there was no memory
abbrev IsShort : Result Conf ConfNotTaken → Type 0
IsShort result = result ≡ Err OutOfMemory

sole_answer : (conf : Conf) (other : ConfView) → IsAnswer (Read other) (Ok conf) ⊎ IsShort (Ok conf) → other ≡ conf_view conf
sole_answer conf other (inl (it, same, view)) =
    let is : it ≡ conf = cc in
    sym view ∙ ap conf_view is
sole_answer conf other (inr no_memory) = absurd (cc)

-- a configuration was taken
pub takes : (conf : Conf) (path : List ℕ) (old new : StoreRecord) → TakesConf (Ok conf) path old new → CompletesConf (Ok conf) path old new → Takes (conf_view conf) path old new
takes conf path old new taken completes = record {
  reads = taken.0;
  same = taken.1;
  sole = λ files other told reads works. sole_answer conf other (completes files (Read other) told reads works);
}

no_answer : (why : ConfNotTaken) (other : ConfView) → IsAnswer (Read other) (Err why) ⊎ IsShort (Err why) → why ≡ OutOfMemory
no_answer why other (inl (it, same, view)) = absurd (cc)
no_answer why other (inr no_memory) = cc

-- files that mean a configuration are not taken for want of memory alone
pub takes_none : (why : ConfNotTaken) (path : List ℕ) (old new : StoreRecord) → TakesNone why path old new → (files : List File) (conf : ConfView) → old.files ≡ Some files
    → FileReadsTo old path (Read conf)
    → ¬ (Rose old.faults new.faults) → why ≡ OutOfMemory
takes_none why path old new none files conf told reads works = no_answer why conf (none.completes files (Read conf) told reads works)

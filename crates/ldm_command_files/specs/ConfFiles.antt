-- Taking the configuration that a file and those that it includes mean.
use Rattle.std.specs.Prelude.{◌≡◌, ◌⊎◌, ℕ, List, Some, Result, Ok, Err}
use Rattle.ldm_outside.specs.Count.{Rose}
use Rattle.ldm_outside.specs.Store.{File, StoreRecord, ReadsFile}
use Rattle.ldm_outside.specs.declared.store.FileRead.{FileRead}
use Rattle.ldm_outside.specs.declared.store.FileRead.TheVariants as file
use Rattle.ldm_text.specs.declared.limits.TheConstants.{LONGEST_CONFIGURATION}
use Rattle.ldm_conf.specs.declared.conf.Conf.{Conf}
use Rattle.ldm_conf.specs.declared.fault.ConfFault.{ConfFault}
use Rattle.ldm_conf.specs.declared.fault.ConfKind.{ConfKind}
use Rattle.ldm_conf.specs.declared.fault.ConfKind.TheVariants as kind
use Rattle.ldm_conf.specs.Causes.{IsIn, IsOfLine, ReadsTo, StandsAt, first_too_long, kind_number}
use Rattle.ldm_conf.specs.Confs.{conf_view}
use Rattle.ldm_conf.specs.Reading.{End, Faulty, Line, Read, Wants}
use Rattle.ldm_status.specs.declared.status.Status.{Status}
use Rattle.ldm_status.specs.declared.status.Status.TheVariants as status
use Rattle.ldm_command_files.specs.declared.conf_file.ConfNotTaken.{ConfNotTaken}
use Rattle.ldm_command_files.specs.declared.conf_file.ConfNotTaken.TheVariants.{Bad, Store, OutOfMemory}

-- The file under a path came, and reading it comes to that end, with files of the store.
pub record FileReadsTo (store : StoreRecord) (path : List ℕ) (end : End) : Type 0 where
  pub bytes : List ℕ
  pub first : IsIn store (record { path = path; bytes = bytes })
  pub reads : ReadsTo store bytes end

-- An INCLUDE line to which reading comes includes the file under that path, and a fault stands at it.
pub record IsIncluded (store : StoreRecord) (path : List ℕ) (fault : ConfFault) (wanted : List ℕ) : Type 0 where
  pub line : Line
  pub reads : FileReadsTo store path (Wants line wanted)
  pub place : StandsAt fault line

-- the file that did not come is the first, or one that is included
abbrev pub IsWanted : StoreRecord → List ℕ → ConfFault → List ℕ → Type 0
IsWanted store path fault wanted = ((wanted ≡ path) × (fault ≡ first_too_long)) ⊎ IsIncluded store path fault wanted

-- A file did not come: the store answered so.
pub record IsUnread (answer : FileRead) (path : List ℕ) (fault : ConfFault) (old new : StoreRecord) : Type 0 where
  pub wanted : List ℕ
  pub is_wanted : IsWanted old path fault wanted
  pub answered : ReadsFile answer wanted LONGEST_CONFIGURATION old new

-- the first faulty line, by the kind of its fault
abbrev pub IsBad : ConfKind → ConfFault → List ℕ → StoreRecord → StoreRecord → Type 0
IsBad kind.Keyword fault path old new = IsOfLine (FileReadsTo old path) fault old new
IsBad kind.Fields fault path old new = IsOfLine (FileReadsTo old path) fault old new
IsBad kind.Feed fault path old new = IsOfLine (FileReadsTo old path) fault old new
IsBad kind.Pattern fault path old new = IsOfLine (FileReadsTo old path) fault old new
IsBad kind.Depth fault path old new = IsOfLine (FileReadsTo old path) fault old new
IsBad kind.Long fault path old new = IsUnread file.TooLong path fault old new
IsBad kind.Store fault path old new = ⊥
IsBad kind.OutOfMemory fault path old new = ⊥

-- What `take_conf` did with the file under a path.
abbrev pub TakesConf : Result Conf ConfNotTaken → List ℕ → StoreRecord → StoreRecord → Type 0
TakesConf (Ok conf) path old new = FileReadsTo old path (Read (conf_view conf)) × (new ≡ old)
TakesConf (Err (Bad fault)) path old new = IsBad fault.kind fault path old new
TakesConf (Err Store) path old new = (wanted : List ℕ) × (fault : ConfFault) × IsWanted old path fault wanted × ReadsFile file.Failed wanted LONGEST_CONFIGURATION old new
TakesConf (Err OutOfMemory) path old new = new ≡ old

-- the answer is that of an end of reading; where a file has not come, nothing is said
abbrev pub IsAnswer : End → Result Conf ConfNotTaken → Type 0
IsAnswer (Read view) result = (conf : Conf) × (result ≡ Ok conf) × (conf_view conf ≡ view)
IsAnswer (Faulty fault) result = result ≡ Err (Bad fault)
IsAnswer (Wants line path) result = Unit {0}

-- Where the store tells its files and did not fail, the answer is that of the end to which these files come, or there is no memory.
abbrev pub CompletesConf : Result Conf ConfNotTaken → List ℕ → StoreRecord → StoreRecord → Type 0
CompletesConf result path old new =
    (files : List File) (end : End) → old.files ≡ Some files → FileReadsTo old path end → ¬ Rose old.faults new.faults
    → IsAnswer end result ⊎ (result ≡ Err OutOfMemory)

-- the status of a command that took no configuration
abbrev pub status_of_conf : ConfNotTaken → Status
status_of_conf (Bad fault) = status.BadConf fault.file fault.line (kind_number fault.kind)
status_of_conf Store = status.StoreFault
status_of_conf OutOfMemory = status.NoMemory

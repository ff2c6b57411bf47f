-- Taking the entries that a file means.
use Rattle.std.specs.Prelude.{◌≡◌, ◌⊎◌, ℕ, List, Some, Result, Ok, Err}
use Rattle.ldm_outside.specs.Count.{Rose}
use Rattle.ldm_outside.specs.Store.{File, StoreRecord, ReadsFile}
use Rattle.ldm_outside.specs.declared.store.FileRead.TheVariants as file
use Rattle.ldm_text.specs.declared.limits.TheConstants.{LONGEST_CONFIGURATION}
use Rattle.ldm_conf.specs.Causes.{IsIn}
use Rattle.ldm_pqact_conf.specs.declared.fault.PqactFault.{PqactFault}
use Rattle.ldm_pqact_conf.specs.declared.fault.PqactKind.TheVariants as kind
use Rattle.ldm_pqact_conf.specs.Causes.{kind_number}
use Rattle.ldm_pqact_conf.specs.Entries.{EntryView, pqact_entries}
use Rattle.ldm_status.specs.declared.status.Status.{Status}
use Rattle.ldm_status.specs.declared.status.Status.TheVariants as status
use Rattle.ldm_command_files.specs.declared.pqact_file.EntriesNotTaken.{EntriesNotTaken}
use Rattle.ldm_command_files.specs.declared.pqact_file.EntriesNotTaken.TheVariants.{Bad, TooLong, Store, OutOfMemory}

-- The file under a path came, and its text means that.
pub record FileMeans (store : StoreRecord) (path : List ℕ) (meaning : Result (List EntryView) PqactFault) : Type 0 where
  pub bytes : List ℕ
  pub came : IsIn store (record { path = path; bytes = bytes })
  pub means : pqact_entries bytes ≡ meaning

-- What `take_entries` did with the file under a path.
abbrev pub TakesEntries : Result (List EntryView) EntriesNotTaken → List ℕ → StoreRecord → StoreRecord → Type 0
TakesEntries (Ok entries) path old new = FileMeans old path (Ok entries) × (new ≡ old)
TakesEntries (Err (Bad fault)) path old new = FileMeans old path (Err fault) × ¬ (fault.kind ≡ kind.OutOfMemory) × (new ≡ old)
TakesEntries (Err TooLong) path old new = ReadsFile file.TooLong path LONGEST_CONFIGURATION old new
TakesEntries (Err Store) path old new = ReadsFile file.Failed path LONGEST_CONFIGURATION old new
TakesEntries (Err OutOfMemory) path old new = new ≡ old

-- the answer is that of a text's meaning
abbrev pub IsAnswer : Result (List EntryView) PqactFault → Result (List EntryView) EntriesNotTaken → Type 0
IsAnswer (Ok entries) result = result ≡ Ok entries
IsAnswer (Err fault) result = result ≡ Err (Bad fault)

-- Where the store tells its files and did not fail, the answer is that of the text under the path, or there is no memory.
abbrev pub CompletesEntries : Result (List EntryView) EntriesNotTaken → List ℕ → StoreRecord → StoreRecord → Type 0
CompletesEntries result path old new =
    (files : List File) (meaning : Result (List EntryView) PqactFault) → old.files ≡ Some files → FileMeans old path meaning → ¬ Rose old.faults new.faults
    → IsAnswer meaning result ⊎ (result ≡ Err OutOfMemory)

-- the status of a command that took no entries
abbrev pub status_of_entries : EntriesNotTaken → Status
status_of_entries (Bad fault) = status.BadPqact fault.line (kind_number fault.kind)
status_of_entries TooLong = status.BadPqact 0 0
status_of_entries Store = status.StoreFault
status_of_entries OutOfMemory = status.NoMemory

-- Files that are kept open, and what each step of keeping them does.
use Rattle.std.specs.Prelude.{◌≡◌, ℕ, ◌-◌, ◌≤◌, ◌⊎◌, Bool, true, nat_lt, if◌then◌else◌, List, [], ◌∷◌, length, take, Option, Some, None, option_map, Result, Ok, Err}
use Rattle.ldm_outside.specs.Count.{Rose}
use Rattle.ldm_outside.specs.declared.fault.Failed.{Failed}
use Rattle.ldm_outside.specs.declared.store.FileNo.{FileNo}
use Rattle.ldm_outside.specs.Numbered.{without_number}
use Rattle.ldm_outside.specs.Store.{File, IsOpen, OpensFile, ShutsFile, StoreFails, StoreRecord, path_of, with_changed, with_flushed, with_made, with_opened}
use Rattle.ldm_actions.specs.declared.answers.Begun.{Begun}
use Rattle.ldm_actions.specs.declared.answers.Begun.TheVariants as begun
use Rattle.ldm_actions.specs.declared.limits.TheConstants.{MOST_OPEN}
use Rattle.ldm_actions.specs.Kept.{AreApart, Each, first_of, last_of, number_under, raised_by}

-- the files that are kept open, and what the store tells
pub record FileSide : Type 0 where
  pub kept : List (List ℕ × ℕ)
  pub store : StoreRecord

abbrev pub file_side : List (List ℕ × ℕ) → StoreRecord → FileSide
file_side kept store = record { kept = kept; store = store }

abbrev pub file_no : ℕ → FileNo
file_no number = record { 0 = number }

-- A file that is kept is open in the store, under its path.
pub record IsOpenUnder (store : StoreRecord) (it : List ℕ × ℕ) : Type 0 where
  pub is_open : IsOpen (file_no it.1) store
  pub under : path_of (file_no it.1) store ≡ Some it.0

-- The files that are kept are of this store and open there, and there are not too many.
pub record KeepsFiles (side : FileSide) : Type 0 where
  pub are_open : Each (IsOpenUnder side.store) side.kept
  pub apart : AreApart side.kept
  pub few : length side.kept ≤ MOST_OPEN

-- No more files are open in the store than are kept: since each that is kept is open, nothing else is.
abbrev pub OpensNoMore : FileSide → Type 0
OpensNoMore side = length side.store.paths ≤ length side.kept

-- ---- what the store tells

-- the store after a file that is kept was shut, if there is one: what is open is what was open before, less that one
abbrev pub shut_in : Option (List ℕ × ℕ) → StoreRecord → StoreRecord
shut_in None store = store
shut_in (Some it) store = record store { paths = without_number it.1 store.paths }

-- the same of a file by its number
abbrev pub with_gone_shut : Option ℕ → StoreRecord → StoreRecord
with_gone_shut None store = store
with_gone_shut (Some number) store = record store { paths = without_number number store.paths }

-- after one that is kept was flushed, if there is one: it has been flushed once more
abbrev pub flushed_in : Option (List ℕ × ℕ) → StoreRecord → StoreRecord
flushed_in None store = store
flushed_in (Some it) store = with_flushed (file_no it.1) store

-- after one more was made room for: where as many are kept as may be, the one that was used longest ago is shut
abbrev pub store_with_room : List (List ℕ × ℕ) → StoreRecord → StoreRecord
store_with_room kept store = if nat_lt (length kept) MOST_OPEN then store else shut_in (last_of kept) store

abbrev pub store_used_by : Option ℕ → List ℕ → List (List ℕ × ℕ) → StoreRecord → StoreRecord
store_used_by (Some number) path kept store = store
store_used_by None path kept store = with_opened path (store_with_room kept store)

-- after the file of a path was used, where these are kept: it is opened, with room for it, where it is not kept
abbrev pub store_used : List ℕ → List (List ℕ × ℕ) → StoreRecord → StoreRecord
store_used path kept store = store_used_by (number_under path kept) path kept store

-- after all bytes of the file of a path were taken away
abbrev pub store_emptied : List ℕ → StoreRecord → StoreRecord
store_emptied path store = record store { files = option_map (with_changed path (λ _. [])) store.files }

-- after the file of a path was used, and was emptied where it is to be written anew
abbrev pub store_begun : Bool → List ℕ → List (List ℕ × ℕ) → StoreRecord → StoreRecord
store_begun overwrite path kept store = if overwrite then store_emptied path (store_used path kept store) else store_used path kept store

abbrev pub store_flushed : Bool → List (List ℕ × ℕ) → StoreRecord → StoreRecord
store_flushed flush kept store = if flush then flushed_in (first_of kept) store else store

-- after the file that was used last was flushed, and was shut, where that is wanted
abbrev pub store_finished : Bool → Bool → List (List ℕ × ℕ) → StoreRecord → StoreRecord
store_finished flush close kept store =
    if close then shut_in (first_of kept) (store_flushed flush kept store) else store_flushed flush kept store

-- after all that are kept were shut, the one that was used longest ago first
abbrev pub all_shut : List (List ℕ × ℕ) → StoreRecord → StoreRecord
all_shut [] store = store
all_shut (it ∷ others) store = shut_in (Some it) (all_shut others store)

-- ---- what is kept

-- the files that are kept after one was made room for: where as many are open as may, the one that was used longest ago is shut
abbrev pub with_room_open : List (List ℕ × ℕ) → List (List ℕ × ℕ)
with_room_open kept = if nat_lt (length kept) MOST_OPEN then kept else take (length kept - 1) kept

abbrev pub used_by : Option ℕ → List ℕ → ℕ → List (List ℕ × ℕ) → List (List ℕ × ℕ)
used_by (Some number) path next kept = raised_by (Some number) path kept
used_by None path next kept = (path, next) ∷ with_room_open kept

-- the files that are kept after that of a path was used, where the next one that is opened has this number
abbrev pub used : List ℕ → ℕ → List (List ℕ × ℕ) → List (List ℕ × ℕ)
used path next kept = used_by (number_under path kept) path next kept

-- all files after that of a path was opened
abbrev pub files_made : List ℕ → Option (List File) → Option (List File)
files_made path files = option_map (with_made path) files

-- and was emptied, where it is to be written anew
abbrev pub files_begun : Bool → List ℕ → Option (List File) → Option (List File)
files_begun overwrite path files =
    if overwrite then option_map (with_changed path (λ _. [])) (files_made path files) else files_made path files

-- ---- what a step did

-- No call failed. These are kept now, these are all files, and this is what the store tells.
pub record FilesBecome (kept : List (List ℕ × ℕ)) (files : Option (List File)) (store : StoreRecord) (old new : FileSide) : Type 0 where
  pub kept_now : new.kept ≡ kept
  pub files_now : new.store.files ≡ files
  pub store_now : new.store ≡ store
  pub no_more : OpensNoMore old → OpensNoMore new
  pub faults : new.store.faults ≡ old.store.faults
  pub long : new.store.long ≡ old.store.long
  pub keeps : KeepsFiles new

-- The store failed, and these are all files.
pub record FilesFail (files : Option (List File)) (old new : FileSide) : Type 0 where
  pub rose : Rose old.store.faults new.store.faults
  pub files_now : new.store.files ≡ files
  pub few_open : OpensNoMore old → length new.store.paths ≤ MOST_OPEN
  pub long : new.store.long ≡ old.store.long

-- What shutting the file of a number did, if there is one,
abbrev pub ShutsGone : Option ℕ → Result (Unit {0}) Failed → StoreRecord → StoreRecord → Type 0
ShutsGone None result old new = (result ≡ Ok tt) × (new ≡ old)
ShutsGone (Some number) result old new = ShutsFile result (file_no number) old new

-- and opening the file of a path behind that.
abbrev pub OpensAfter : Result FileNo Failed → Option ℕ → List ℕ → StoreRecord → StoreRecord → Type 0
OpensAfter (Ok file) gone path old new = OpensFile (Ok file) path (with_gone_shut gone old) new
OpensAfter (Err failed) gone path old new = ShutsGone gone (Err failed) old new ⊎ StoreFails (with_gone_shut gone old) new

-- What a step did that changes no file: these are kept after it, and this is what the store tells; or the store failed.
abbrev pub KeepsOr : Result (Unit {0}) Failed → List (List ℕ × ℕ) → StoreRecord → FileSide → FileSide → Type 0
KeepsOr (Ok ok) kept store old new = FilesBecome kept old.store.files store old new × (new.store.next ≡ old.store.next)
KeepsOr (Err failed) kept store old new = FilesFail old.store.files old new

-- What using the file of a path did: it is open, and was made where it was not there; or the store failed, before that; or there
-- was no memory, and nothing was done.
abbrev pub UsesFile : Begun → List ℕ → FileSide → FileSide → Type 0
UsesFile begun.Ready path old new =
    FilesBecome (used path old.store.next old.kept) (files_made path old.store.files) (store_used path old.kept old.store) old new
UsesFile begun.StoreFault path old new = FilesFail old.store.files old new
UsesFile begun.LaunchFault path old new = ⊥
UsesFile begun.OutOfMemory path old new = new ≡ old

-- What beginning to write to it did.
abbrev pub BeginsFile : Begun → Bool → List ℕ → FileSide → FileSide → Type 0
BeginsFile begun.Ready overwrite path old new =
    FilesBecome (used path old.store.next old.kept) (files_begun overwrite path old.store.files)
    (store_begun overwrite path old.kept old.store) old new
BeginsFile begun.StoreFault overwrite path old new =
    FilesFail old.store.files old new ⊎ ((overwrite ≡ true) × FilesFail (files_made path old.store.files) old new)
BeginsFile begun.LaunchFault overwrite path old new = ⊥
BeginsFile begun.OutOfMemory overwrite path old new = new ≡ old

-- What a store of files tells, and what each call of it does.
use Rattle.std.specs.Prelude.{◌≡◌, ℕ, ◌+◌, ◌<◌, ◌≤◌, List, [], ◌∷◌, ◌++◌, length, take, Option, Some, None, IsSome, IfSome, option_map, Result, Ok, Err, bytes_eq, if◌then◌else◌}
use Rattle.ldm_outside.specs.declared.fault.Failed.{Failed}
use Rattle.ldm_outside.specs.declared.io.Put.{Put}
use Rattle.ldm_outside.specs.declared.io.Put.TheVariants as put
use Rattle.ldm_outside.specs.declared.store.FileNo.{FileNo}
use Rattle.ldm_outside.specs.declared.store.FileRead.{FileRead}
use Rattle.ldm_outside.specs.declared.store.FileRead.TheVariants as read
use Rattle.ldm_outside.specs.Count.{Rose}
use Rattle.ldm_outside.specs.Numbered.{at_number, with_number, without_number}

-- What stands under a path.
pub record File : Type 0 where
  pub path : List ℕ
  pub bytes : List ℕ

-- What a store tells at a moment.
pub record StoreRecord : Type 0 where
  -- how often it failed
  pub faults : ℕ
  -- how often a file was too long to be read
  pub long : ℕ
  -- the number that the next file gets which is opened
  pub next : ℕ
  -- the paths of the files that are open now, under their numbers
  pub paths : List (ℕ × List ℕ)
  -- the paths of all files that were ever opened, in order, where it tells them
  pub opened : Option (List (List ℕ))
  -- all files that there are, in the order in which they were made, where it tells them
  pub files : Option (List File)
  -- the numbers of the files that were flushed, one for each call and in order, where it tells them
  pub flushed : Option (List FileNo)

-- the bytes under a path: those of the first file that has it
abbrev pub bytes_under : List ℕ → List File → Option (List ℕ)
bytes_under path [] = None
bytes_under path (file ∷ rest) = if bytes_eq file.path path then Some file.bytes else bytes_under path rest

-- the files with an empty one behind them, where the path had none
abbrev pub with_made : List ℕ → List File → List File
with_made path [] = record { path = path; bytes = [] } ∷ []
with_made path (file ∷ rest) = if bytes_eq file.path path then file ∷ rest else file ∷ with_made path rest

-- the files after the bytes under a path were changed
abbrev pub with_changed : List ℕ → (List ℕ → List ℕ) → List File → List File
with_changed path change [] = []
with_changed path change (file ∷ rest) =
    if bytes_eq file.path path then record file { bytes = change file.bytes } ∷ rest else file ∷ with_changed path change rest

-- the path of an open file
abbrev pub path_of : FileNo → StoreRecord → Option (List ℕ)
path_of file store = at_number file.0 store.paths

-- there is a file under the path, where the store tells its files
abbrev pub IsThere : List ℕ → StoreRecord → Type 0
IsThere path store = IfSome store.files (λ files. IsSome (bytes_under path files))

-- The number was given, its file is not shut, and is among the files.
pub record IsOpen (file : FileNo) (store : StoreRecord) : Type 0 where
  pub path : List ℕ
  pub given : file.0 < store.next
  pub not_shut : path_of file store ≡ Some path
  pub there : IsThere path store

-- the store failed: nothing changed but its count
abbrev pub StoreFails : StoreRecord → StoreRecord → Type 0
StoreFails old new = Rose old.faults new.faults × (new ≡ record old { faults = new.faults })

-- the files after the bytes of an open file were changed
abbrev pub with_file : Option (List ℕ) → (List ℕ → List ℕ) → List File → List File
with_file None change files = files
with_file (Some path) change files = with_changed path change files

-- the bytes of an open file were changed, and nothing else
abbrev pub ChangesFile : FileNo → (List ℕ → List ℕ) → StoreRecord → StoreRecord → Type 0
ChangesFile file change old new =
    new ≡ record old { files = option_map (with_file (path_of file old) change) old.files }

-- What one call of `read_file` did.
abbrev pub ReadsFile : FileRead → List ℕ → ℕ → StoreRecord → StoreRecord → Type 0
-- all bytes of the file came
ReadsFile (read.Bytes bytes) path limit old new =
    (length bytes.items ≤ limit) × IfSome old.files (λ files. bytes_under path files ≡ Some bytes.items) × (new ≡ old)
-- the file is above the limit
ReadsFile read.TooLong path limit old new =
    Rose old.long new.long
    × (new ≡ record old { long = new.long })
    × IfSome old.files (λ files. (bytes : List ℕ) × (bytes_under path files ≡ Some bytes) × (limit < length bytes))
-- there is no such file, or the store failed
ReadsFile read.Failed path limit old new = StoreFails old new
-- nothing changed
ReadsFile read.OutOfMemory path limit old new = new ≡ old

-- the store after the file under a path was opened, and made where there was none
abbrev pub with_opened : List ℕ → StoreRecord → StoreRecord
with_opened path old = record old {
  next = old.next + 1;
  paths = with_number old.next path old.paths;
  opened = option_map (λ paths. paths ++ path ∷ []) old.opened;
  files = option_map (with_made path) old.files;
}

-- What one call of `append_to` did.
abbrev pub OpensFile : Result FileNo Failed → List ℕ → StoreRecord → StoreRecord → Type 0
-- the next number was given
OpensFile (Ok file) path old new = (file.0 ≡ old.next) × (new ≡ with_opened path old)
OpensFile (Err failed) path old new = StoreFails old new

-- What one call of `empty` did.
abbrev pub EmptiesFile : Result (Unit {0}) Failed → FileNo → StoreRecord → StoreRecord → Type 0
EmptiesFile (Ok done) file old new = ChangesFile file (λ _. []) old new
EmptiesFile (Err failed) file old new = StoreFails old new

-- What one call of `write` did.
abbrev pub WritesFile : Put → FileNo → List ℕ → StoreRecord → StoreRecord → Type 0
-- the front of the piece stands at the end of the file
WritesFile (put.Took n) file piece old new =
    (n ≤ length piece) × (0 < length piece → 0 < n) × ChangesFile file (λ bytes. bytes ++ take n piece) old new
WritesFile put.Failed file piece old new = StoreFails old new

-- the store after a file was flushed
abbrev pub with_flushed : FileNo → StoreRecord → StoreRecord
with_flushed file old = record old { flushed = option_map (λ files. files ++ file ∷ []) old.flushed }

-- What one call of `flush` did.
abbrev pub FlushesFile : Result (Unit {0}) Failed → FileNo → StoreRecord → StoreRecord → Type 0
FlushesFile (Ok done) file old new = new ≡ with_flushed file old
FlushesFile (Err failed) file old new = StoreFails old new

-- What one call of `shut` did.
abbrev pub ShutsFile : Result (Unit {0}) Failed → FileNo → StoreRecord → StoreRecord → Type 0
ShutsFile (Ok done) file old new = new ≡ record old { paths = without_number file.0 old.paths }
ShutsFile (Err failed) file old new = StoreFails old new

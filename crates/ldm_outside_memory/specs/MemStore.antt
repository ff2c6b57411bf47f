-- What contracts see of a store in memory, and what one call of it does.
use Rattle.std.specs.Prelude.{◌≡◌, ℕ, ◌<◌, ◌≤◌, ◌⊎◌, true, false, List, [], ◌∷◌, ◌++◌, length, take, min, Option, Some, None, Result, Ok, Err, bytes_eq, position}
use Rattle.ldm_outside.specs.declared.fault.Failed.{Failed}
use Rattle.ldm_outside.specs.declared.io.Put.{Put}
use Rattle.ldm_outside.specs.declared.io.Put.TheVariants as put
use Rattle.ldm_outside.specs.declared.store.FileNo.{FileNo}
use Rattle.ldm_outside.specs.declared.store.FileRead.{FileRead}
use Rattle.ldm_outside.specs.declared.store.FileRead.TheVariants as read
use Rattle.ldm_outside_memory.specs.Memory.{Plan, next_fails, after_call, first_plan}
use Rattle.ldm_outside.specs.Count.{raised}
use Rattle.ldm_outside.specs.Numbered.{at_number, with_number, without_number}
use Rattle.ldm_outside.specs.Store.{File, StoreRecord, bytes_under, with_made, with_file}

-- a store that fails at chosen calls
pub record StoreState : Type 0 where
  pub faults : ℕ
  -- how often a file was too long to be read
  pub long : ℕ
  -- the paths of the files that are open now, under their numbers
  pub paths : List (ℕ × List ℕ)
  -- the paths of all files that were ever opened: the number of a file is its place here
  pub opened : List (List ℕ)
  -- all files that there are
  pub files : List File
  -- the numbers of the files that were flushed
  pub flushed : List FileNo
  pub plan : Plan

-- what it tells
abbrev pub told_by_store : StoreState → StoreRecord
told_by_store s = record {
  faults = s.faults;
  long = s.long;
  next = length s.opened;
  paths = s.paths;
  opened = Some s.opened;
  files = Some s.files;
  flushed = Some s.flushed;
}

-- a store of these files, of which none was opened
abbrev pub first_store : List File → List ℕ → StoreState
first_store files failing =
    record { faults = 0; long = 0; paths = []; opened = []; files = files; flushed = []; plan = first_plan failing }

-- the place of the first file under a path
abbrev pub place_under : List ℕ → List File → Option ℕ
place_under path files = position (λ file. bytes_eq file.path path) files

-- What reading the file under a path among these gives: it fails where there is none.
abbrev pub ReadsFiles : FileRead → List ℕ → ℕ → List File → Type 0
ReadsFiles (read.Bytes bytes) path limit files = (bytes_under path files ≡ Some bytes.items) × (length bytes.items ≤ limit)
ReadsFiles read.TooLong path limit files = (bytes : List ℕ) × (bytes_under path files ≡ Some bytes) × (limit < length bytes)
ReadsFiles read.Failed path limit files = bytes_under path files ≡ None
ReadsFiles read.OutOfMemory path limit files = Unit {0}

-- the store after a call that changed nothing
abbrev pub store_called : StoreState → StoreState
store_called old = record old { plan = after_call old.plan }

-- the store after a call that failed
abbrev pub store_failed : StoreState → StoreState
store_failed old = record old { faults = raised old.faults; plan = after_call old.plan }

-- the store after a call that changed the bytes of an open file
abbrev pub store_changed : FileNo → (List ℕ → List ℕ) → StoreState → StoreState
store_changed file change old =
    record old { files = with_file (at_number file.0 old.paths) change old.files; plan = after_call old.plan }

-- What one call of `read_file` did: it fails where its plan says so, and where there is no file.
abbrev pub ReadsFileAsPlanned : FileRead → List ℕ → ℕ → StoreState → StoreState → Type 0
ReadsFileAsPlanned (read.Bytes bytes) path limit old new =
    (next_fails old.plan ≡ false) × ReadsFiles (read.Bytes bytes) path limit old.files × (new ≡ store_called old)
ReadsFileAsPlanned read.TooLong path limit old new =
    (next_fails old.plan ≡ false)
    × ReadsFiles read.TooLong path limit old.files
    × (new ≡ record old { long = raised old.long; plan = after_call old.plan })
ReadsFileAsPlanned read.Failed path limit old new =
    ((next_fails old.plan ≡ true) ⊎ ReadsFiles read.Failed path limit old.files) × (new ≡ store_failed old)
ReadsFileAsPlanned read.OutOfMemory path limit old new = (next_fails old.plan ≡ false) × (new ≡ store_called old)

-- What one call of `append_to` did. Without memory for what it keeps a call fails too.
abbrev pub OpensFileAsPlanned : Result FileNo Failed → List ℕ → StoreState → StoreState → Type 0
OpensFileAsPlanned (Ok file) path old new =
    (next_fails old.plan ≡ false)
    × (file.0 ≡ length old.opened)
    × (new ≡ record old {
      paths = with_number (length old.opened) path old.paths;
      opened = old.opened ++ path ∷ [];
      files = with_made path old.files;
      plan = after_call old.plan;
    })
OpensFileAsPlanned (Err failed) path old new = new ≡ store_failed old

-- What one call of `empty` did.
abbrev pub EmptiesFileAsPlanned : Result (Unit {0}) Failed → FileNo → StoreState → StoreState → Type 0
EmptiesFileAsPlanned (Ok done) file old new = (next_fails old.plan ≡ false) × (new ≡ store_changed file (λ _. []) old)
EmptiesFileAsPlanned (Err failed) file old new = (next_fails old.plan ≡ true) × (new ≡ store_failed old)

-- What one call of `write` did: it takes all that it may. Without memory for the bytes a call fails too.
abbrev pub WritesFileAsPlanned : Put → FileNo → List ℕ → StoreState → StoreState → Type 0
WritesFileAsPlanned (put.Took n) file piece old new =
    (next_fails old.plan ≡ false)
    × (n ≡ min (length piece) old.plan.most)
    × (new ≡ store_changed file (λ bytes. bytes ++ take n piece) old)
WritesFileAsPlanned put.Failed file piece old new = new ≡ store_failed old

-- What one call of `flush` did. Without memory for the number a call fails too.
abbrev pub FlushesFileAsPlanned : Result (Unit {0}) Failed → FileNo → StoreState → StoreState → Type 0
FlushesFileAsPlanned (Ok done) file old new =
    (next_fails old.plan ≡ false) × (new ≡ record old { flushed = old.flushed ++ file ∷ []; plan = after_call old.plan })
FlushesFileAsPlanned (Err failed) file old new = new ≡ store_failed old

-- What one call of `shut` did.
abbrev pub ShutsFileAsPlanned : Result (Unit {0}) Failed → FileNo → StoreState → StoreState → Type 0
ShutsFileAsPlanned (Ok done) file old new =
    (next_fails old.plan ≡ false) × (new ≡ record old { paths = without_number file.0 old.paths; plan = after_call old.plan })
ShutsFileAsPlanned (Err failed) file old new = (next_fails old.plan ≡ true) × (new ≡ store_failed old)

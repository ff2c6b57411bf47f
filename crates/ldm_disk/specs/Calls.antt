-- What one call of a disk does.
use Rattle.std.specs.Prelude.{◌≡◌, ℕ, ◌<◌, ◌≤◌, List, length, take, drop, Option, Some, None, IfSome, Result, Ok, Err, is_ok}
use Rattle.ldm_outside.specs.declared.fault.Failed.{Failed}
use Rattle.ldm_outside.specs.declared.io.Got.{Got}
use Rattle.ldm_outside.specs.declared.io.Got.TheVariants as got
use Rattle.ldm_outside.specs.Count.{Rose}
use Rattle.ldm_disk.specs.Told.{FileRecord, DiskRecord, IsSettled}
use Rattle.ldm_disk.specs.Model.{Stays, written_at, cut_to, step_of_write, step_of_failed_write, step_of_cut}
use Rattle.ldm_disk.specs.Moments.{Goes}

-- A file changed so, where the disk tells it. A disk that does not tell goes on not to tell.
abbrev pub FileChanges : (FileRecord → FileRecord → Type 0) → Option FileRecord → Option FileRecord → Type 0
FileChanges change None None = Unit {0}
FileChanges change None (Some new) = ⊥
FileChanges change (Some old) None = ⊥
FileChanges change (Some old) (Some new) = change old new

-- what is read stays, and what a crash may leave was so before
pub record KeepsFile (old new : FileRecord) : Type 0 where
  pub bytes : new.bytes ≡ old.bytes
  pub goes : Goes Stays old new

-- the file is one that a crash might leave before, and nothing is pending
pub record SettlesFile (old new : FileRecord) : Type 0 where
  pub goes : Goes Stays old new
  pub settled : IsSettled new

-- What one call of `attach` did to the file: nothing is pending any more; or it failed.
abbrev pub AttachesFile : Result (Unit {0}) Failed → FileRecord → FileRecord → Type 0
AttachesFile (Ok done) old new = SettlesFile old new
AttachesFile (Err failed) old new = Goes Stays old new

abbrev pub Attaches : Result (Unit {0}) Failed → DiskRecord → DiskRecord → Type 0
Attaches result old new = (new.attached ≡ is_ok result) × FileChanges (AttachesFile result) old.file new.file

-- What one call of `len` gave.
abbrev pub LenGives : Result ℕ Failed → DiskRecord → DiskRecord → Type 0
LenGives (Ok len) old new = IfSome old.file (λ file. len ≡ length file.bytes)
LenGives (Err failed) old new = Rose old.faults new.faults

-- What one call of `read` gave. `into` is the buffer after the call.
abbrev pub ReadGives : Got → ℕ → List ℕ → DiskRecord → DiskRecord → Type 0
-- bytes of the file stand at the front of the buffer
ReadGives (got.Bytes n) at into old new =
    (n ≤ length into) × (0 < length into → 0 < n) × IfSome old.file (λ file. take n into ≡ take n (drop at file.bytes))
-- the file ends at the place or before it
ReadGives got.End at into old new = (0 < length into) × IfSome old.file (λ file. length file.bytes ≤ at)
ReadGives got.Failed at into old new = Rose old.faults new.faults

-- What one call of `write_at` did to the file. One that failed may have been done in part.
abbrev pub WritesFile : Result (Unit {0}) Failed → ℕ → List ℕ → FileRecord → FileRecord → Type 0
WritesFile (Ok done) at piece old new =
    (new.bytes ≡ written_at at piece old.bytes) × Goes (step_of_write at piece old.bytes) old new
WritesFile (Err failed) at piece old new = Goes (step_of_failed_write at piece old.bytes) old new

-- What one call of `cut` did to the file. One that failed may have been done.
abbrev pub CutsFile : Result (Unit {0}) Failed → ℕ → FileRecord → FileRecord → Type 0
CutsFile (Ok done) len old new = (new.bytes ≡ cut_to len old.bytes) × Goes (step_of_cut len old.bytes) old new
CutsFile (Err failed) len old new = Goes (step_of_cut len old.bytes) old new

-- What one call of `sync` did to the file: it reads as before, and nothing is pending any more. After one that failed
-- the file may read as any that a crash might leave before.
abbrev pub SyncsFile : Result (Unit {0}) Failed → FileRecord → FileRecord → Type 0
SyncsFile (Ok done) old new = (new.bytes ≡ old.bytes) × SettlesFile old new
SyncsFile (Err failed) old new = Goes Stays old new

-- a call that fails raises the count of faults
abbrev pub Rises : Result (Unit {0}) Failed → DiskRecord → DiskRecord → Type 0
Rises (Ok done) old new = old.faults ≤ new.faults
Rises (Err failed) old new = Rose old.faults new.faults

-- What every call but `attach` does: the count of faults does not fall, and the file stays attached or not.
pub record KeepsDisk (old new : DiskRecord) : Type 0 where
  pub faults : old.faults ≤ new.faults
  pub attached : new.attached ≡ old.attached

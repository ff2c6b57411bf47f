-- What contracts see of a disk in memory: its file as it reads, and what a crash may leave of it, now and at each
-- moment before.
use Rattle.std.specs.Prelude.{◌≡◌, ◌⊎◌, ℕ, ◌+◌, ◌-◌, ◌^◌, ◌==◌, Bool, true, false, ◌&&◌, ◌||◌, zero, suc, List, [], ◌∷◌, ◌++◌, length, map, drop, min, max, bytes_eq, nat_le, Option, Some, None, Result, Ok, Err}
use Rattle.std.specs.List.{list_any}
use Rattle.ldm_outside.specs.declared.fault.Failed.{Failed}
use Rattle.ldm_outside.specs.declared.io.Got.{Got}
use Rattle.ldm_outside.specs.declared.io.Got.TheVariants as got
use Rattle.ldm_disk_memory.specs.declared.mem_file.Change.{Change}
use Rattle.ldm_disk_memory.specs.declared.schedule.DiskCall.{DiskCall}
use Rattle.ldm_disk_memory.specs.declared.schedule.DiskCall.TheVariants as calls
use Rattle.ldm_disk.specs.Told.{FileRecord, DiskRecord}
use Rattle.ldm_disk.specs.Model.{written_at, cut_to}

-- What a crash may leave: each byte that stays, in its place, with no byte where it may be any, as past the end of
-- this list; and the lengths that the file may have.
pub record Fragile : Type 0 where
  pub stays : List (Option ℕ)
  pub lengths : List ℕ

-- whether a byte is allowed
abbrev pub allows : Option ℕ → ℕ → Bool
allows None byte = true
allows (Some kept) byte = byte == kept

-- whether each byte of a file is allowed
abbrev pub fits : List (Option ℕ) → List ℕ → Bool
fits [] left = true
fits (kept ∷ stays) [] = true
fits (kept ∷ stays) (byte ∷ left) = allows kept byte && fits stays left

-- the bytes from one place on and before another may be any
abbrev pub loosened : ℕ → ℕ → List (Option ℕ) → List (Option ℕ)
loosened start end [] = []
loosened start zero (kept ∷ stays) = kept ∷ stays
loosened zero (suc end) (kept ∷ stays) = None ∷ loosened zero end stays
loosened (suc start) (suc end) (kept ∷ stays) = kept ∷ loosened start end stays

-- a crash leaves these bytes, and nothing else
abbrev pub settled : List ℕ → Fragile
settled bytes = record { stays = map (λ (byte : ℕ). Some byte) bytes; lengths = length bytes ∷ [] }

abbrev pub changed : Change → Fragile → Fragile
changed change fragile = record {
  stays = loosened change.start change.end fragile.stays;
  lengths = change.len ∷ fragile.lengths;
}

-- whether a crash may leave a file
abbrev pub leaves : Fragile → List ℕ → Bool
leaves fragile left = list_any (λ len. len == length left) fragile.lengths && fits fragile.stays left

-- the file of a disk in memory
pub record MemFileState : Type 0 where
  -- as it reads
  pub bytes : List ℕ
  pub now : Fragile
  -- the moments before
  pub past : List Fragile

-- The calls of a disk in memory, and how often it failed.
pub record ScheduleState : Type 0 where
  -- how often it was called
  pub made : ℕ
  -- the numbers of the calls that fail: the first call has the number 1
  pub failing : List ℕ
  -- the number of the first call of those that all fail, if there is one
  pub stop : Option ℕ
  -- the calls, in order
  pub calls : List DiskCall
  pub faults : ℕ

pub record MemDiskState : Type 0 where
  pub file : MemFileState
  pub attached : Bool
  pub schedule : ScheduleState

-- what it tells of its file
abbrev pub told_by_file : MemFileState → FileRecord
told_by_file s = record {
  bytes = s.bytes;
  moment = length s.past;
  may_leave = λ left. bytes_eq left s.bytes || leaves s.now left;
  left_since = λ since left.
      (bytes_eq left s.bytes || leaves s.now left) || list_any (λ moment. leaves moment left) (drop since s.past);
}

abbrev pub told_by_disk : MemDiskState → DiskRecord
told_by_disk s = record { faults = s.schedule.faults; attached = s.attached; file = Some (told_by_file s.file) }

-- a file of which nothing is pending
abbrev pub first_file : List ℕ → MemFileState
first_file bytes = record { bytes = bytes; now = settled bytes; past = [] }

abbrev pub first_schedule : List ℕ → ScheduleState
first_schedule failing = record { made = 0; failing = failing; stop = None; calls = []; faults = 0 }

-- a disk of which nothing was used
abbrev pub first_disk : List ℕ → List ℕ → MemDiskState
first_disk bytes failing = record { file = first_file bytes; attached = false; schedule = first_schedule failing }

-- the file after it changed so: one moment more
abbrev pub file_changed : Change → List ℕ → MemFileState → MemFileState
file_changed change bytes old = record { bytes = bytes; now = changed change old.now; past = old.past ++ old.now ∷ [] }

-- the change of a piece that is not empty
abbrev pub change_of_write : ℕ → List ℕ → List ℕ → Change
change_of_write at piece bytes = record {
  start = min at (length bytes);
  end = at + length piece;
  len = max (length bytes) (at + length piece);
}

-- the file after a piece was written
abbrev pub file_written : ℕ → List ℕ → MemFileState → MemFileState
file_written at [] old = old
file_written at (byte ∷ piece) old = file_changed (change_of_write at (byte ∷ piece) old.bytes) (written_at at (byte ∷ piece) old.bytes) old

-- the file after it was cut
abbrev pub file_cut : ℕ → MemFileState → MemFileState
file_cut len old = file_changed (record { start = length old.bytes; end = len; len = len }) (cut_to len old.bytes) old

-- The file after a sync: where something was pending, one moment more.
abbrev pub FileSynced : MemFileState → MemFileState → Type 0
FileSynced old new =
    ((new ≡ old) × (old.now ≡ settled old.bytes))
    ⊎ (new ≡ record { bytes = old.bytes; now = settled old.bytes; past = old.past ++ old.now ∷ [] })

-- a count after one more: it stands still at the end of `u64`
abbrev pub raised : ℕ → ℕ
raised count = min (count + 1) (2 ^ 64 - 1)

-- whether a call of that number is one of those from a number on
abbrev pub is_from : Option ℕ → ℕ → Bool
is_from None number = false
is_from (Some first) number = nat_le first number

-- whether the next call is to fail
abbrev pub next_fails : ScheduleState → Bool
next_fails s = list_any (λ number. number == raised s.made) s.failing || is_from s.stop (raised s.made)

-- Whether a call goes on: it is counted and noted, and where its number is one of those that fail it fails. Without
-- memory for what it is to keep it fails too, and then it may not be noted.
abbrev pub Begins : Bool → DiskCall → ScheduleState → ScheduleState → Type 0
Begins true call old new =
    (next_fails old ≡ false) × (new ≡ record old { made = raised old.made; calls = old.calls ++ call ∷ [] })
Begins false call old new =
    new ≡ record old { made = raised old.made; calls = new.calls; faults = raised old.faults }

-- What one call of `attach` or of `sync` did.
abbrev pub SyncsAsPlanned : Result (Unit {0}) Failed → DiskCall → MemDiskState → MemDiskState → Type 0
SyncsAsPlanned (Ok done) call old new = Begins true call old.schedule new.schedule × FileSynced old.file new.file
SyncsAsPlanned (Err failed) call old new = Begins false call old.schedule new.schedule × (new.file ≡ old.file)

-- What one call did that changes the file.
abbrev pub ChangesAsPlanned : Result (Unit {0}) Failed → DiskCall → (MemFileState → MemFileState) → MemDiskState → MemDiskState → Type 0
ChangesAsPlanned (Ok done) call change old new = Begins true call old.schedule new.schedule × (new.file ≡ change old.file)
ChangesAsPlanned (Err failed) call change old new = Begins false call old.schedule new.schedule × (new.file ≡ old.file)

-- What one call of `len` did.
abbrev pub LenAsPlanned : Result ℕ Failed → MemDiskState → MemDiskState → Type 0
LenAsPlanned (Ok len) old new = Begins true calls.Len old.schedule new.schedule × (new.file ≡ old.file)
LenAsPlanned (Err failed) old new = Begins false calls.Len old.schedule new.schedule × (new.file ≡ old.file)

-- What one call of `read` did, with a buffer of that room: it gives all that it may.
abbrev pub ReadsAsPlanned : Got → ℕ → ℕ → MemDiskState → MemDiskState → Type 0
ReadsAsPlanned (got.Bytes n) at room old new =
    Begins true (calls.Read at room) old.schedule new.schedule × (n ≡ min room (length old.file.bytes - at)) × (new.file ≡ old.file)
ReadsAsPlanned got.End at room old new = Begins true (calls.Read at room) old.schedule new.schedule × (new.file ≡ old.file)
ReadsAsPlanned got.Failed at room old new = Begins false (calls.Read at room) old.schedule new.schedule × (new.file ≡ old.file)

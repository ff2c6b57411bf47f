-- Writing all bytes of an image but its gate, and what a crash leaves meanwhile.
use Rattle.std.specs.Prelude.{◌≡◌, ℕ, ◌+◌, ◌<◌, ◌≤◌, true, List, [], ◌∷◌, ◌++◌, length, take, flat_map, slice_index, Some, Result, Ok, Err}
use Rattle.std.specs.List.{between}
use Rattle.std.specs.Global.{Vec}
use Rattle.std.specs.Vec.{vec_len, vec_capacity}
use Rattle.ldm_outside.specs.declared.fault.Failed.{Failed}
use Rattle.ldm_disk.specs.Told.{FileRecord, IsSettled}
use Rattle.ldm_disk.specs.Moments.{LeavesOnly}
use Rattle.ldm_book.specs.View.{BookView}
use Rattle.ldm_image.specs.Image.{GATE, eight, last_field, row_bytes, head_bytes, image_with}
use Rattle.ldm_image.specs.Gates.{HasGate}

-- so many bytes fit in without more memory
abbrev pub HasRoom : Vec ℕ → ℕ → Type 0
HasRoom out count = vec_len out + count ≤ vec_capacity out

-- these bytes were appended
pub record Appends (old new : Vec ℕ) (bytes : List ℕ) : Type 0 where
  pub items : new.items ≡ old.items ++ bytes
  pub len : vec_len new ≡ vec_len old + length bytes
  pub capacity : vec_capacity old ≤ vec_capacity new

-- the gate of a file that has one
abbrev pub gate_of : List ℕ → ℕ
gate_of file = slice_index file GATE

-- the bytes of the opening behind the gate, and the five numbers
abbrev pub sizes_of : BookView → List ℕ
sizes_of book =
    0 ∷ 0 ∷ (eight book.arena ++ eight book.slots ++ eight book.admitted ++ eight (last_field book.last) ++ eight (length book.rows))

-- the bytes of the opening up to the gate, and with it
abbrev pub front : ℕ → List ℕ
front gate = 76 ∷ 68 ∷ 77 ∷ 81 ∷ 1 ∷ gate ∷ []

-- what stands before the arena, up to a row
abbrev pub head_up_to : ℕ → BookView → ℕ → List ℕ
head_up_to gate book next = front gate ++ sizes_of book ++ flat_map row_bytes (take next book.rows)

-- the bytes of the rows from one up to another
abbrev pub between_rows : ℕ → ℕ → BookView → List ℕ
between_rows first next book = flat_map row_bytes (between first next book.rows)

-- A file is being written: whatever a crash leaves of it has that gate, and so many bytes stand as they are to stand.
pub record IsBeing (at : ℕ) (file : FileRecord) : Type 0 where
  pub gates : (left : List ℕ) → file.may_leave left ≡ true → HasGate (Some (gate_of file.bytes)) left
  pub behind : GATE < at
  pub within : at ≤ length file.bytes

-- nothing of a file is pending, and it has a gate
pub record IsShut (file : FileRecord) : Type 0 where
  pub settled : IsSettled file
  pub long : GATE < length file.bytes

-- a crash at any moment leaves a file with the gate of the old one
abbrev pub KeepsGate : FileRecord → FileRecord → Type 0
KeepsGate old new = LeavesOnly (HasGate (Some (gate_of old.bytes))) old new

-- A piece was written behind what stands, up to a place.
abbrev pub WritesMore : Result ℕ Failed → ℕ → List ℕ → FileRecord → FileRecord → Type 0
WritesMore (Ok behind) at piece old new =
    KeepsGate old new × (behind ≤ length new.bytes) × (take behind new.bytes ≡ take at old.bytes ++ piece)
WritesMore (Err failed) at piece old new = KeepsGate old new

-- What stands before the gate was written.
abbrev pub Begins : Result (Unit {0}) Failed → FileRecord → FileRecord → Type 0
Begins (Ok done) old new = KeepsGate old new × (6 ≤ length new.bytes) × (take 6 new.bytes ≡ front (gate_of old.bytes))
Begins (Err failed) old new = KeepsGate old new

-- What stands before the arena was written, up to a place.
abbrev pub WritesHead : Result ℕ Failed → BookView → FileRecord → FileRecord → Type 0
WritesHead (Ok at) book old new =
    KeepsGate old new × (at ≤ length new.bytes) × (take at new.bytes ≡ head_bytes (gate_of old.bytes) book)
WritesHead (Err failed) book old new = KeepsGate old new

-- The file was cut to a length that it had, and synced.
abbrev pub Finishes : Result (Unit {0}) Failed → ℕ → FileRecord → FileRecord → Type 0
Finishes (Ok done) len old new = KeepsGate old new × IsSettled new × (new.bytes ≡ take len old.bytes)
Finishes (Err failed) len old new = KeepsGate old new

-- The arena was written from a place on, and the file ends behind it and was synced.
abbrev pub Ends : Result (Unit {0}) Failed → ℕ → List ℕ → FileRecord → FileRecord → Type 0
Ends (Ok done) at arena old new = KeepsGate old new × IsSettled new × (new.bytes ≡ take at old.bytes ++ arena)
Ends (Err failed) at arena old new = KeepsGate old new

-- All bytes but the gate were written and synced.
abbrev pub WritesBody : Result (Unit {0}) Failed → BookView → FileRecord → FileRecord → Type 0
WritesBody (Ok done) book old new = KeepsGate old new × IsSettled new × (new.bytes ≡ image_with (gate_of old.bytes) book)
WritesBody (Err failed) book old new = KeepsGate old new

-- rows, the numbers and the bytes before them that are not yet written stand in a buffer
pub record IsWriting (book : BookView) (next at : ℕ) (piece : List ℕ) (old now : FileRecord) : Type 0 where
  pub gates : KeepsGate old now
  pub within : at ≤ length now.bytes
  pub stands : take at now.bytes ++ piece ≡ head_up_to (gate_of old.bytes) book next

-- What a call may do to the file that a crash leaves: between two syncs each written range, and the part past the old
-- end, may hold any bytes, and the length may be the old or the new one. All other bytes stay.
use Rattle.std.specs.Prelude.{◌≡◌, ◌⊎◌, ℕ, ◌+◌, ◌-◌, ◌<◌, ◌≤◌, List, [], ◌∷◌, ◌++◌, length, take, drop, replicate, min, max, slice_index}

-- the bytes after a piece was written at a place: zeros fill what lies between the old end and the place, and an empty
-- piece changes nothing
abbrev pub written_at : ℕ → List ℕ → List ℕ → List ℕ
written_at at [] bytes = bytes
written_at at (byte ∷ piece) bytes =
    take at bytes ++ replicate (at - length bytes) 0 ++ (byte ∷ piece) ++ drop (at + length (byte ∷ piece)) bytes

-- the bytes after the file was cut to a length: zeros fill what it lacks
abbrev pub cut_to : ℕ → List ℕ → List ℕ
cut_to len bytes = take len bytes ++ replicate (len - length bytes) 0

-- Between two files: bytes from `start` on and before `end` may be any, and so may those past the old end; the others
-- stay. The length is the old one, or `len`.
pub record Torn (start end len : ℕ) (before after : List ℕ) : Type 0 where
  pub stays : (place : ℕ) → place < length before → place < length after → (place < start) ⊎ (end ≤ place) →
      slice_index after place ≡ slice_index before place
  pub long : (length after ≡ length before) ⊎ (length after ≡ len)

-- What a call does to each file that a crash may leave.
pub data Step : Type 0 where
  -- nothing
  Stays : Step
  -- bytes from `start` on and before `end` were written
  Written : (start : ℕ) → (end : ℕ) → Step
  -- some of these were written, from the first on
  PartlyWritten : (start : ℕ) → (end : ℕ) → Step
  -- the file was cut to a length, and what it lacked stands from `start` on
  Cut : (start : ℕ) → (len : ℕ) → Step

-- a file before a step, and after it
abbrev pub IsStep : Step → List ℕ → List ℕ → Type 0
IsStep Stays before after = after ≡ before
IsStep (Written start end) before after = Torn start end (max (length before) end) before after
IsStep (PartlyWritten start end) before after =
    (part : ℕ) × (part ≤ end) × Torn start part (max (length before) part) before after
IsStep (Cut start len) before after = Torn start len len before after

-- where the bytes of a piece end that is written at a place; an empty one is written nowhere
abbrev pub end_of_piece : ℕ → List ℕ → ℕ
end_of_piece at [] = 0
end_of_piece at (byte ∷ piece) = at + length (byte ∷ piece)

-- the step of a write: what lies between the old end and the place may be any bytes too
abbrev pub step_of_write : ℕ → List ℕ → List ℕ → Step
step_of_write at piece bytes = Written (min at (length bytes)) (end_of_piece at piece)

-- that of a write that failed, and may have been done in part
abbrev pub step_of_failed_write : ℕ → List ℕ → List ℕ → Step
step_of_failed_write at piece bytes = PartlyWritten (min at (length bytes)) (end_of_piece at piece)

-- that of a cut, whether it failed or not
abbrev pub step_of_cut : ℕ → List ℕ → Step
step_of_cut len bytes = Cut (length bytes) len

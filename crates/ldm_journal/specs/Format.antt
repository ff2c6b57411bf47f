-- The file of a journal, and which products it keeps.
use Rattle.std.specs.Prelude.{◌≡◌, ℕ, ◌+◌, ◌%◌, ◌<◌, ◌≤◌, ◌==◌, Bool, true, false, List, [], ◌∷◌, ◌++◌, length, take, map, replicate, slice_index}
use Rattle.std.specs.Int.{w64, from_be_bytes}
use Rattle.std.specs.List.{AllByRecursion, between, range_with_len}
use Rattle.ldm_journal.specs.declared.places.TheConstants.{SELECT, HEAD_A, HEAD_B, RING, NOTE}
use Rattle.ldm_journal.specs.Records.{Kept, eight, records_of, IsLawful, AreRising}

-- "LDM journal", three bytes 0 and the number of the format in two; behind them the bytes of the ring
abbrev pub opening : ℕ → List ℕ
opening ring =
    (76 ∷ 68 ∷ 77 ∷ 32 ∷ 106 ∷ 111 ∷ 117 ∷ 114 ∷ 110 ∷ 97 ∷ 108 ∷ 0 ∷ 0 ∷ 0 ∷ 0 ∷ 2 ∷ []) ++ eight ring

-- the number in the 8 bytes at a place
unfoldable pub number_at : ℕ → List ℕ → ℕ
number_at place file = from_be_bytes w64 (between place (place + 8) file)

-- which of the two heads counts: the first where the byte is even
unfoldable pub selected : List ℕ → Bool
selected file = slice_index file SELECT % 2 == 1

-- where a head stands
abbrev pub place_of : Bool → ℕ
place_of false = HEAD_A
place_of true = HEAD_B

-- what a head says: where in the ring the oldest record begins, how many bytes the records have, and the number from
-- which on the next product may be numbered
abbrev pub front_at : ℕ → List ℕ → ℕ
front_at head file = number_at head file

abbrev pub used_at : ℕ → List ℕ → ℕ
used_at head file = number_at (head + 8) file

abbrev pub next_at : ℕ → List ℕ → ℕ
next_at head file = number_at (head + 16) file

-- the note behind the numbers of a head
abbrev pub note_at : ℕ → List ℕ → List ℕ
note_at head file = between (head + 24) (head + 24 + NOTE) file

-- bytes 0
unfoldable pub zeros : ℕ → List ℕ
zeros count = replicate count 0

-- the note of a journal that was just made
abbrev pub no_note : List ℕ
no_note = zeros NOTE

-- so many bytes of the ring from a place on, and round its end
unfoldable pub around : ℕ → ℕ → ℕ → List ℕ → List ℕ
around ring from count file = map (λ at. slice_index file (RING + at % ring)) (range_with_len from count)

-- A file keeps these products and this note by the head at a place.
pub record HoldsBy (head ring : ℕ) (kept : List Kept) (note file : List ℕ) : Type 0 where
  pub opened : take 24 file ≡ opening ring
  pub long : length file ≡ RING + ring
  pub front : front_at head file < ring
  pub used : used_at head file ≤ ring
  pub records : around ring (front_at head file) (used_at head file) file ≡ records_of kept
  pub lawful : AllByRecursion IsLawful kept
  pub rising : AreRising 0 kept (next_at head file)
  pub noted : note_at head file ≡ note

-- A file is a journal with a ring of so many bytes, which keeps these products, and this note with them.
abbrev pub Holds : ℕ → List Kept → List ℕ → List ℕ → Type 0
Holds ring kept note file = HoldsBy (place_of (selected file)) ring kept note file

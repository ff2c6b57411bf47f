-- Queues for the worked examples.
use Rattle.std.specs.Prelude.{ℕ, List, [], ◌∷◌, ◌++◌, replicate, Some, None}
use Rattle.ldm_model.specs.Examples.{sample_info}
use Rattle.ldm_book.specs.View.{BookView, kept_of}

-- an empty queue of these sizes
abbrev pub empty_book : ℕ → ℕ → BookView
empty_book arena slots = record {
  arena = arena;
  bytes = replicate arena 0;
  slots = slots;
  admitted = 0;
  last = None;
  rows = [];
  cursors = replicate 64 None;
  reservations = replicate 64 None;
}

-- the bytes of a sample product: metadata of 52 bytes, and a body of four bytes 0x41
abbrev pub sample_bytes : List ℕ
sample_bytes =
    (0 ∷ 0 ∷ 0 ∷ 0 ∷ 0 ∷ 0 ∷ 0 ∷ 100 ∷ []) ++ replicate 16 1
    ++ (0 ∷ 0 ∷ 0 ∷ 1 ∷ 104 ∷ 0 ∷ 0 ∷ 0 ∷ []) ++ (0 ∷ 0 ∷ 0 ∷ 2 ∷ 0 ∷ 0 ∷ 0 ∷ 1 ∷ [])
    ++ (0 ∷ 0 ∷ 0 ∷ 1 ∷ 112 ∷ 0 ∷ 0 ∷ 0 ∷ []) ++ (0 ∷ 0 ∷ 0 ∷ 4 ∷ []) ++ replicate 4 65

-- a queue of 64 bytes and 10 slots with that product, which was inserted at 100
abbrev pub book_of_one : BookView
book_of_one = record (empty_book 64 10) {
  bytes = sample_bytes ++ replicate 8 0;
  admitted = 1;
  last = Some 100;
  rows = kept_of 0 100 0 (sample_info 1 4) ∷ [];
}

-- the eight bytes of a number below 256
abbrev pub small : ℕ → List ℕ
small n = replicate 7 0 ++ n ∷ []

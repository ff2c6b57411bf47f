-- The image of a queue: the bytes of a file that keeps it. The format is this project's own.
use Rattle.std.specs.Prelude.{◌≡◌, ℕ, ◌+◌, List, [], ◌∷◌, ◌++◌, length, flat_map, Option, Some, None}
use Rattle.std.specs.Int.{w64, to_be_bytes}
use Rattle.ldm_book.specs.View.{BookView, Kept}
use Rattle.ldm_book.specs.Restoring.{IsRestorable}

-- "LDMQ", the number of this format, the gate, and two bytes 0
abbrev pub opening : ℕ → List ℕ
opening gate = 76 ∷ 68 ∷ 77 ∷ 81 ∷ 1 ∷ gate ∷ 0 ∷ 0 ∷ []

-- where the gate stands: 1 is an image that was written whole
abbrev pub GATE : ℕ
GATE = 5

-- a number in 8 bytes, the highest first
abbrev pub eight : ℕ → List ℕ
eight n = to_be_bytes w64 n

-- the insertion time of the last admitted product and one more, or 0 where there is none
abbrev pub last_field : Option ℕ → ℕ
last_field None = 0
last_field (Some last) = last + 1

-- a row: the number of a queued product, its insertion time, and where it begins in the arena
abbrev pub row_bytes : Kept → List ℕ
row_bytes k = eight k.number ++ eight k.time ++ eight k.place

-- what stands before the arena: the opening, five numbers, and the rows
abbrev pub head_bytes : ℕ → BookView → List ℕ
head_bytes gate book =
    opening gate
    ++ eight book.arena ++ eight book.slots ++ eight book.admitted ++ eight (last_field book.last) ++ eight (length book.rows)
    ++ flat_map row_bytes book.rows

-- the image, with any gate
abbrev pub image_with : ℕ → BookView → List ℕ
image_with gate book = head_bytes gate book ++ book.bytes

-- the image
abbrev pub image : BookView → List ℕ
image book = image_with 1 book

-- a file is the image of a queue
pub record IsImage (file : List ℕ) (book : BookView) : Type 0 where
  pub is : file ≡ image book
  pub lawful : IsRestorable book

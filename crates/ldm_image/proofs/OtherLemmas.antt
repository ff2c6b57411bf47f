-- Files that are the image of no queue, by a row or by their length.
use Rattle.std.proofs.Common.{◌≡◌, ℕ, ◌+◌, ◌<◌, List, length, sym, ap, subst, arith}
use Rattle.std.specs.Prelude.{flat_map}
use Rattle.std.proofs.lemmas.List.{length-append}
use Rattle.ldm_book.specs.View.{BookView}
use Rattle.ldm_book.specs.Restoring.{IsRestorable}
use Rattle.ldm_image.specs.Image.{image, row_bytes, IsImage}
use Rattle.ldm_image.specs.Fault.{count_in, arena_in, arena_start}
use Rattle.ldm_image.specs.Opening.{IsOther}
use Rattle.ldm_image.specs.Rows.{IsRowLawful, RowFaultAt, BadNumber, BadTime, BadPlace}
use Rattle.ldm_image.proofs.HeadLemmas.{arena_of_image, count_of_image}
use Rattle.ldm_image.proofs.RowLemmas.{length_rows, row_is_lawful}

-- each row that the image of a queue says it has is lawful
row_of_image : (file : List ℕ) (row : ℕ) → row < count_in file → (book : BookView) → IsImage file book → IsRowLawful file row
row_of_image file row inside book is =
    let same : count_in file ≡ count_in (image book) = ap (λ (f : List ℕ). count_in f) is.is in
    let within : row < length book.rows = omega (arith, inside, same, count_of_image book is.lawful) in
    subst (λ (f : List ℕ). IsRowLawful f row) (sym is.is) (row_is_lawful book is.lawful row within)

-- a file with a row that is not
pub row_is_other : (file : List ℕ) (row at : ℕ) → row < count_in file → RowFaultAt file row at → IsOther file
row_is_other file row at inside (BadNumber not is) = λ book img. not (row_of_image file row inside book img).number
row_is_other file row at inside (BadTime number not is) = λ book img. not (row_of_image file row inside book img).time
row_is_other file row at inside (BadPlace number time not is) = λ book img. not (row_of_image file row inside book img).place

-- the length of an image
length_of_image : (book : BookView) → IsRestorable book → length (image book) ≡ arena_start (image book) + arena_in (image book)
length_of_image book is =
    let long = length_rows book.rows in
    let both = length-append (flat_map row_bytes book.rows) book.bytes in
    omega (arith, long, both, is.filled, count_of_image book is, arena_of_image book is)

-- a file of another length than it says
pub wrong_length : (file : List ℕ) → ¬ (length file ≡ arena_start file + arena_in file) → IsOther file
wrong_length file not book is = not (subst (λ (f : List ℕ). length f ≡ arena_start f + arena_in f) (sym is.is) (length_of_image book is.lawful))

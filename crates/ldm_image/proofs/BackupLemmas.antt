-- What the queue of an image is restored from stands in the file.
use Rattle.std.proofs.Common.{◌≡◌, ℕ, zero, suc, ◌+◌, ◌-◌, ◌*◌, ◌<◌, List, [], ◌∷◌, length, take, drop, refl, sym, ◌∙◌, ap, arith}
use Rattle.std.specs.Prelude.{get_or, flat_map, map}
use Rattle.std.proofs.lemmas.List.{ext_get_or, drop-drop, drop_at, take_all, length-map}
use Rattle.ldm_book.specs.declared.restoring.RowNote.{RowNote}
use Rattle.ldm_book.specs.View.{BookView, Kept}
use Rattle.ldm_book.specs.Restoring.{IsRestorable, note_of, note_at}
use Rattle.ldm_image.specs.Image.{image, row_bytes, IsImage}
use Rattle.ldm_image.specs.Fault.{count_in, arena_in, arena_start, arena_bytes, number_in, time_in, place_in}
use Rattle.ldm_image.specs.Rows.{IsRowAt}
use Rattle.ldm_image.proofs.HeadLemmas.{arena_of_image, count_of_image}
use Rattle.ldm_image.proofs.RowLemmas.{no_kept, length_rows, number_of_row, time_of_row, place_of_row}

-- notes with the same numbers
same_note : (a b : RowNote) → a.n ≡ b.n → a.time ≡ b.time → a.place ≡ b.place → a ≡ b
same_note a b n time place = λ i. record { n = n i; time = time i; place = place i }

-- what is noted of one of some rows
pub noted_at : (rows : List Kept) (row : ℕ) → note_at (map note_of rows) row ≡ note_of (get_or rows row no_kept)
noted_at [] row = refl
noted_at (k ∷ rows) zero = refl
noted_at (k ∷ rows) (suc row) = noted_at rows row

-- the rows of the queue are those that were read
pub notes_of_image : (file : List ℕ) (notes : List RowNote) (book : BookView) → IsImage file book → length notes ≡ count_in file
    → ((row : ℕ) → row < length notes → IsRowAt file row (note_at notes row)) → map note_of book.rows ≡ notes
notes_of_image file notes book is count each =
    let same : count_in file ≡ count_in (image book) = ap (λ (f : List ℕ). count_in f) is.is in
    let rows : length book.rows ≡ length notes = omega (arith, count, same, count_of_image book is.lawful) in
    ext_get_or (record { n = 0; time = 0; place = 0 }) (map note_of book.rows) notes (length-map book.rows note_of ∙ rows)
    (λ row within.
    let inside : row < length book.rows = omega (arith, within, length-map book.rows note_of) in
    let at = each row (omega (arith, inside, rows)) in
    noted_at book.rows row
    ∙ same_note (note_of (get_or book.rows row no_kept)) (note_at notes row)
    (sym (number_of_row book is.lawful row inside) ∙ ap (λ (f : List ℕ). number_in row f) (sym is.is) ∙ sym at.number)
    (sym (time_of_row book is.lawful row inside) ∙ ap (λ (f : List ℕ). time_in row f) (sym is.is) ∙ sym at.time)
    (sym (place_of_row book is.lawful row inside) ∙ ap (λ (f : List ℕ). place_in row f) (sym is.is) ∙ sym at.place))

-- the bytes of its arena are those behind the rows
arena_of_book : (book : BookView) → IsRestorable book → arena_bytes (image book) ≡ book.bytes
arena_of_book book is =
    let start = arena_start (image book) in
    let rows : start ≡ 48 + 24 * length book.rows = ap (λ (n : ℕ). 48 + 24 * n) (count_of_image book is) in
    let size : start + arena_in (image book) - start ≡ book.arena = omega (arith, arena_of_image book is) in
    let behind : drop start (image book) ≡ book.bytes =
    ap (λ (n : ℕ). drop n (image book)) rows ∙ sym (drop-drop (24 * length book.rows) 48 (image book))
    ∙ drop_at (flat_map row_bytes book.rows) book.bytes (24 * length book.rows) (length_rows book.rows) in
    ap (λ (n : ℕ). take n (drop start (image book))) size ∙ ap (λ (l : List ℕ). take book.arena l) behind ∙ take_all book.arena book.bytes (omega (arith, is.filled))

pub bytes_of_image : (file : List ℕ) (book : BookView) → IsImage file book → book.bytes ≡ arena_bytes file
bytes_of_image file book is = sym (arena_of_book book is.lawful) ∙ ap (λ (f : List ℕ). arena_bytes f) (sym is.is)

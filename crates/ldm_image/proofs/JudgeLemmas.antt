-- Files of which all was read: the queue, or the first field that is not lawful.
use Rattle.std.proofs.Common.{◌≡◌, ℕ, suc, ◌+◌, ◌-◌, ◌<◌, ◌≤◌, min, List, length, refl, sym, ◌∙◌, ap, subst, arith}
use Rattle.std.specs.Prelude.{slice_index, get_or, map, Option, Some, None, Ok, Err}
use Rattle.std.specs.List.{AllByRecursion}
use Rattle.std.specs.Option.{unwrap_or}
use Rattle.std.proofs.lemmas.List.{length-map}
use Rattle.std.proofs.lemmas.List.Edits.{length-between}
use Rattle.ldm_types.specs.declared.limits.TheConstants.{MOST_SLOTS}
use Rattle.ldm_book.specs.View.{BookView}
use Rattle.ldm_book.specs.declared.restoring.RowNote.{RowNote}
use Rattle.ldm_book.specs.Restoring.{Backup, backup, backup_of, end_of_times, note_at, note_of}
use Rattle.ldm_image.specs.declared.open.ImageFault.{ImageFault}
use Rattle.ldm_image.specs.declared.open.ImageFault.TheVariants.{Unclean, BadImage, DiskFault, OutOfMemory}
use Rattle.ldm_image.specs.declared.sizes.Sizes.{Sizes}
use Rattle.ldm_image.specs.Image.{image, last_field, IsImage}
use Rattle.ldm_image.specs.Fault.{IsFieldLawful, IsFaultyAt, HasArena, row_start, arena_in, slots_in, admitted_in, last_in, count_in, arena_start, arena_bytes}
use Rattle.ldm_image.specs.Opening.{IsOther, OpensFile}
use Rattle.ldm_image.specs.Rows.{AreRows, RowFaultAt, BadNumber, BadTime, BadPlace}
use Rattle.ldm_image.specs.Sizes.{HasSizes, Rejects}
use Rattle.ldm_image.specs.Judging.{AreBytesIfWhole, HoldsAll, IsBadPlace, Lies, RestoresQueue, RestoresRows, backup_in}
use Rattle.ldm_image.proofs.HeadLemmas.{magic_is, version_is, gate_is, zeros_are, is_clean, slots_of_image, admitted_of_image, last_of_image}
use Rattle.ldm_image.proofs.RowLemmas.{no_kept}
use Rattle.ldm_image.proofs.FieldLemmas.{AreLawfulBefore, head_fields, faulty_number, faulty_time, faulty_place, faulty_bytes, faulty_surplus}
use Rattle.ldm_image.proofs.OtherLemmas.{row_is_other, wrong_length}
use Rattle.ldm_image.proofs.BackupLemmas.{noted_at, notes_of_image, bytes_of_image}
use Rattle.ldm_image.proofs.WholeLemmas.{file_is_image}

-- the fields in front of the rows are lawful, and there are not more rows than there may be
heads_lawful : (file : List ℕ) (sizes : Sizes) → HasSizes sizes file → AllByRecursion (IsFieldLawful file) head_fields
heads_lawful file sizes sized = (
  magic_is file 8 (omega arith) sized.opened,
  (
    version_is file 8 (omega arith) sized.opened,
    (
      gate_is file 8 (omega arith) sized.opened,
      (
        zeros_are file 8 (omega arith) sized.opened,
        (sized.arena_lawful, (sized.slots_lawful, (sized.admitted_lawful, (sized.last_lawful, (sized.count_lawful, tt))))),
      ),
    ),
  ),
)

count_most : (file : List ℕ) (sizes : Sizes) → HasSizes sizes file → min (count_in file) MOST_SLOTS ≡ count_in file
count_most file sizes sized = let few = sized.count_lawful.1 in let most = sized.slots_lawful.2 in omega (arith, few, most)

count_from : (file : List ℕ) (sizes : Sizes) → HasSizes sizes file → (row : ℕ) → row < count_in file
    → min (count_in file) MOST_SLOTS ≡ row + suc (count_in file - row - 1)
count_from file sizes sized row inside = let most = count_most file sizes sized in omega (arith, most, inside)

-- the rows that were read are lawful where their products lie in the arena
lawful_before : (file : List ℕ) (notes : List RowNote) (fault : Option ℕ) → AreRows notes fault file → (row : ℕ) → row ≤ length notes
    → ((earlier : ℕ) → earlier < row → HasArena file → Lies file earlier) → AreLawfulBefore file row
lawful_before file notes fault rows row le lie earlier less =
    let at = (rows.lawful earlier (omega (arith, le, less))).0 in
    (at.number, at.time, (at.place.0, at.place.1, lie earlier less))

-- the row behind them is the first that is not
row_at_fault : (file : List ℕ) (sizes : Sizes) (row at : ℕ) → HasSizes sizes file → row < count_in file → AreLawfulBefore file row → RowFaultAt file row at
    → IsFaultyAt file at
row_at_fault file sizes row at sized inside before (BadNumber not is) =
    subst (λ (k : ℕ). IsFaultyAt file k) (sym is)
    (faulty_number file (heads_lawful file sizes sized) row (count_in file - row - 1) (count_from file sizes sized row inside) before not)
row_at_fault file sizes row at sized inside before (BadTime number not is) =
    subst (λ (k : ℕ). IsFaultyAt file k) (sym is)
    (faulty_time file (heads_lawful file sizes sized) row (count_in file - row - 1) (count_from file sizes sized row inside) before number not)
row_at_fault file sizes row at sized inside before (BadPlace number time not is) =
    subst (λ (k : ℕ). IsFaultyAt file k) (sym is)
    (faulty_place file (heads_lawful file sizes sized) row (count_in file - row - 1) (count_from file sizes sized row inside) before number time
    (λ lawful. not (lawful.0, lawful.1)))

pub row_rejects : (file : List ℕ) (sizes : Sizes) (notes : List RowNote) (at : ℕ) → HasSizes sizes file → AreRows notes (Some at) file
    → ((row : ℕ) → row < length notes → HasArena file → Lies file row) → Rejects (BadImage at) file
row_rejects file sizes notes at sized rows lie = (
  is_clean file sized.opened,
  row_at_fault file sizes (length notes) at sized rows.ends.0 (lawful_before file notes (Some at) rows (length notes) (omega arith) lie) rows.ends.1,
  row_is_other file (length notes) at rows.ends.0 rows.ends.1,
)

-- the end cuts the arena
pub cut_rejects : (file : List ℕ) (sizes : Sizes) (notes : List RowNote) (fault : Option ℕ) (at : ℕ) → HasSizes sizes file → AreRows notes fault file
    → ¬ (HasArena file) → at ≡ unwrap_or fault (row_start sizes.count) → Rejects (BadImage at) file
cut_rejects file sizes notes (Some fault) at sized rows cut is =
    subst (λ (k : ℕ). Rejects (BadImage k) file) (sym is) (row_rejects file sizes notes fault sized rows (λ row within whole. absurd (cut whole)))
cut_rejects file sizes notes None at sized rows cut is = (
  is_clean file sized.opened,
  subst (λ (k : ℕ). IsFaultyAt file k) (ap (λ (n : ℕ). row_start n) (sym sized.count) ∙ sym is)
      (faulty_bytes file (heads_lawful file sizes sized) (length notes) (count_most file sizes sized ∙ sym rows.ends)
      (lawful_before file notes None rows (length notes) (omega arith) (λ row within whole. absurd (cut whole))) cut),
  wrong_length file (λ whole. cut (omega (arith, whole))),
)

-- what the queue of an image is restored from is what was read
same_last : (a b : Option ℕ) → last_field a ≡ end_of_times b → a ≡ b
same_last None None is = refl
same_last None (Some b) is = absurd (omega (arith, is))
same_last (Some a) None is = absurd (omega (arith, is))
same_last (Some a) (Some b) is = let same : a ≡ b = omega (arith, is) in ap (λ (n : ℕ). Some n) same

same_field : (last : Option ℕ) → last_field last ≡ end_of_times last
same_field None = refl
same_field (Some last) = refl

same_backup : (book : BookView) (bytes : List ℕ) (slots admitted : ℕ) (last : Option ℕ) (notes : List RowNote) → book.bytes ≡ bytes → book.slots ≡ slots
    → book.admitted ≡ admitted → book.last ≡ last → map note_of book.rows ≡ notes → backup_of book ≡ backup bytes slots admitted last notes
same_backup book bytes slots admitted last notes a b d e f = λ i. record { bytes = a i; slots = b i; admitted = d i; last = e i; notes = f i }

backup_of_image : (file : List ℕ) (sizes : Sizes) (notes : List RowNote) → HasSizes sizes file → AreRows notes None file → (book : BookView)
    → IsImage file book → backup_of book ≡ backup_in sizes notes file
backup_of_image file sizes notes sized rows book is =
    same_backup book (arena_bytes file) sizes.slots sizes.admitted sizes.last notes (bytes_of_image file book is)
    (sym (slots_of_image book is.lawful) ∙ ap (λ (f : List ℕ). slots_in f) (sym is.is) ∙ sym sized.slots)
    (sym (admitted_of_image book is.lawful) ∙ ap (λ (f : List ℕ). admitted_in f) (sym is.is) ∙ sym sized.admitted)
    (same_last book.last sizes.last (sym (last_of_image book is.lawful) ∙ ap (λ (f : List ℕ). last_in f) (sym is.is) ∙ sym sized.last))
    (notes_of_image file notes book is rows.ends (λ row within. (rows.lawful row within).1))

-- a place where no product lies
place_is_other : (file : List ℕ) (sizes : Sizes) (notes : List RowNote) (fault : Option ℕ) (at row : ℕ) → HasSizes sizes file → AreRows notes fault file
    → IsBadPlace sizes notes file at row → IsOther file
place_is_other file sizes notes (Some fault) at row sized rows bad = row_is_other file (length notes) fault rows.ends.0 rows.ends.1
place_is_other file sizes notes None at row sized rows bad =
    λ book is. bad.other book is.lawful (backup_of_image file sizes notes sized rows book is)

place_rejects : (file : List ℕ) (sizes : Sizes) (notes : List RowNote) (fault : Option ℕ) (at row : ℕ) → HasSizes sizes file → AreRows notes fault file
    → HasArena file → IsBadPlace sizes notes file at row → Rejects (BadImage at) file
place_rejects file sizes notes fault at row sized rows whole bad =
    let here = (rows.lawful row bad.within).0 in
    let inside : row < count_in file = omega (arith, bad.within, rows.few) in (
      is_clean file sized.opened,
      subst (λ (k : ℕ). IsFaultyAt file k) (sym bad.at_it)
          (faulty_place file (heads_lawful file sizes sized) row (count_in file - row - 1) (count_from file sizes sized row inside)
          (lawful_before file notes fault rows row (omega (arith, bad.within)) (λ earlier less has. bad.before earlier less)) here.number here.time
          (λ lawful. bad.not (lawful.2 whole))),
      place_is_other file sizes notes fault at row sized rows bad,
    )

-- no queue was restored
pub fault_opens : (file : List ℕ) (sizes : Sizes) (notes : List RowNote) (at_row : Option ℕ) (arena : List ℕ) (fault : ImageFault)
    → HoldsAll sizes notes at_row arena file → RestoresRows (Err fault) sizes notes file → OpensFile (Err fault) file
fault_opens file sizes notes at_row arena (Unclean gate) holds is = absurd is
fault_opens file sizes notes at_row arena (BadImage at) holds is = place_rejects file sizes notes at_row at is.0 holds.sized holds.rows holds.whole is.1
fault_opens file sizes notes at_row arena DiskFault holds is = absurd is
fault_opens file sizes notes at_row arena OutOfMemory holds is = is_clean file holds.sized.opened

-- all rows are those of a queue, and the file goes on behind its arena
pub surplus_rejects : (file : List ℕ) (sizes : Sizes) (notes : List RowNote) (made : BookView) (at : ℕ) → HasSizes sizes file → AreRows notes None file
    → HasArena file → RestoresQueue sizes notes file made → at ≡ arena_start file + arena_in file → at < length file → Rejects (BadImage at) file
surplus_rejects file sizes notes made at sized rows whole is here more = (
  is_clean file sized.opened,
  subst (λ (k : ℕ). IsFaultyAt file k) (sym here)
      (faulty_surplus file (heads_lawful file sizes sized) (length notes) (count_most file sizes sized ∙ sym rows.ends)
      (lawful_before file notes None rows (length notes) (omega arith) (λ row within has. is.lie row within)) whole (λ lawful. omega (arith, lawful, here, more))),
  wrong_length file (λ same. omega (arith, same, here, more)),
)

-- how long the arena is
pub arena_len : (file : List ℕ) → HasArena file → length (arena_bytes file) ≡ arena_in file
arena_len file whole =
    let long = length-between file (arena_start file) (arena_start file + arena_in file) whole in
    omega (arith, long)

-- or it ends behind it, and is the image of the queue
restored_is : (file : List ℕ) (sizes : Sizes) (notes : List RowNote) (made : BookView) → HasSizes sizes file → AreRows notes None file → HasArena file
    → ((i : ℕ) → slice_index file i < 256) → RestoresQueue sizes notes file made → length file ≡ arena_start file + arena_in file → file ≡ image made
restored_is file sizes notes made sized rows whole bytes is end =
    let from = is.restored.is in
    let stand : made.bytes ≡ arena_bytes file = ap (λ (b : Backup). b.bytes) from in
    let noted : map note_of made.rows ≡ notes = ap (λ (b : Backup). b.notes) from in
    let last : made.last ≡ sizes.last = ap (λ (b : Backup). b.last) from in
    let count : length made.rows ≡ length notes = sym (length-map made.rows note_of) ∙ ap length noted in
    file_is_image file bytes made sized.opened (sym is.restored.restorable.filled ∙ ap length stand ∙ arena_len file whole)
    (ap (λ (b : Backup). b.slots) from ∙ sized.slots) (ap (λ (b : Backup). b.admitted) from ∙ sized.admitted)
    (ap (λ (o : Option ℕ). last_field o) last ∙ same_field sizes.last ∙ sized.last) (count ∙ rows.ends)
    (λ row within.
    let at = (rows.lawful row (omega (arith, within, count))).1 in
    let note : note_of (get_or made.rows row no_kept) ≡ note_at notes row =
    sym (noted_at made.rows row) ∙ ap (λ (l : List RowNote). note_at l row) noted in (
      ap (λ (n : RowNote). n.n) note ∙ at.number,
      ap (λ (n : RowNote). n.time) note ∙ at.time,
      ap (λ (n : RowNote). n.place) note ∙ at.place,
    ))
    stand end

pub queue_opens : (file : List ℕ) (sizes : Sizes) (notes : List RowNote) (made : BookView) → HasSizes sizes file → AreRows notes None file → HasArena file
    → AreBytesIfWhole file → RestoresQueue sizes notes file made → length file ≤ arena_start file + arena_in file → OpensFile (Ok made) file
queue_opens file sizes notes made sized rows whole bytes is most =
    let end : length file ≡ arena_start file + arena_in file = omega (arith, whole, most) in (
      record { is = restored_is file sizes notes made sized rows whole (bytes end) is end; lawful = is.restored.restorable },
      λ book img. is.only book img.lawful (backup_of_image file sizes notes sized rows book img),
    )

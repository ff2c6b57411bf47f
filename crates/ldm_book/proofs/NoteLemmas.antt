-- The product that so many are in front of, by the entries of the index, and as the state has it.
use Rattle.std.proofs.Common.{◌≡◌, ℕ, zero, suc, ◌+◌, ◌≤◌, List, [], ◌∷◌, map, slice_get, Option, Some, None, refl, sym, ap, subst, ◌∙◌, arith}
use Rattle.std.specs.List.{Contains}
use Rattle.std.specs.Option.{option_map}
use Rattle.std.proofs.lemmas.Option.{get_or_from_slice_get, slice_get-map, slice_get_within}
use Rattle.ldm_timeindex.specs.Times.{number_and_slot}
use Rattle.ldm_model.specs.State.{Queued, State, queued}
use Rattle.ldm_book.specs.declared.products.Products.TheInside.{Inside}
use Rattle.ldm_book.specs.declared.restoring.RowNote.{RowNote}
use Rattle.ldm_book.specs.View.{BookView, Kept, Reservations, kept}
use Rattle.ldm_book.specs.Products.{LieApart, kept_extent, occupied_by}
use Rattle.ldm_book.specs.Slots.{slots_of, kept_entry, kept_entries, row_at, IsAt, IsSlotted}
use Rattle.ldm_book.specs.Stands.{StandsFor}
use Rattle.ldm_book.specs.Stored.{IsStored}
use Rattle.ldm_book.specs.Restoring.{note_of}
use Rattle.ldm_book.proofs.EveryLemmas.{every_one}
use Rattle.ldm_book.proofs.FirstRowLemmas.{found_entry}
use Rattle.ldm_book.proofs.KeptEntryLemmas.{kept_entry-whole}

-- what is at an index is an element
pub there_at : {X : Type 0} (xs : List X) (i : ℕ) (x : X) → slice_get xs i ≡ Some x → Contains xs x
there_at xs i x at = (i, slice_get_within xs i x at, get_or_from_slice_get xs i x x at)

-- the slot of an entry has the row of its index
pub record IsNoted (p : Inside) (i slot : ℕ) : Type 0 where
  pub row : Kept
  pub at : row_at (slots_of p) slot ≡ Some row
  pub found : slice_get (kept_entries (slots_of p) p.by_number.entries) i ≡ Some row

pub is_noted : (p : Inside) (i x slot : ℕ) → IsSlotted p → Some (x, slot) ≡ option_map number_and_slot (slice_get p.by_number.entries i) → IsNoted p i slot
is_noted p i x slot kept e =
    let slots = slots_of p in
    let there = found_entry {p = (x, slot)} (slice_get p.by_number.entries i) (sym e) in
    let entry = there.0 in
    let at = every_one (IsAt slots) p.by_number.entries entry kept.entries (there_at p.by_number.entries i entry there.1) in
    let row = at.0 in
    let same = kept_entry-whole slots entry row at.1 at.2 at.3 in
    record {
      row = row;
      at = ap (row_at slots) (sym there.2) ∙ at.1;
      found = slice_get-map (kept_entry slots) p.by_number.entries i ∙ ap (option_map (kept_entry slots)) there.1 ∙ ap (λ (k : Kept). Some k) same;
    }

-- the product that was noted
pub record HasNote (rows : List Kept) (i : ℕ) (note : RowNote) : Type 0 where
  pub row : Kept
  pub at : slice_get rows i ≡ Some row
  pub is : note_of row ≡ note

pub has_note : (rows : List Kept) (i : ℕ) (note : RowNote) → Some note ≡ slice_get (map note_of rows) i → HasNote rows i note
has_note rows i note e = by_option (slice_get rows i) refl
  where
    by_option : (o : Option Kept) → slice_get rows i ≡ o → HasNote rows i note
    by_option None at = absurd (let none : Some note ≡ None = e ∙ slice_get-map note_of rows i ∙ ap (option_map note_of) at in cc)
    by_option (Some row) at =
        record { row = row; at = at; is = (let same : Some (note_of row) ≡ Some note = sym (e ∙ slice_get-map note_of rows i ∙ ap (option_map note_of) at) in cc) }

-- and the queued product of the state
pub record IsQueuedAt (bytes : List ℕ) (s : State) (i : ℕ) (row : Kept) : Type 0 where
  pub product : Queued
  pub at : slice_get (queued s) i ≡ Some product
  pub is : kept product ≡ row
  pub stored : IsStored bytes product

pub is_queued_at : (book : BookView) (s : State) → StandsFor book s → (i : ℕ) (row : Kept) → slice_get book.rows i ≡ Some row → IsQueuedAt book.bytes s i row
is_queued_at book s stands i row at = by_option (slice_get (queued s) i) refl
  where
    seen : slice_get (map kept (queued s)) i ≡ Some row
    seen = ap (λ (rows : List Kept). slice_get rows i) (sym stands.rows) ∙ at

    by_option : (o : Option Queued) → slice_get (queued s) i ≡ o → IsQueuedAt book.bytes s i row
    by_option None none = absurd (let no : Some row ≡ None = sym seen ∙ slice_get-map kept (queued s) i ∙ ap (option_map kept) none in cc)
    by_option (Some q) is = record {
      product = q;
      at = is;
      is = (let same : Some (kept q) ≡ Some row = sym (slice_get-map kept (queued s) i ∙ ap (option_map kept) is) ∙ seen in cc);
      stored = every_one (IsStored book.bytes) (queued s) q stands.stored (there_at (queued s) i q is);
    }

-- a product lies in the arena
pub row_within : (arena : ℕ) (rows : List Kept) (reservations : Reservations) (row : Kept) → LieApart arena (occupied_by rows reservations) → Contains rows row → row.place + kept_extent row ≤ arena
row_within arena [] reservations row apart (i, h, is) = absurd (omega arith)
row_within arena (k ∷ ks) reservations row apart (zero, h, is) = subst (λ (x : Kept). x.place + kept_extent x ≤ arena) is apart.0
row_within arena (k ∷ ks) reservations row apart (suc i, h, is) = row_within arena ks reservations row apart.2 (i, omega arith, is)

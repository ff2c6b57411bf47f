-- The first kept product at a number or behind a time, by the entries of the index.
use Rattle.std.proofs.Common.{◌≡◌, ℕ, true, false, cond, leb, ltb, List, [], ◌∷◌, Option, Some, None, refl, sym, ap, ◌∙◌}
use Rattle.std.specs.List.{find}
use Rattle.std.specs.Option.{option_map}
use Rattle.ldm_timeindex.specs.Times.{Queued, number_and_slot, at_number as at_entry, behind_time}
use Rattle.ldm_book.specs.View.{Kept}
use Rattle.ldm_book.specs.Products.{at_number, is_later, kept_number}
use Rattle.ldm_book.specs.declared.products.Products.TheInside.{Inside}
use Rattle.ldm_book.specs.Slots.{Slots, slots_of, kept_entry, kept_entries, row_at, IsAt, IsSlotted}
use Rattle.ldm_book.proofs.EveryLemmas.{found_of}
use Rattle.ldm_book.proofs.KeptEntryLemmas.{kept_entry-whole}

-- the first kept product is that of the first entry
pub find_kept : (slots : Slots) (n : ℕ) (entries : List Queued) → find (at_number n) (kept_entries slots entries) ≡ option_map (kept_entry slots) (find (at_entry n) entries)
find_kept slots n [] = refl
find_kept slots n (entry ∷ entries) =
    elim (leb n entry.n) as (λ b. cond b (Some (kept_entry slots entry)) (find (at_number n) (kept_entries slots entries)) ≡ option_map (kept_entry slots)
    (cond b (Some entry) (find (at_entry n) entries))) [ true ↦ refl | false ↦ find_kept slots n entries ]

pub later_kept : (slots : Slots) (time : ℕ) (entries : List Queued)
    → option_map (λ (p : ℕ × ℕ). p.0) (option_map number_and_slot (find (behind_time time) entries)) ≡ option_map kept_number (find (is_later time) (kept_entries slots entries))
later_kept slots time [] = refl
later_kept slots time (entry ∷ entries) =
    elim (ltb time entry.time) as (λ b. option_map (λ (p : ℕ × ℕ). p.0) (option_map number_and_slot (cond b (Some entry) (find (behind_time time) entries))) ≡ option_map kept_number
    (cond b (Some (kept_entry slots entry)) (find (is_later time) (kept_entries slots entries)))) [ true ↦ refl | false ↦ later_kept slots time entries ]

pub no_entry : (o : Option Queued) → option_map number_and_slot o ≡ None → o ≡ None
no_entry None e = refl
no_entry (Some entry) e = absurd cc

pub found_entry : {p : ℕ × ℕ} (o : Option Queued) → option_map number_and_slot o ≡ Some p → (entry : Queued) × (o ≡ Some entry) × (entry.slot ≡ p.1)
found_entry None e = absurd cc
found_entry (Some entry) e = (entry, refl, cc)

-- the slot of the first entry has its row
pub record IsFirstRow (p : Inside) (n slot : ℕ) : Type 0 where
  pub row : Kept
  pub at : row_at (slots_of p) slot ≡ Some row
  pub found : find (at_number n) (kept_entries (slots_of p) p.by_number.entries) ≡ Some row

pub is_first_row : (p : Inside) (n x slot : ℕ) → IsSlotted p → Some (x, slot) ≡ option_map number_and_slot (find (at_entry n) p.by_number.entries) → IsFirstRow p n slot
is_first_row p n x slot kept e =
    let slots = slots_of p in
    let there = found_entry {p = (x, slot)} (find (at_entry n) p.by_number.entries) (sym e) in
    let entry = there.0 in
    let at = found_of (IsAt slots) (at_entry n) p.by_number.entries entry kept.entries there.1 in
    let row = at.0 in
    let same = kept_entry-whole slots entry row at.1 at.2 at.3 in
    record {
      row = row;
      at = ap (row_at slots) (sym there.2) ∙ at.1;
      found = find_kept slots n p.by_number.entries ∙ ap (option_map (kept_entry slots)) there.1 ∙ ap (λ (k : Kept). Some k) same;
    }

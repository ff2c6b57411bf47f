-- What is found among the kept rows, by a number and by a signature.
use Rattle.std.proofs.Common.{◌≡◌, ℕ, ◌<◌, ◌≤◌, inl, inr, true, false, cond, leb, List, [], ◌∷◌, length, map, bytes_eq, Option, Some, None, refl, sym, ap, ◌∙◌, arith}
use Rattle.std.specs.List.{AllByRecursion, find, position_or_len}
use Rattle.std.specs.Option.{option_map}
use Rattle.std.proofs.lemmas.Bool.{both_ways}
use Rattle.std.proofs.lemmas.Grind.{common_steps}
use Rattle.std.proofs.lemmas.List.{length-map}
use Rattle.std.proofs.lemmas.List.Quantifiers.{position-Some}
use Rattle.std.proofs.lemmas.List.Sums.{fails_before_first}
use Rattle.std.proofs.lemmas.Slice.Eq.{bytes_eq-Decides}
use Rattle.ldm_model.specs.declared.event.Reply.TheVariants as reply
use Rattle.ldm_sigindex.specs.Index.{Table, has, slot_of, IsOneToOne}
use Rattle.ldm_timeindex.specs.Times.{Queued, Precedes, IsRising, number_and_slot, at_number as at_entry}
use Rattle.ldm_book.specs.View.{Kept}
use Rattle.ldm_book.specs.Lookup.{kept_with, look_kept}
use Rattle.ldm_book.specs.Products.{at_number, kept_number, AreRising}
use Rattle.ldm_book.specs.Slots.{Slots, row_at, signature_of, kept_or_none, kept_entry, kept_entries, IsAt, HasSlot}
use Rattle.ldm_book.proofs.RowAtLemmas.{filled_within}
use Rattle.ldm_book.proofs.SlotOfLemmas.{signature_at, stands_at}

-- the first kept row of at least a number has the number of the first such entry
pub first_kept : (slots : Slots) (n : ℕ) (entries : List Queued)
    → option_map (λ (p : ℕ × ℕ). p.0) (option_map number_and_slot (find (at_entry n) entries)) ≡ option_map kept_number (find (at_number n) (kept_entries slots entries))
first_kept slots n [] = refl
first_kept slots n (entry ∷ entries) =
    elim (leb n entry.n) as (λ b. option_map (λ (p : ℕ × ℕ). p.0) (option_map number_and_slot (cond b (Some entry) (find (at_entry n) entries))) ≡ option_map kept_number
    (cond b (Some (kept_entry slots entry)) (find (at_number n) (kept_entries slots entries)))) [ true ↦ refl | false ↦ first_kept slots n entries ]

-- what comes behind an entry has a greater number
below_kept : (slots : Slots) (entry : Queued) (entries : List Queued) → AllByRecursion (Precedes entry) entries → AllByRecursion (λ (k : Kept). entry.n < k.number) (kept_entries slots entries)
below_kept slots entry [] before = tt
below_kept slots entry (other ∷ entries) before = (before.0.0, below_kept slots entry entries before.1)

-- the numbers of the kept rows rise
pub rising_kept : (slots : Slots) (entries : List Queued) → IsRising entries → AreRising (kept_entries slots entries)
rising_kept slots [] rising = tt
rising_kept slots (entry ∷ entries) rising = (below_kept slots entry entries rising.0, rising_kept slots entries rising.1)

-- what the slot has that is found for a signature: a product of that signature
pub found_row : (table : Table) (slots : Slots) (signature : List ℕ) (k : ℕ) → table ≡ map signature_of slots → Some k ≡ slot_of table signature
    → (row : Kept) × (row_at slots k ≡ Some row) × (row.signature ≡ signature)
found_row table slots signature k is found =
    let there = position-Some (has signature) (map signature_of slots) k None (sym (found ∙ ap (λ (t : Table). slot_of t signature) is)) in
    held (row_at slots k) refl (sym (ap (has signature) (signature_at slots k)) ∙ there.1)
  where
    held : (o : Option Kept) → row_at slots k ≡ o → has signature (signature_of o) ≡ true → (row : Kept) × (row_at slots k ≡ Some row) × (row.signature ≡ signature)
    held None at same = absurd (both_ways false refl same)
    held (Some row) at same = (row, at, (bytes_eq-Decides row.signature signature).0 same)

-- a signature that no slot has is that of no product
absent_row : (slots : Slots) (signature : List ℕ) (k : ℕ) (row : Kept) → slot_of (map signature_of slots) signature ≡ None → row_at slots k ≡ Some row → bytes_eq row.signature signature ≡ false
absent_row slots signature k row none at =
    let table = map signature_of slots in
    let len = length-map slots signature_of in
    let inside = filled_within slots k row at in
    let far : length table ≤ position_or_len (has signature) table = grind (arith, common_steps) in
    sym (ap (has signature) (signature_at slots k ∙ ap signature_of at)) ∙ fails_before_first (has signature) table k None (omega arith)

-- no kept row has a signature that no slot has
pub absent_kept : (slots : Slots) (signature : List ℕ) (entries : List Queued) → None ≡ slot_of (map signature_of slots) signature → AllByRecursion (IsAt slots) entries
    → kept_with signature (kept_entries slots entries) ≡ None
absent_kept slots signature [] none all = refl
absent_kept slots signature (entry ∷ entries) none all =
    let here = ap (λ (o : Option Kept). bytes_eq (kept_or_none o).signature signature) all.0.1 ∙ absent_row slots signature entry.slot all.0.0 (sym none) all.0.1 in
    ap (λ b. cond b (Some (kept_entry slots entry)) (kept_with signature (kept_entries slots entries))) here ∙ absent_kept slots signature entries none all.1

-- products of one signature are one product
pub same_row : (slots : Slots) (j k : ℕ) (one other : Kept) → IsOneToOne (map signature_of slots) → row_at slots j ≡ Some one → row_at slots k ≡ Some other → one.signature ≡ other.signature → one ≡ other
same_row slots j k one other once at there same =
    let slot = once j k other.signature (stands_at slots j one at ∙ ap (λ s. Some (Some s)) same) (stands_at slots k other there) in
    cc (ap (row_at slots) slot)

-- the first kept row of the signature of a product has its number and its time
pub found_kept : (slots : Slots) (signature : List ℕ) (k : ℕ) (row : Kept) (entries : List Queued) → IsOneToOne (map signature_of slots) → row_at slots k ≡ Some row → row.signature ≡ signature
    → AllByRecursion (IsAt slots) entries → HasSlot k entries → look_kept (kept_with signature (kept_entries slots entries)) ≡ reply.Queued row.number row.time
found_kept slots signature k row [] once at same all there = absurd there
found_kept slots signature k row (entry ∷ entries) once at same all there =
    let other = all.0.0 in
    let is = all.0.1 in
    let rest = kept_with signature (kept_entries slots entries) in
    ap (λ (o : Option Kept). look_kept (cond (bytes_eq (kept_or_none o).signature signature) (Some (kept_entry slots entry)) rest)) is
    ∙ elim (bytes_eq other.signature signature) as (λ b. bytes_eq other.signature signature ≡ b → look_kept (cond b (Some (kept_entry slots entry)) rest) ≡ reply.Queued row.number row.time) [
      | true ↦ λ e.
          let one = same_row slots entry.slot k other row once is at ((bytes_eq-Decides other.signature signature).0 e ∙ sym same) in
          let number : entry.n ≡ row.number = sym all.0.2 ∙ ap (λ (r : Kept). r.number) one in
          let time : entry.time ≡ row.time = sym all.0.3 ∙ ap (λ (r : Kept). r.time) one in
          cc
      | false ↦ λ e. elim there [
        | inl here ↦
            let one : Some other ≡ Some row = sym is ∙ ap (row_at slots) here ∙ at in
            absurd (both_ways _ e ((bytes_eq-Decides other.signature signature).1 (ap (λ (o : Option Kept). (kept_or_none o).signature) one ∙ same)))
        | inr behind ↦ found_kept slots signature k row entries once at same all.1 behind
      ]
    ] refl

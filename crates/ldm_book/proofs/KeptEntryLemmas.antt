-- The rows of the slots, and what is kept of the entries that have them.
use Rattle.std.proofs.Common.{◌≡◌, ◌≢◌, ℕ, ◌<◌, Bool, true, false, cond, List, [], ◌∷◌, map, Option, Some, None, bytes_eq, refl, sym, ap, subst, ◌∙◌, ⊎_elim, arith}
use Rattle.std.specs.List.{All}
use Rattle.std.specs.Option.{option_map}
use Rattle.std.proofs.lemmas.List.{get_or-map, length-map}
use Rattle.std.proofs.lemmas.Option.{same_Some}
use Rattle.ldm_types.specs.Arena.{Region}
use Rattle.ldm_sigindex.specs.Index.{has, slot_of}
use Rattle.ldm_timeindex.specs.Times.{Queued}
use Rattle.ldm_book.specs.Products.{kept_region}
use Rattle.ldm_book.specs.View.{Kept}
use Rattle.ldm_book.specs.Lookup.{kept_signature, kept_with}
use Rattle.ldm_book.specs.Slots.{Slots, row_at, signature_of, with_entry, kept_entry, kept_entries, HasSlot}
use Rattle.ldm_book.proofs.SlotOfLemmas.{signature_at, no_slot}

-- what is kept of an entry whose slot has a row
pub kept_entry-row : (slots : Slots) (entry : Queued) (row : Kept) → row_at slots entry.slot ≡ Some row → kept_entry slots entry ≡ with_entry entry (Some row)
kept_entry-row slots entry row at = ap (with_entry entry) at

-- where the row has the number and the time of the entry, the row itself
pub kept_entry-whole : (slots : Slots) (entry : Queued) (row : Kept) → row_at slots entry.slot ≡ Some row → row.number ≡ entry.n → row.time ≡ entry.time → kept_entry slots entry ≡ row
kept_entry-whole slots entry row at number time = kept_entry-row slots entry row at ∙ (λ i. record row { number = sym number i; time = sym time i })

-- products of different numbers stand in different slots
pub other_slot : (slots : Slots) (j k : ℕ) (row other : Kept) → row_at slots j ≡ Some row → row_at slots k ≡ Some other → row.number ≢ other.number → j ≢ k
other_slot slots j k row other at there apart same = apart (ap (λ (r : Kept). r.number) (same_Some row other (sym at ∙ ap (row_at slots) same ∙ there)))

-- a region of a slot is that of its row
pub row_of_region : (held : Option Kept) (region : Region) → option_map kept_region held ≡ Some region → (row : Kept) × (held ≡ Some row) × (kept_region row ≡ region)
row_of_region None region e = absurd cc
row_of_region (Some row) region e = (row, refl, cc)

-- what holds of the numbers and the times of all that is kept holds of the entries
pub later_entries : (slots : Slots) (n time : ℕ) (entries : List Queued) → All (λ (k : Kept). (k.number < n) × (k.time < time)) (kept_entries slots entries)
    → All (λ (e : Queued). (e.n < n) × (e.time < time)) entries
later_entries slots n time entries later k d inside =
    subst (λ (x : Kept). (x.number < n) × (x.time < time)) (get_or-map (kept_entry slots) entries k d (kept_entry slots d) inside)
    (later k (kept_entry slots d) (omega (arith, length-map entries (kept_entry slots))))

-- a search that finds nothing does not stop at the first
not_first : (b : Bool) (k : Kept) (rest : Option Kept) → cond b (Some k) rest ≡ None → (b ≡ false) × (rest ≡ None)
not_first true k rest e = absurd cc
not_first false k rest e = (refl, e)

-- where no kept row has a signature, the row of no entry has it
other_signature : (slots : Slots) (signature : List ℕ) (entries : List Queued) (k : ℕ) (row : Kept) → kept_with signature (kept_entries slots entries) ≡ None → HasSlot k entries
    → row_at slots k ≡ Some row → bytes_eq row.signature signature ≡ false
other_signature slots signature [] k row none listed at = absurd listed
other_signature slots signature (entry ∷ entries) k row none listed at =
    let parts = not_first (kept_signature signature (kept_entry slots entry)) (kept_entry slots entry) _ none in
    ⊎_elim
    (λ same. ap (λ (k : Kept). kept_signature signature k) (sym (kept_entry-row slots entry row (ap (row_at slots) same ∙ at))) ∙ parts.0)
    (λ there. other_signature slots signature entries k row parts.1 there at)
    listed

-- where no kept row has a signature, no slot has it
pub absent_from_slots : (slots : Slots) (entries : List Queued) (signature : List ℕ) → ((k : ℕ) (row : Kept) → row_at slots k ≡ Some row → HasSlot k entries)
    → kept_with signature (kept_entries slots entries) ≡ None → slot_of (map signature_of slots) signature ≡ None
absent_from_slots slots entries signature listed none = no_slot (map signature_of slots) signature (λ k. ap (has signature) (signature_at slots k) ∙ by_row k (row_at slots k) refl)
  where
    by_row : (k : ℕ) (held : Option Kept) → row_at slots k ≡ held → has signature (signature_of held) ≡ false
    by_row k None at = refl
    by_row k (Some row) at = other_signature slots signature entries k row none (listed k row at) at

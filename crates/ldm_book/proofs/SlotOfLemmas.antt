-- The index by signature: where it finds a signature.
use Rattle.std.proofs.Common.{◌≡◌, ℕ, zero, suc, ◌<◌, true, false, cond, List, [], ◌∷◌, length, map, get_or, Option, Some, None, refl, ap, ◌∙◌, inl, inr, arith}
use Rattle.std.specs.Prelude.{slice_get}
use Rattle.std.specs.List.{position_or_len}
use Rattle.std.proofs.lemmas.Bool.{false≢true, both_ways, cases_lt, cond-true, lt-ltb, le-ltb}
use Rattle.std.proofs.lemmas.List.{length-map}
use Rattle.std.proofs.lemmas.List.Sums.{fails_before_first, passes_at_first, position_or_len_is}
use Rattle.std.proofs.lemmas.Option.{slice_get-get_or, slice_get_within, get_or_from_slice_get}
use Rattle.std.proofs.lemmas.Slice.Eq.{bytes_eq-Decides}
use Rattle.ldm_sigindex.specs.Index.{Table, has, slot_of, IsOneToOne}
use Rattle.ldm_book.specs.View.{Kept}
use Rattle.ldm_book.specs.Slots.{Slots, row_at, signature_of}
use Rattle.ldm_book.proofs.RowAtLemmas.{filled_within}

-- a slot has the signature of its row
pub signature_at : (slots : Slots) (k : ℕ) → get_or (map signature_of slots) k None ≡ signature_of (row_at slots k)
signature_at [] k = refl
signature_at (held ∷ slots) zero = refl
signature_at (held ∷ slots) (suc k) = signature_at slots k

-- the signature of a product stands in the table of the signatures
pub stands_at : (slots : Slots) (k : ℕ) (row : Kept) → row_at slots k ≡ Some row → slice_get (map signature_of slots) k ≡ Some (Some row.signature)
stands_at slots k row at =
    let inside = filled_within slots k row at in
    let len = length-map slots signature_of in
    slice_get-get_or (map signature_of slots) k None (omega arith) ∙ ap Some (signature_at slots k ∙ ap signature_of at)

-- a signature that no slot has is not found
pub no_slot : (table : Table) (signature : List ℕ) → ((k : ℕ) → has signature (get_or table k None) ≡ false) → slot_of table signature ≡ None
no_slot table signature all =
    let first = position_or_len_is (has signature) table (length table) None (omega arith) (λ k _. all k) (λ lt. absurd (omega arith)) in
    ap (λ b. cond b (Some (position_or_len (has signature) table)) None) (le-ltb (position_or_len (has signature) table) (length table) (omega arith))

-- what has a signature is that signature
holds : (signature : List ℕ) (held : Option (List ℕ)) → has signature held ≡ true → held ≡ Some signature
holds signature None is = absurd (false≢true is)
holds signature (Some bytes) is = ap (λ b. Some b) ((bytes_eq-Decides bytes signature).0 is)

-- the slot of a signature that stands in a table is found
pub slot_of_found : (table : Table) (slot : ℕ) (signature : List ℕ) → IsOneToOne table → slice_get table slot ≡ Some (Some signature) → slot_of table signature ≡ Some slot
slot_of_found table slot signature once there =
    let first = position_or_len (has signature) table in
    let inside : slot < length table = slice_get_within table slot (Some signature) there in
    let passes : has signature (get_or table slot None) ≡ true = ap (has signature) (get_or_from_slice_get table slot (Some signature) None there) ∙ (bytes_eq-Decides signature signature).1 refl in
    let within : first < length table = elim (cases_lt slot first) [
      | inl before ↦ absurd (both_ways _ (fails_before_first (has signature) table slot None before) passes)
      | inr behind ↦ omega arith
    ] in
    let held = holds signature (get_or table first None) (passes_at_first (has signature) table None within) in
    cond-true _ (Some first) None (lt-ltb first (length table) within)
    ∙ ap (λ k. Some k) (once first slot signature (slice_get-get_or table first None within ∙ ap (λ o. Some o) held) there)

-- the slot of a product is found by its signature
pub slot_of_row : (slots : Slots) (slot : ℕ) (row : Kept) → row_at slots slot ≡ Some row → IsOneToOne (map signature_of slots) → slot_of (map signature_of slots) row.signature ≡ Some slot
slot_of_row slots slot row here once = slot_of_found (map signature_of slots) slot row.signature once (stands_at slots slot row here)

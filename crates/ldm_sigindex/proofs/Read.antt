-- What the code reads, in the words of the definitions.
use Rattle.std.proofs.Common.{◌≡◌, ℕ, zero, suc, ◌<◌, Bool, true, false, List, [], ◌∷◌, length, get_or, slice_get, Option, Some, None, refl, sym, ap, ◌∙◌, arith}
use Rattle.std.proofs.lemmas.Bool.{both_ways}
use Rattle.std.proofs.lemmas.List.{get_or-map, length-map}
use Rattle.std.proofs.lemmas.Option.{slice_get-get_or}
use Rattle.std.proofs.lemmas.Slice.Eq.{bytes_eq-Decides}
use Rattle.ldm_types.specs.declared.signature.Signature.{Signature}
use Rattle.ldm_sigindex.specs.declared.entries.Entry.{Entry}
use Rattle.ldm_sigindex.specs.declared.entries.TheConstants.{END}
use Rattle.ldm_sigindex.specs.Entries.{IsKept, bytes_of, entry_at, slot_at, table_of}
use Rattle.ldm_sigindex.specs.Index.{has}
use Rattle.ldm_sigindex.proofs.Occupied.{slot_inside}

-- an entry, whatever would be read past the end
pub read : (entries : List Entry) (at : ℕ) (d : Entry) → at < length entries → get_or entries at d ≡ entry_at entries at
read [] at d lt = absurd (omega arith)
read (entry ∷ entries) zero d lt = refl
read (entry ∷ entries) (suc at) d lt = read entries at d (omega arith)

pub read_slot : (entries : List Entry) (at : ℕ) (d : Entry) → at < length entries → (get_or entries at d).slot ≡ slot_at entries at
read_slot entries at d lt = ap (λ (entry : Entry). entry.slot) (read entries at d lt)

pub read_taken : (entries : List Entry) (at : ℕ) (d : Entry) → at < length entries → ((get_or entries at d).slot ≡ END → ⊥) → slot_at entries at ≡ END → ⊥
read_taken entries at d lt taken ended = taken (read_slot entries at d lt ∙ ended)

pub read_mark : (entries : List Entry) (at : ℕ) (d : Entry) → at < length entries → (get_or entries at d).mark ≡ (entry_at entries at).mark
read_mark entries at d lt = ap (λ (entry : Entry). entry.mark) (read entries at d lt)

has_same : (signature : List ℕ) (held : Option (List ℕ)) → has signature held ≡ true → held ≡ Some signature
has_same signature None is = absurd (both_ways false refl is)
has_same signature (Some held) is = ap (λ bytes. Some bytes) ((bytes_eq-Decides held signature).0 is)

held_is : (slots : List (Option Signature)) (slot : ℕ) (d : Option Signature) → slot < length slots → slice_get (table_of slots) slot ≡ Some (bytes_of (get_or slots slot d))
held_is slots slot d lt =
    slice_get-get_or (table_of slots) slot None (omega (arith, length-map slots bytes_of)) ∙ ap (λ held. Some held) (get_or-map bytes_of slots slot d None lt)

-- a slot that has a signature, by the test of the code
pub is_held_there : (slots : List (Option Signature)) (slot : ℕ) (d : Option Signature) (signature : List ℕ) → slot < length slots → has signature (bytes_of (get_or slots slot d)) ≡ true →
    slice_get (table_of slots) slot ≡ Some (Some signature)
is_held_there slots slot d signature lt is = held_is slots slot d lt ∙ ap (λ held. Some held) (has_same signature (bytes_of (get_or slots slot d)) is)

pub is_not_held_there : (slots : List (Option Signature)) (slot : ℕ) (d : Option Signature) (signature : List ℕ) → slot < length slots → has signature (bytes_of (get_or slots slot d)) ≡ false →
    slice_get (table_of slots) slot ≡ Some (Some signature) → ⊥
is_not_held_there slots slot d signature lt is_not held =
    let same : bytes_of (get_or slots slot d) ≡ Some signature = let e = sym (held_is slots slot d lt) ∙ held in cc in
    both_ways (has signature (bytes_of (get_or slots slot d))) is_not (ap (has signature) same ∙ (bytes_eq-Decides signature signature).1 refl)

module _ (key : ℕ) (entries : List Entry) (slots : List (Option Signature)) (signature : List ℕ) (at : ℕ) (blank : Entry) (d : Option Signature) (result : Bool) (kept : IsKept key entries (table_of slots))
    (lt : at < length entries) (taken : (get_or entries at blank).slot ≡ END → ⊥) (is : result ≡ has signature (bytes_of (get_or slots (get_or entries at blank).slot d))) where
  slot_lt : (get_or entries at blank).slot < length slots
  slot_lt =
      let there = slot_inside key entries (table_of slots) kept at (read_taken entries at blank lt taken) in
      omega (arith, there, read_slot entries at blank lt, length-map slots bytes_of)

  -- the slot of an entry has the signature
  pub held_by : result ≡ true → slice_get (table_of slots) (slot_at entries at) ≡ Some (Some signature)
  held_by is_yes = ap (slice_get (table_of slots)) (sym (read_slot entries at blank lt)) ∙ is_held_there slots (get_or entries at blank).slot d signature slot_lt (sym is ∙ is_yes)

  -- it has another
  pub not_held_by : result ≡ false → slice_get (table_of slots) (slot_at entries at) ≡ Some (Some signature) → ⊥
  not_held_by is_no held =
      is_not_held_there slots (get_or entries at blank).slot d signature slot_lt (sym is ∙ is_no) (ap (slice_get (table_of slots)) (read_slot entries at blank lt) ∙ held)

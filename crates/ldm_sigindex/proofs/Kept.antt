-- What is kept of an index when a slot gets a signature, and when one is taken from it.
use Rattle.std.proofs.Common.{◌≡◌, ℕ, zero, suc, ◌<◌, List, ◌∷◌, length, get_or, set, replicate, slice_get, IfSome, Option, Some, None, refl, sym, ap, ◌∙◌, subst, arith}
use Rattle.std.proofs.lemmas.List.{length-map, map-set}
use Rattle.std.proofs.lemmas.Option.{slice_get_within}
use Rattle.ldm_types.specs.declared.signature.Signature.{Signature}
use Rattle.ldm_sigindex.specs.declared.entries.Entry.{Entry}
use Rattle.ldm_sigindex.specs.declared.entries.TheConstants.{END}
use Rattle.ldm_sigindex.specs.Entries.{IsEntry, IsFirstFree, IsKept, bytes_of, entry_at, home_of, mark_of, slot_at, table_of}
use Rattle.ldm_sigindex.specs.Index.{Table, IsOneToOne, slot_of}
use Rattle.ldm_sigindex.proofs.Occupied.{entry_found, inside, kept_put}
use Rattle.ldm_sigindex.proofs.Read.{read}

pub none_of : (slots : ℕ) → table_of (replicate slots None) ≡ replicate slots None
none_of zero = refl
none_of (suc slots) = ap (λ (table : Table). None ∷ table) (none_of slots)

-- what is nothing but none
pub only_none : (C : Option Signature → Type 0) → ((signature : Signature) → C (Some signature) → ⊥) → (slot : Option Signature) → C slot → slot ≡ None
only_none C never None is = refl
only_none C never (Some signature) is = absurd (never signature is)

pub slot_within : (slots : List (Option Signature)) (slot : ℕ) (held : Option (List ℕ)) → slice_get (table_of slots) slot ≡ Some held → slot < length slots
slot_within slots slot held at = let lt = slice_get_within (table_of slots) slot held at in omega (arith, length-map slots bytes_of)

-- what a change leaves of entries and slots: the table is this one
pub record IsLeft (key : ℕ) (entries : List Entry) (slots : List (Option Signature)) (table : Table) : Type 0 where
  pub kept : IsKept key entries (table_of slots)
  pub view : table_of slots ≡ table
  pub one_to_one : IsOneToOne (table_of slots)

left : (key : ℕ) (entries : List Entry) (slots : List (Option Signature)) (table : Table) → table_of slots ≡ table → IsKept key entries table → IsLeft key entries slots table
left key entries slots table view kept =
    let here : IsKept key entries (table_of slots) = subst (IsKept key entries) (sym view) kept in
    record { kept = here; view = view; one_to_one = here.one_to_one }

pub is_put : (key : ℕ) (entries lent : List Entry) (slots : List (Option Signature)) (table : Table) (signature : Signature) (slot mark places home place : ℕ) → IsKept key entries (table_of slots) →
    table_of slots ≡ table → lent ≡ entries → mark ≡ mark_of key signature.0 → places ≡ length entries → home ≡ home_of places mark → IsFirstFree lent home place →
    slice_get table slot ≡ Some None → slot_of table signature.0 ≡ None →
    IsLeft key (set entries place (record { mark = mark; slot = slot })) (set slots slot (Some signature)) (set table slot (Some signature.0))
is_put key entries lent slots table signature slot mark places home place kept view lent_is mark_is places_is home_is first empty absent =
    let kept' : IsKept key entries table = subst (IsKept key entries) view kept in
    let home' : home ≡ home_of (length entries) (mark_of key signature.0) = home_is ∙ ap (λ n. home_of n mark) places_is ∙ ap (home_of (length entries)) mark_is in
    let first' : IsFirstFree entries (home_of (length entries) (mark_of key signature.0)) place =
    subst (λ h. IsFirstFree entries h place) home' (subst (λ (list : List Entry). IsFirstFree list home place) lent_is first) in
    left key (set entries place (record { mark = mark; slot = slot })) (set slots slot (Some signature)) (set table slot (Some signature.0))
    (map-set bytes_of slots slot (Some signature) ∙ ap (λ (t : Table). set t slot (Some signature.0)) view)
    (subst (λ m. IsKept key (set entries place (record { mark = m; slot = slot })) (set table slot (Some signature.0))) (sym mark_is)
    (kept_put key entries table kept' signature.0 slot place absent empty first'))

-- the slot of the entry of a signature has it
pub is_slot_of : (key : ℕ) (entries : List Entry) (slots : List (Option Signature)) (table : Table) (signature : List ℕ) (entry : Entry) (slot : ℕ) → IsKept key entries (table_of slots) → table_of slots ≡ table →
    IsEntry key entry (table_of slots) signature → slot ≡ entry.slot → slot_of table signature ≡ Some slot
is_slot_of key entries slots table signature entry slot kept view is same =
    ap (λ (t : Table). slot_of t signature) (sym view) ∙ entry_found key entries (table_of slots) kept entry signature is ∙ ap (λ s. Some s) (sym same)

-- ---- what a search has found

pub sought : (key : ℕ) (entries lent : List Entry) (slots lent_slots : List (Option Signature)) (signature : List ℕ) (place : ℕ) → lent ≡ entries → lent_slots ≡ slots →
    IsEntry key (entry_at lent place) (table_of lent_slots) signature → IsEntry key (entry_at entries place) (table_of slots) signature
sought key entries lent slots lent_slots signature place same same_slots is =
    subst (λ (list : List Entry). IsEntry key (entry_at list place) (table_of slots) signature) same
    (subst (λ (list : List (Option Signature)). IsEntry key (entry_at lent place) (table_of list) signature) same_slots is)

module _ (key : ℕ) (entries : List Entry) (slots : List (Option Signature)) (table : Table) (signature : List ℕ) (place : ℕ) (kept : IsKept key entries (table_of slots)) (view : table_of slots ≡ table)
    (is : IsEntry key (entry_at entries place) (table_of slots) signature) where
  pub is_taken : slot_at entries place ≡ END → ⊥
  is_taken ended =
      let lt = slice_get_within (table_of slots) (slot_at entries place) (Some signature) is.held in
      absurd (omega (arith, ended, lt, kept.within))

  pub place_inside : place < length entries
  place_inside = inside entries place is_taken

  module _ (entry : Entry) (is_read : entry ≡ get_or entries place entry) where
    read_is : entry ≡ entry_at entries place
    read_is = is_read ∙ read entries place entry place_inside

    pub read_inside : entry.slot < length slots
    read_inside = slot_within slots entry.slot (Some signature) (ap (λ (e : Entry). slice_get (table_of slots) e.slot) read_is ∙ is.held)

    pub read_found : slot_of table signature ≡ Some entry.slot
    read_found = is_slot_of key entries slots table signature (entry_at entries place) entry.slot kept view is (ap (λ (e : Entry). e.slot) read_is)

    pub is_left : (lent closed closed' : List Entry) → lent ≡ entries → closed' ≡ closed →
        ((other : Table) → IsKept key lent other → IsKept key closed (set other (slot_at lent place) None)) → IsLeft key closed' (set slots entry.slot None) (set table entry.slot None)
    is_left lent closed closed' lent_is closed_is closes =
        let kept' : IsKept key entries table = subst (IsKept key entries) view kept in
        let gone : IsKept key closed (set table (slot_at lent place) None) = closes table (subst (λ (list : List Entry). IsKept key list table) (sym lent_is) kept') in
        let slot_is : slot_at lent place ≡ entry.slot = ap (λ (list : List Entry). slot_at list place) lent_is ∙ sym (ap (λ (e : Entry). e.slot) read_is) in
        left key closed' (set slots entry.slot None) (set table entry.slot None)
        (map-set bytes_of slots entry.slot None ∙ ap (λ (t : Table). set t entry.slot None) view)
        (subst (λ (list : List Entry). IsKept key list (set table entry.slot None)) (sym closed_is) (subst (λ slot. IsKept key closed (set table slot None)) slot_is gone))

    pub is_told : (slots' : List (Option Signature)) → table_of slots' ≡ set table entry.slot None → IfSome (slot_of table signature) (λ slot. table_of slots' ≡ set table slot None)
    is_told slots' after = subst (λ (found : Option ℕ). IfSome found (λ slot. table_of slots' ≡ set table slot None)) (sym read_found) after

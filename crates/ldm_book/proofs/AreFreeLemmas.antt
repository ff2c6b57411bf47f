-- The last of the free slots.
use Rattle.std.proofs.Common.{◌≡◌, ◌≢◌, ℕ, ◌<◌, ◌≤◌, ◌-◌, ◌+◌, List, [], ◌∷◌, ◌++◌, length, map, take, set, slice_get, Option, Some, None, sym, ap, subst, ◌∙◌, arith, length-set, get_or-set_other}
use Rattle.std.specs.List.{AllByRecursion}
use Rattle.std.specs.Option.{option_map}
use Rattle.std.proofs.lemmas.List.{take_more, take_all}
use Rattle.std.proofs.lemmas.Option.{slice_get_within, get_or_from_slice_get, slice_get-map, slice_get-get_or}
use Rattle.ldm_book.specs.View.{Kept}
use Rattle.ldm_book.specs.Slots.{Slots, row_at, signature_of, AreFree}

-- the free slots but the last
abbrev pub but_last : List ℕ → List ℕ
but_last free = take (length free - 1) free

-- a slot is the last of the free ones
pub record IsNext (slots : Slots) (free : List ℕ) (k : ℕ) : Type 0 where
  pub inside : k < length slots
  pub none : row_at slots k ≡ None
  pub some : 0 < length free
  pub apart : AllByRecursion (λ other. other ≢ k) (but_last free)
  pub left : AreFree slots (but_last free)

-- what a free slot behind others has, and what they have
abbrev Parts : Slots → List ℕ → ℕ → Type 0
Parts slots ks k = (k < length slots) × (row_at slots k ≡ None) × AllByRecursion (λ other. other ≢ k) ks × AreFree slots ks

-- what holds of all holds of the others and of the last
all_parts : (P : ℕ → Type 0) (ks : List ℕ) (k : ℕ) → AllByRecursion P (ks ++ k ∷ []) → AllByRecursion P ks × P k
all_parts P [] k all = (tt, all.0)
all_parts P (x ∷ xs) k all = let rest = all_parts P xs k all.1 in ((all.0, rest.0), rest.1)

-- the last of free slots, and the others
free_parts : (slots : Slots) (ks : List ℕ) (k : ℕ) → AreFree slots (ks ++ k ∷ []) → Parts slots ks k
free_parts slots [] k free = (free.0, free.1, tt, tt)
free_parts slots (x ∷ xs) k free =
    let rest = free_parts slots xs k free.3 in
    let apart = all_parts (λ other. other ≢ x) xs k free.2 in
    (rest.0, rest.1, (λ same. apart.1 (sym same), rest.2), (free.0, free.1, apart.0, rest.3))

-- the last of a list stands behind the others
last_behind : (ks : List ℕ) (k : ℕ) → Some k ≡ slice_get ks (length ks - 1) → but_last ks ++ k ∷ [] ≡ ks
last_behind ks k is =
    let inside = slice_get_within ks (length ks - 1) k (sym is) in
    let whole : length ks ≤ length ks - 1 + 1 = omega arith in
    ap (λ x. but_last ks ++ x ∷ []) (sym (get_or_from_slice_get ks (length ks - 1) k k (sym is)))
    ∙ sym (take_more ks (length ks - 1) k inside) ∙ take_all (length ks - 1 + 1) ks whole

-- the slot that is read as the last of the free ones
pub next_free : (slots : Slots) (free : List ℕ) → AreFree slots free → (read : List ℕ) (k : ℕ) → Some k ≡ slice_get read (length read - 1) → read ≡ free → IsNext slots free k
next_free slots free are read k is same =
    let last = is ∙ ap (λ (ks : List ℕ). slice_get ks (length ks - 1)) same in
    let inside = slice_get_within free (length free - 1) k (sym last) in
    let parts = free_parts slots (but_last free) k (subst (AreFree slots) (sym (last_behind free k last)) are) in
    record { inside = parts.0; none = parts.1; some = omega arith; apart = parts.2; left = parts.3 }

-- free slots stay free when another gets a product
pub free-set : (slots : Slots) (ks : List ℕ) (k : ℕ) (held : Option Kept) → AllByRecursion (λ other. other ≢ k) ks → AreFree slots ks → AreFree (set slots k held) ks
free-set slots [] k held apart free = tt
free-set slots (x ∷ xs) k held apart free =
    (omega (arith, free.0, length-set slots k held), get_or-set_other slots k x held None apart.0 ∙ free.1, free.2, free-set slots xs k held apart.1 free.3)

-- the others stay free when it gets a product
pub others_free : (slots : Slots) (free : List ℕ) (k : ℕ) → IsNext slots free k → (row : Kept) → AreFree (set slots k (Some row)) (but_last free)
others_free slots free k next row = free-set slots (but_last free) k (Some row) next.apart next.left

-- a slot without a product has no signature
pub no_signature : (slots : Slots) (k : ℕ) → k < length slots → row_at slots k ≡ None → slice_get (map signature_of slots) k ≡ Some None
no_signature slots k inside none =
    slice_get-map signature_of slots k
    ∙ ap (λ (held : Option (Option Kept)). option_map signature_of held) (slice_get-get_or slots k None inside ∙ ap (λ (held : Option Kept). Some held) none)

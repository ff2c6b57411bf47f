-- A list that is cut in two ways, and lists each of whose elements is such.
use Rattle.std.proofs.Common.{◌≡◌, ◌⊎◌, List, [], ◌∷◌, ◌++◌, inl, inr, refl, subst}
use Rattle.ldm_sender.specs.Does.{Each}

-- the one cut is behind the other, or before it
pub cut-twice : {A : Type 0} (part missing first rest : List A) → part ++ missing ≡ first ++ rest
    → ((more : List A) × (part ≡ first ++ more) × (more ++ missing ≡ rest)) ⊎ ((left : List A) × (part ++ left ≡ first) × (missing ≡ left ++ rest))
cut-twice part missing [] rest same = inl (part, refl, same)
cut-twice [] missing (y ∷ first) rest same = inr (y ∷ first, refl, same)
cut-twice {A = A} (x ∷ part) missing (y ∷ first) rest same =
    let head : x ≡ y = cc same in
    let tail : part ++ missing ≡ first ++ rest = cc same in
    elim (cut-twice part missing first rest tail) [
      | inl w ↦ inl (w.0, (λ i. head i ∷ w.1 i), w.2)
      | inr w ↦ inr (w.0, (λ i. head i ∷ w.1 i), w.2)
    ]

pub each-front : {A : Type 0} (Only : A → Type 0) (xs ys : List A) → Each Only (xs ++ ys) → Each Only xs
each-front Only [] ys all = tt
each-front Only (x ∷ xs) ys all = (all.0, each-front Only xs ys all.1)

pub each-behind : {A : Type 0} (Only : A → Type 0) (xs ys : List A) → Each Only (xs ++ ys) → Each Only ys
each-behind Only [] ys all = all
each-behind Only (x ∷ xs) ys all = each-behind Only xs ys all.1

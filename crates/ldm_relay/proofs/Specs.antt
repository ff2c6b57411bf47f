-- Reading specifications one after the other, as a loop does.
use Rattle.std.proofs.Common.{◌≡◌, ℕ, suc, ◌-◌, ◌+◌, ◌≤◌, ◌<◌, List, [], ◌∷◌, ◌++◌, Result, Ok, Err, refl, sym, ap, ◌∙◌, append_assoc, arith}
use Rattle.std.proofs.lemmas.List.{append-nil}
use Rattle.ldm_types.specs.declared.class.Spec.{Spec}
use Rattle.ldm_xdr.specs.Fields.{◌>>=◌}
use Rattle.ldm_relay.specs.Classes.{spec_in, specs_in}

abbrev pub Reading : Type 0
Reading = Result (List Spec × List ℕ) ℕ

-- what was read before, and what is still read
abbrev pub with_front : List Spec → Reading → Reading
with_front front (Ok x) = Ok (front ++ x.0, x.1)
with_front front (Err left) = Err left

regroup : (front : List Spec) (spec : Spec) (reading : Reading)
    → with_front front (reading >>= λ x. Ok (spec ∷ x.0, x.1)) ≡ with_front (front ++ spec ∷ []) reading
regroup front spec (Ok x) = ap (λ (specs : List Spec). Ok (specs, x.1)) (simp append_assoc)
regroup front spec (Err left) = refl

pub goes_on : (front : List Spec) (count i : ℕ) (left : List ℕ) (spec : Spec) (after : List ℕ) (total : Reading) → i < count → spec_in left ≡ Ok (spec, after)
    → with_front front (specs_in (count - i) left) ≡ total → with_front (front ++ spec ∷ []) (specs_in (count - (i + 1)) after) ≡ total
unfolding specs_in
goes_on front count i left spec after total lt read so_far =
    let k : count - i ≡ suc (count - (i + 1)) = omega arith in
    let one : with_front front (specs_in (count - i) left) ≡ with_front (front ++ spec ∷ []) (specs_in (count - (i + 1)) after) =
    rw (k, read) (regroup front spec (specs_in (count - (i + 1)) after)) in
    sym one ∙ so_far

pub stops : (front : List Spec) (count i : ℕ) (left : List ℕ) (bad : ℕ) (total : Reading) → i < count → spec_in left ≡ Err bad
    → with_front front (specs_in (count - i) left) ≡ total → total ≡ Err bad
unfolding specs_in
stops front count i left bad total lt read so_far =
    let k : count - i ≡ suc (count - (i + 1)) = omega arith in
    let one : with_front front (specs_in (count - i) left) ≡ Err bad = rw (k, read) refl in
    sym so_far ∙ one

pub is_done : (front : List Spec) (count i : ℕ) (left : List ℕ) (total : Reading) → count ≤ i → with_front front (specs_in (count - i) left) ≡ total → total ≡ Ok (front, left)
unfolding specs_in
is_done front count i left total le so_far =
    let k : count - i ≡ 0 = omega arith in
    let one : with_front front (specs_in (count - i) left) ≡ Ok (front, left) = rw k (ap (λ (specs : List Spec). Ok (specs, left)) (append-nil front)) in
    sym so_far ∙ one

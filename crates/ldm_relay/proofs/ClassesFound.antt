-- Classes that are read stand there as they are spelled, and so does what is said to one.
use Rattle.std.proofs.Common.{◌≡◌, ℕ, zero, suc, ◌+◌, ◌*◌, ◌/◌, ◌%◌, ◌⊎◌, Bool, true, false, cond, eqb, List, [], ◌∷◌, ◌++◌, length, Ok, refl, sym, ap, subst, ◌∙◌, arith, inl, inr}
use Rattle.std.specs.Int.{w32}
use Rattle.std.specs.List.{flat_map}
use Rattle.std.proofs.lemmas.Bool.{eqb-true}
use Rattle.ldm_types.specs.declared.limits.TheConstants.{LONGEST_PATTERN, MOST_SPECS}
use Rattle.ldm_types.specs.declared.class.ClassSpec.{ClassSpec}
use Rattle.ldm_types.specs.declared.class.Spec.{Spec}
use Rattle.ldm_relay.specs.declared.message.ClassAnswer.{ClassAnswer}
use Rattle.ldm_relay.specs.declared.message.ClassAnswer.TheVariants as class_answer
use Rattle.ldm_xdr.specs.Fields.{number_in, up_to_in, opaque_in}
use Rattle.ldm_relay.specs.Classes.{instant_in, spec_in, specs_in, class_in, reclass_in, coded_class_answer, class_answer_in}
use Rattle.ldm_xdr.specs.Spelling.{unsigned, opaque}
use Rattle.ldm_relay.specs.Spelling.{instant_bytes, spec_bytes, class_bytes, class_answer_bytes}
use Rattle.ldm_xdr.proofs.FieldsFound.{IsBytes, bind_ok, failed, ok_is, Takes, both_taken, taken_as, unsigned_found, up_to_found, opaque_found}

instant_found : (bytes : List ℕ) (x : ℕ × List ℕ) → IsBytes bytes → instant_in bytes ≡ Ok x → Takes bytes (instant_bytes x.0) x.1
unfolding instant_in instant_bytes
instant_found bytes x fits e =
    let a = bind_ok (number_in w32 bytes) _ x e in
    let b = bind_ok (up_to_in 999999 a.0.1) _ x a.2 in
    let s = unsigned_found bytes a.0 fits a.1 in
    let m = up_to_found 999999 a.0.1 b.0 s.0.rest_fits b.1 in
    let n = a.0.0 * 1000000 + b.0.0 in
    let seconds : a.0.0 ≡ n / 1000000 = omega (arith, m.1) in
    let micros : b.0.0 ≡ n % 1000000 = omega (arith, m.1) in
    let same : unsigned a.0.0 ++ unsigned b.0.0 ≡ unsigned (n / 1000000) ++ unsigned (n % 1000000) =
    ap (λ k. unsigned k ++ unsigned b.0.0) seconds ∙ ap (λ k. unsigned (n / 1000000) ++ unsigned k) micros in
    let made : ℕ × List ℕ = (n, b.0.1) in
    subst (λ (y : ℕ × List ℕ). Takes bytes (instant_bytes y.0) y.1) (ok_is made x b.2)
    (taken_as bytes _ (instant_bytes n) b.0.1 same (both_taken bytes (unsigned a.0.0) a.0.1 (unsigned b.0.0) b.0.1 s.0 m.0))

spec_found : (bytes : List ℕ) (x : Spec × List ℕ) → IsBytes bytes → spec_in bytes ≡ Ok x → Takes bytes (spec_bytes x.0) x.1
unfolding spec_in spec_bytes
spec_found bytes x fits e =
    let a = bind_ok (number_in w32 bytes) _ x e in
    let b = bind_ok (opaque_in LONGEST_PATTERN a.0.1) _ x a.2 in
    let f = unsigned_found bytes a.0 fits a.1 in
    let p = opaque_found LONGEST_PATTERN a.0.1 b.0 f.0.rest_fits b.1 in
    let made : Spec × List ℕ = (record { feed = record { 0 = a.0.0 }; pattern = record { items = b.0.0 } }, b.0.1) in
    subst (λ (y : Spec × List ℕ). Takes bytes (spec_bytes y.0) y.1) (ok_is made x b.2) (both_taken bytes (unsigned a.0.0) a.0.1 (opaque b.0.0) b.0.1 f.0 p.0)

specs_found : (count : ℕ) (bytes : List ℕ) (x : List Spec × List ℕ) → IsBytes bytes → specs_in count bytes ≡ Ok x → Takes bytes (flat_map spec_bytes x.0) x.1 × (length x.0 ≡ count)
unfolding specs_in
specs_found zero bytes x fits e =
    let made : List Spec × List ℕ = ([], bytes) in
    subst (λ (y : List Spec × List ℕ). Takes bytes (flat_map spec_bytes y.0) y.1 × (length y.0 ≡ 0)) (ok_is made x e) (record { parts = refl; rest_fits = fits }, refl)
specs_found (suc count) bytes x fits e =
    let a = bind_ok (spec_in bytes) _ x e in
    let b = bind_ok (specs_in count a.0.1) _ x a.2 in
    let first = spec_found bytes a.0 fits a.1 in
    let others = specs_found count a.0.1 b.0 first.rest_fits b.1 in
    let made : List Spec × List ℕ = (a.0.0 ∷ b.0.0, b.0.1) in
    subst (λ (y : List Spec × List ℕ). Takes bytes (flat_map spec_bytes y.0) y.1 × (length y.0 ≡ suc count)) (ok_is made x b.2)
    (both_taken bytes (spec_bytes a.0.0) a.0.1 (flat_map spec_bytes b.0.0) b.0.1 first others.0, ap suc others.1)

pub class_found : (bytes : List ℕ) (x : ClassSpec × List ℕ) → IsBytes bytes → class_in bytes ≡ Ok x → Takes bytes (class_bytes x.0) x.1
unfolding class_in class_bytes
class_found bytes x fits e =
    let a = bind_ok (instant_in bytes) _ x e in
    let b = bind_ok (instant_in a.0.1) _ x a.2 in
    let c = bind_ok (up_to_in MOST_SPECS b.0.1) _ x b.2 in
    let d = bind_ok (specs_in c.0.0 c.0.1) _ x c.2 in
    let from = instant_found bytes a.0 fits a.1 in
    let to = instant_found a.0.1 b.0 from.rest_fits b.1 in
    let count = up_to_found MOST_SPECS b.0.1 c.0 to.rest_fits c.1 in
    let specs = specs_found c.0.0 c.0.1 d.0 count.0.rest_fits d.1 in
    let counted : Takes b.0.1 (unsigned (length d.0.0)) c.0.1 = taken_as b.0.1 (unsigned c.0.0) (unsigned (length d.0.0)) c.0.1 (ap (λ n. unsigned n) (sym specs.1)) count.0 in
    let two = both_taken bytes (instant_bytes a.0.0) a.0.1 (instant_bytes b.0.0) b.0.1 from to in
    let three = both_taken bytes (instant_bytes a.0.0 ++ instant_bytes b.0.0) b.0.1 (unsigned (length d.0.0)) c.0.1 two counted in
    let four = both_taken bytes (instant_bytes a.0.0 ++ instant_bytes b.0.0 ++ unsigned (length d.0.0)) c.0.1 (flat_map spec_bytes d.0.0) d.0.1 three specs.0 in
    let made : ClassSpec × List ℕ = (record { from = a.0.0; to = b.0.0; specs = record { items = d.0.0 } }, d.0.1) in
    subst (λ (y : ClassSpec × List ℕ). Takes bytes (class_bytes y.0) y.1) (ok_is made x d.2) four

-- ---- codes

-- which way a test went
pub chosen : {A : Type 0} (b : Bool) (x y z : A) → cond b x y ≡ z → ((b ≡ true) × (x ≡ z)) ⊎ ((b ≡ false) × (y ≡ z))
chosen true x y z e = inl (refl, e)
chosen false x y z e = inr (refl, e)

pub err_is_no_ok : {A : Type 0} (bad : ℕ) (x : A) → failed {A = A} bad ≡ Ok x → ⊥
err_is_no_ok bad x e = cc

-- a code alone, and one with more behind it
pub code_taken : (code n : ℕ) (left : List ℕ) → IsBytes left → eqb code n ≡ true → Takes (unsigned code ++ left) (unsigned n) left
code_taken code n left fits is = record { parts = ap (λ k. unsigned k ++ left) (eqb-true code n is); rest_fits = fits }

pub code_with : (code n : ℕ) (left text rest : List ℕ) → IsBytes left → eqb code n ≡ true → Takes left text rest → Takes (unsigned code ++ left) (unsigned n ++ text) rest
code_with code n left text rest fits is taken = both_taken (unsigned code ++ left) (unsigned n) left text rest (code_taken code n left fits is) taken

reclass_found : (code : ℕ) (left : List ℕ) (x : ClassAnswer × List ℕ) → IsBytes left → eqb code 1 ≡ true → reclass_in left ≡ Ok x
    → Takes (unsigned code ++ left) (class_answer_bytes x.0) x.1
unfolding reclass_in
reclass_found code left x fits is e =
    let b = bind_ok (class_in left) _ x e in
    let made : ClassAnswer × List ℕ = (class_answer.Reclass b.0.0, b.0.1) in
    subst (λ (y : ClassAnswer × List ℕ). Takes (unsigned code ++ left) (class_answer_bytes y.0) y.1) (ok_is made x b.2)
    (code_with code 1 left (class_bytes b.0.0) b.0.1 fits is (class_found left b.0 fits b.1))

-- an answer that is a code alone
bare : (code n : ℕ) (left : List ℕ) (answer : ClassAnswer) (x : ClassAnswer × List ℕ) → IsBytes left → eqb code n ≡ true → class_answer_bytes answer ≡ unsigned n
    → (answer, left) ≡ x → Takes (unsigned code ++ left) (class_answer_bytes x.0) x.1
bare code n left answer x fits is spelled e =
    subst (λ (y : ClassAnswer × List ℕ). Takes (unsigned code ++ left) (class_answer_bytes y.0) y.1) e
    (taken_as (unsigned code ++ left) (unsigned n) (class_answer_bytes answer) left (sym spelled) (code_taken code n left fits is))

coded_found : (field code : ℕ) (left : List ℕ) (x : ClassAnswer × List ℕ) → IsBytes left → coded_class_answer field code left ≡ Ok x
    → Takes (unsigned code ++ left) (class_answer_bytes x.0) x.1
coded_found field code left x fits e =
    elim (chosen (eqb code 0) _ _ _ e) [
      | inl h ↦ bare code 0 left class_answer.Ok x fits h.0 refl (ok_is _ x h.1)
      | inr h ↦
          elim (chosen (eqb code 1) _ _ _ h.1) [
            | inl k ↦ reclass_found code left x fits k.0 k.1
            | inr k ↦
                elim (chosen (eqb code 2) _ _ _ k.1) [
                  | inl l ↦ bare code 2 left class_answer.Denied x fits l.0 refl (ok_is _ x l.1)
                  | inr l ↦
                      elim (chosen (eqb code 3) _ _ _ l.1) [
                        | inl m ↦ bare code 3 left class_answer.BadPattern x fits m.0 refl (ok_is _ x m.1)
                        | inr m ↦
                            elim (chosen (eqb code 4) _ _ _ m.1) [
                              | inl n ↦ bare code 4 left class_answer.Busy x fits n.0 refl (ok_is _ x n.1)
                              | inr n ↦ absurd (err_is_no_ok field x n.1)
                            ]
                      ]
                ]
          ]
    ]

pub class_answer_found : (bytes : List ℕ) (x : ClassAnswer × List ℕ) → IsBytes bytes → class_answer_in bytes ≡ Ok x → Takes bytes (class_answer_bytes x.0) x.1
unfolding class_answer_in
class_answer_found bytes x fits e =
    let b = bind_ok (number_in w32 bytes) _ x e in
    let code = unsigned_found bytes b.0 fits b.1 in
    let found = coded_found (length bytes) b.0.0 b.0.1 x code.0.rest_fits b.2 in
    record { parts = code.0.parts ∙ found.parts; rest_fits = found.rest_fits }

-- How long the forms are that a text begins with.
use Rattle.std.proofs.Common.{◌≡◌, ℕ, ◌≤◌, Bool, true, false, List, [], ◌∷◌, length, Some, refl, arith, length-take}
use lib.Pointwise.{pointwise_long}
use Rattle.std.specs.Prelude.{nat_eq, cond, take}
use Rattle.std.specs.List.{find, starts_with}
use Rattle.ldm_pqact_match.specs.declared.forms.DatePart.{DatePart}
use Rattle.ldm_pqact_match.specs.declared.forms.Mark.{Mark}
use Rattle.ldm_pqact_match.specs.Forms.{mark_at, marks, mark_spelling, part_at, parts, part_spelling}

passes_at : {A : Type 0} (p : A → Bool) (y : A) (ys : List A) (x : A) (b : Bool) → p y ≡ b → cond b (Some y) (find p ys) ≡ Some x →
    (find p ys ≡ Some x → p x ≡ true) → p x ≡ true
passes_at p y ys x true test e later = let same : y ≡ x = cc in rw (← same) test
passes_at p y ys x false test e later = later e

-- what is found passes
find_passes : {A : Type 0} (p : A → Bool) (xs : List A) (x : A) → find p xs ≡ Some x → p x ≡ true
find_passes p [] x e = absurd cc
find_passes p (y ∷ ys) x e = passes_at p y ys x (p y) refl e (find_passes p ys x)

begins_inside : (text spelling : List ℕ) → starts_with nat_eq text spelling ≡ true → length spelling ≤ length text
begins_inside text spelling h = let long = pointwise_long nat_eq spelling (take (length spelling) text) h in omega (arith, long, length-take (length spelling) text)

-- a form that a text begins with is no longer than the text
pub mark_inside : (text : List ℕ) (mark : Mark) → mark_at text ≡ Some mark → length (mark_spelling mark) ≤ length text
unfolding mark_at
mark_inside text mark e = begins_inside text (mark_spelling mark) (find_passes (λ mark. starts_with nat_eq text (mark_spelling mark)) marks mark e)

pub part_inside : (text : List ℕ) (part : DatePart) → part_at text ≡ Some part → length (part_spelling part) ≤ length text
unfolding part_at
part_inside text part e = begins_inside text (part_spelling part) (find_passes (λ part. starts_with nat_eq text (part_spelling part)) parts part e)

-- Whether some rule is about a host, as the number of the first one tells.
use Rattle.std.proofs.Common.{◌≡◌, ℕ, ◌+◌, ◌==◌, Bool, true, false, List, [], ◌∷◌, Some, refl, sym, ap, ◌∙◌, arith}
use Rattle.std.specs.Prelude.{not, ◌||◌, unwrap_or, cond, if◌then◌else◌}
use Rattle.std.proofs.lemmas.Bool.{ne_eqb}
use Rattle.std.specs.List.{list_any, list_all, position_from}
use Rattle.ldm_types.specs.declared.class.ClassSpec.{ClassSpec}
use Rattle.ldm_types.specs.declared.class.Spec.{Spec}
use Rattle.ldm_class.specs.Access.{is_about, is_within, feeds_for, first_rule, left_of, or_none, reduce}
use Rattle.ldm_class.specs.Classes.{is_resumption}
use Rattle.ldm_class.specs.Rules.{Rule}
use Rattle.ldm_class.specs.declared.answers.Reduced.{Reduced}
use Rattle.ldm_class.specs.declared.answers.Reduced.TheVariants.{Same, Fewer, Nothing}

-- counted from above 0, the number is 0 just where there is none
first-any : {X : Type 0} (test : X → Bool) (at : ℕ) (xs : List X) → not (unwrap_or (position_from test (at + 1) xs) 0 == 0) ≡ list_any test xs
first-any test at [] = refl
first-any test at (x ∷ xs) =
    elim (test x) as (λ (b : Bool). not (unwrap_or (cond b (Some (at + 1)) (position_from test (at + 1 + 1) xs)) 0 == 0) ≡ (b || list_any test xs)) [
      | true ↦ ap not (ne_eqb (at + 1) 0 (λ is. absurd (omega arith)))
      | false ↦ first-any test (at + 1) xs
    ]

module _ (rules : List Rule) (host : List ℕ) where
  -- what is left of a class without specifications
  left_of_none : (class : ClassSpec) → class.specs.items ≡ [] → reduce rules host class ≡ Nothing (or_none (first_rule (is_about host) rules))
  left_of_none class none =
      let feeds = feeds_for host rules in
      ap (λ (specs : List Spec). if list_all is_resumption (left_of feeds specs) then Nothing (or_none (first_rule (is_about host) rules))
      else (if list_all (is_within feeds) specs then Same else Fewer (record class { specs = record { items = left_of feeds specs } }))) none

  pub any_about : (class : ClassSpec) (left : Reduced) (rule : ℕ) → class.specs.items ≡ [] → left ≡ reduce rules host class → left ≡ Nothing rule
      → not (rule == 0) ≡ list_any (is_about host) rules
  any_about class left rule none answer is =
      let same : Nothing rule ≡ Nothing (or_none (first_rule (is_about host) rules)) = sym is ∙ answer ∙ left_of_none class none in
      let number : rule ≡ or_none (first_rule (is_about host) rules) = cc in
      ap (λ (n : ℕ). not (n == 0)) number ∙ first-any (is_about host) 0 rules

-- The verdict of the rules that are about a host is that of all rules.
use Rattle.std.proofs.Common.{◌≡◌, ◌∙◌, ℕ, ◌+◌, ◌<◌, Bool, true, false, cond, ◌&&◌, List, [], ◌∷◌, length, drop, get_or, Option, None, Some, refl, ap}
use Rattle.std.proofs.lemmas.List.{drop_more}
use Rattle.std.specs.List.{position_from}
use Rattle.std.specs.Option.{option_or}
use Rattle.ldm_types.specs.Feed.{feeds_meet}
use Rattle.ldm_types.specs.Info.{Metadata}
use Rattle.ldm_class.specs.Access.{is_about, meets, passes, verdict}
use Rattle.ldm_class.specs.KeptRules.{first_number, kept_meets, kept_passes, kept_rule, kept_verdict, rules_about}
use Rattle.ldm_class.specs.Rules.{Rule}
use Rattle.ldm_class.specs.declared.host_policy.KeptRule.{KeptRule}

and_swap : (a b : Bool) → (a && b) ≡ (b && a)
and_swap true true = refl
and_swap true false = refl
and_swap false true = refl
and_swap false false = refl

and_front : (a b c : Bool) → ((a && b) && c) ≡ (b && (a && c))
and_front true true c = refl
and_front true false c = refl
and_front false true c = refl
and_front false false c = refl

module _ (host : List ℕ) (p : Rule → Bool) (q : KeptRule → Bool)
    (agree : (number : ℕ) (rule : Rule) → p rule ≡ (is_about host rule && q (kept_rule number rule))) where
  -- the first rule that a test holds of, where it holds of rules about the host alone
  number_is : (number : ℕ) (rules : List Rule) → first_number q (rules_about host number rules) ≡ position_from p number rules
  number_is number [] = refl
  number_is number (rule ∷ rules) =
      let kept = kept_rule number rule in
      elim (is_about host rule) as (λ b. is_about host rule ≡ b → first_number q (rules_about host number (rule ∷ rules)) ≡ position_from p number (rule ∷ rules)) [
        | true ↦ λ is.
            let same : p rule ≡ q kept = agree number rule ∙ ap (λ b. b && q kept) is in
            rw (is, same) (ap (λ later. cond (q kept) (Some number) later) (number_is (number + 1) rules))
        | false ↦ λ is.
            let none : p rule ≡ false = agree number rule ∙ ap (λ b. b && q kept) is in
            rw (is, none) (number_is (number + 1) rules)
      ] refl

pub same_verdict : (rules : List Rule) (host : List ℕ) (info : Metadata) → kept_verdict (rules_about host 1 rules) info ≡ verdict rules host info
same_verdict rules host info =
    let passing = number_is host (λ rule. meets host info rule && passes info rule) (λ kept. kept_meets info kept && kept_passes info kept)
    (λ number rule. and_front (feeds_meet rule.feed info.feed) (is_about host rule) (passes info rule)) 1 rules in
    let meeting = number_is host (meets host info) (kept_meets info) (λ number rule. and_swap (feeds_meet rule.feed info.feed) (is_about host rule)) 1 rules in
    rw (passing, meeting) refl

-- What the rules in front of a place say: none of them passes, and that is the first that meets. No search changed a rule.
pub record IsAsked (info : Metadata) (all kept : List KeptRule) (place : ℕ) (first_met : Option ℕ) : Type 0 where
  pub same : kept ≡ all
  pub passing : first_number (λ kept. kept_meets info kept && kept_passes info kept) (drop place kept)
      ≡ first_number (λ kept. kept_meets info kept && kept_passes info kept) all
  pub meeting : option_or first_met (first_number (kept_meets info) (drop place kept)) ≡ first_number (kept_meets info) all

first_stays : (first : Option ℕ) (number : ℕ) (later : Option ℕ) → option_or (option_or first (Some number)) later ≡ option_or first (Some number)
first_stays None number later = refl
first_stays (Some n) number later = refl

module _ (info : Metadata) (all kept : List KeptRule) (place : ℕ) (first_met : Option ℕ) (other : KeptRule) (within : place < length kept) where
  next : drop place kept ≡ get_or kept place other ∷ drop (place + 1) kept
  next = drop_more kept place other within

  -- a rule that does not meet
  pub not_met : kept_meets info (get_or kept place other) ≡ false → IsAsked info all kept place first_met → IsAsked info all kept (place + 1) first_met
  not_met apart h = record { same = h.same; passing = rw (next, apart) at h.passing; meeting = rw (next, apart) at h.meeting }

  -- a rule that meets and does not pass
  pub met_only : kept_meets info (get_or kept place other) ≡ true → kept_passes info (get_or kept place other) ≡ false → IsAsked info all kept place first_met →
      IsAsked info all kept (place + 1) (option_or first_met (Some (get_or kept place other).number))
  met_only meets stops h = record {
    same = h.same;
    passing = rw (next, meets, stops) at h.passing;
    meeting = first_stays first_met (get_or kept place other).number (first_number (kept_meets info) (drop (place + 1) kept)) ∙ rw (next, meets) at h.meeting;
  }

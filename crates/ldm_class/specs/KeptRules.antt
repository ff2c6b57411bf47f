-- The rules that are about one host, and their verdict.
use Rattle.std.specs.Prelude.{ℕ, ◌+◌, Bool, true, false, ◌&&◌, not, List, [], ◌∷◌, Option, Some, None, if◌then◌else◌}
use Rattle.ldm_types.specs.Feed.{feeds_meet}
use Rattle.ldm_types.specs.Info.{Metadata}
use Rattle.ldm_class.specs.Access.{found_or, is_about, verdict_by}
use Rattle.ldm_class.specs.Rules.{Rule}
use Rattle.ldm_class.specs.declared.answers.Verdict.{Verdict}
use Rattle.ldm_class.specs.declared.host_policy.KeptRule.{KeptRule}

-- a rule with its number, as it is kept
abbrev pub kept_rule : ℕ → Rule → KeptRule
kept_rule number rule = record { number = number; feed = record { 0 = rule.feed }; ok = rule.ok; not = rule.not }

-- those of these rules that are about a host, where the first has that number
abbrev pub rules_about : List ℕ → ℕ → List Rule → List KeptRule
rules_about host number [] = []
rules_about host number (rule ∷ rules) =
    if is_about host rule then kept_rule number rule ∷ rules_about host (number + 1) rules else rules_about host (number + 1) rules

abbrev pub kept_meets : Metadata → KeptRule → Bool
kept_meets info kept = feeds_meet kept.feed.0 info.feed

abbrev pub kept_passes : Metadata → KeptRule → Bool
kept_passes info kept = found_or true kept.ok info.ident && not (found_or false kept.not info.ident)

-- the number of the first rule that a test holds of, if there is one
abbrev pub first_number : (KeptRule → Bool) → List KeptRule → Option ℕ
first_number test [] = None
first_number test (kept ∷ rules) = if test kept then Some kept.number else first_number test rules

abbrev pub kept_verdict : List KeptRule → Metadata → Verdict
kept_verdict rules info =
    verdict_by (first_number (λ kept. kept_meets info kept && kept_passes info kept) rules) (first_number (kept_meets info) rules)

use Rattle.std.proofs.Common.{◌≡◌, ◌+◌, bit_or, drop, fold, filter, map}
use Rattle.std.specs.List.{position_from}
use Rattle.std.specs.Option.{option_or}
use Rattle.ldm_class.specs.Access.{feeds_for, first_rule, is_about}
use Rattle.ldm_class.specs.Rules.{Rule}
use Rattle.ldm_class.proofs.reduce.share_of.Given as goal

abbrev pub invariant-loop-place : goal.invariant-loop-place
invariant-loop-place l =
    (fold bit_or l.feeds (map (λ (rule : Rule). rule.feed) (filter (is_about l.host) (drop l.place l.rules))) ≡ feeds_for l.host l.rules)
    × (option_or l.first (position_from (is_about l.host) (l.place + 1) (drop l.place l.rules)) ≡ first_rule (is_about l.host) l.rules)

use Rattle.std.proofs.Common.{◌≡◌, ◌+◌, ◌++◌, drop}
use Rattle.ldm_class.specs.KeptRules.{rules_about}
use Rattle.ldm_class.proofs.host_policy.kept_rules.Given as goal

abbrev pub invariant-loop-place : goal.invariant-loop-place
invariant-loop-place l =
    l.kept.items ++ rules_about l.host (l.place + 1) (drop l.place l.rules) ≡ rules_about l.host 1 l.rules

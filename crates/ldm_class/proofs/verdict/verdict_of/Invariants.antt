use Rattle.std.proofs.Common.{◌≡◌, ◌+◌, ◌&&◌, drop}
use Rattle.std.specs.List.{position_from}
use Rattle.std.specs.Option.{option_or}
use Rattle.ldm_class.specs.Access.{first_rule, meets, passes}
use Rattle.ldm_class.specs.Rules.{Rule}
use Rattle.ldm_class.proofs.verdict.verdict_of.Given as goal

abbrev pub invariant-loop-place : goal.invariant-loop-place
invariant-loop-place l =
    let lets_pass = λ (rule : Rule). meets l.host l.info rule && passes l.info rule in
    (position_from lets_pass (l.place + 1) (drop l.place l.rules) ≡ first_rule lets_pass l.rules)
    × (option_or l.first_met (position_from (meets l.host l.info) (l.place + 1) (drop l.place l.rules)) ≡ first_rule (meets l.host l.info) l.rules)

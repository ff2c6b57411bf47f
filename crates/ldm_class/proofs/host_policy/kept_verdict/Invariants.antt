use Rattle.ldm_class.proofs.KeptRules.{IsAsked}
use Rattle.ldm_class.proofs.host_policy.kept_verdict.Given as goal

abbrev pub invariant-loop-rule : goal.invariant-loop-rule
invariant-loop-rule l = IsAsked l.info l.initial.kept l.kept l.rule-index l.first_met

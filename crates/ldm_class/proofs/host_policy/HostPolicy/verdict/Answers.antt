use Rattle.std.proofs.Common.{◌∙◌, List, ap}
use Rattle.ldm_class.specs.Access.{verdict}
use Rattle.ldm_class.specs.HostRules.{HostRules}
use Rattle.ldm_class.specs.KeptRules.{kept_verdict}
use Rattle.ldm_class.specs.declared.host_policy.KeptRule.{KeptRule}
use Rattle.ldm_class.proofs.KeptRules.{same_verdict}
use Rattle.ldm_class.proofs.host_policy.HostPolicy.verdict.Goals as goal

pub returns-clause-answer : goal.returns-clause-answer
returns-clause-answer c =
    let info = c.args.info.now in
    c.kept_verdict.ensures.answer
    ∙ ap (λ (kept : List KeptRule). kept_verdict kept info) (c.as_mut_slice.ensures.value ∙ c.self.invariant)
    ∙ same_verdict c.self.inside.rules.now c.self.inside.host.items info
    ∙ ap (λ (policy : HostRules). verdict policy.rules policy.host info) c.self.view_is

use Rattle.ldm_serve.proofs.Knowing.{any_about}
use Rattle.ldm_serve.proofs.qstat.may_know.Goals as goal

pub returns : goal.returns
returns c = any_about c.args.client.now.rules.allow c.args.client.now.host c.no_class.result c.in_ok-rule.field-0 c.in-Nothing.rule c.no_class.ensures c.in_ok-rule.ensures c.in-Nothing.is

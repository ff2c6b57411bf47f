use Rattle.std.proofs.Common.{Option, subst}
use Rattle.ldm_status.specs.declared.status.Status.{Status}
use Rattle.ldm_node_command.specs.Statuses.{Tells}
use Rattle.ldm_node_command.proofs.statuses.report.Goals as goal

pub returns-in-Some-clause-tells : goal.returns-in-Some-clause-tells
returns-in-Some-clause-tells g c =
    let tells = g.E.Sink.tells in
    subst (λ (ending : Option Status). Tells ending c.report_because.result (tells c.args.log.now) (tells c.report_because.new.log)) c.in-Some.ensures
    c.report_because.ensures.because

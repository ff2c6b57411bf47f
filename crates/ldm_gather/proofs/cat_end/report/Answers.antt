use Rattle.std.proofs.Common.{Option, subst}
use Rattle.ldm_status.specs.declared.status.Status.{Status}
use Rattle.ldm_gather.specs.CatStatuses.{ReportsIf}
use Rattle.ldm_gather.proofs.cat_end.report.Goals as goal

pub returns-in-Some-clause-reports : goal.returns-in-Some-clause-reports
returns-in-Some-clause-reports g c =
    let tells = g.E.Sink.tells in
    subst (λ (ending : Option Status). ReportsIf ending c.report_because.result (tells c.args.log.now) (tells c.report_because.new.log)) c.in-Some.ensures
    c.report_because.ensures.because

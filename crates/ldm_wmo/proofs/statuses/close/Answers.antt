use Rattle.std.proofs.Common.{rules, subst}
use Rattle.ldm_status.specs.declared.status.Status.{Status}
use Rattle.ldm_status.specs.Status.{ReportsBecause}
use Rattle.ldm_wmo.proofs.statuses.close.Goals as goal

-- src/statuses.rt:17:1
pub returns-in-Err-Put-clause-closes : goal.returns-in-Err-Put-clause-closes
returns-in-Err-Put-clause-closes g c =
    let old = g.E.Sink.tells c.args.log.now in
    let new = g.E.Sink.tells c.report_because-in-Err-Put.new.log in
    let reports = subst (λ (it : Status). ReportsBecause it c.report_because-in-Err-Put.result old new) c.status_of_put_fault.ensures c.report_because-in-Err-Put.ensures.because in
    search rules

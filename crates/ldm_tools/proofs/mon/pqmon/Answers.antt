use Rattle.std.proofs.Common.{subst}
use Rattle.ldm_status.specs.declared.status.Status.{Status}
use Rattle.ldm_status.specs.Status.{ReportsBecause}
use Rattle.ldm_tools.proofs.mon.pqmon.Goals as goal

-- src/mon.rt:38:1
pub returns-clause-ends : goal.returns-clause-ends
returns-clause-ends g c =
    let P : Status → Type 0 = λ it. ReportsBecause it c.report_because.result (g.E.Sink.tells c.args.log.now) (g.E.Sink.tells c.report_because.new.log) in
    record {
      ending = c.monitor-ending.result;
      ends = c.monitor-ending.ensures.ends;
      reports = subst P c.status_of_mon.ensures c.report_because.ensures.because;
    }

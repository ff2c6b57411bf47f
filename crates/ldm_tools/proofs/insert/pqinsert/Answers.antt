use Rattle.std.proofs.Common.{subst}
use Rattle.ldm_status.specs.declared.status.Status.{Status}
use Rattle.ldm_status.specs.Status.{ReportsBecause}
use Rattle.ldm_tools.proofs.insert.pqinsert.Goals as goal

pub returns-clause-ends : goal.returns-clause-ends
returns-clause-ends g c =
    let tells = g.E.Sink.tells in
    record {
      ending = c.insert_files-ending.result;
      ends = c.insert_files-ending.ensures.ends;
      reports =
          subst (λ (ending : Status). ReportsBecause ending c.report_because.result (tells c.args.log.now) (tells c.report_because.new.log)) c.status_of-status.ensures
          c.report_because.ensures.because;
    }

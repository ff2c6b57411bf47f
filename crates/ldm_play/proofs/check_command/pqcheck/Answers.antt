use Rattle.std.proofs.Common.{subst}
use Rattle.ldm_status.specs.Status.{Reports}
use Rattle.ldm_status.specs.declared.status.Status.{Status}
use Rattle.ldm_play.specs.Outside.{CheckRecord, check_tells}
use Rattle.ldm_play.proofs.SavingCompletesLemmas.{check_completes}
use Rattle.ldm_play.proofs.check_command.pqcheck.Goals as goal

pub returns-clause-completes : goal.returns-clause-completes
returns-clause-completes g c =
    let old : CheckRecord = check_tells (g.K.Sink.tells c.args.sink.now) (g.E.Sink.tells c.args.log.now) (g.D.Disk.tells c.args.disk.now) in
    let new : CheckRecord = check_tells (g.K.Sink.tells c.check_file.new.sink) (g.E.Sink.tells c.report.new.log) (g.D.Disk.tells c.check_file.new.disk) in
    check_completes old new c.check_file.result c.report.result (c.check_file.ensures.ends old.log new.log) (c.check_file.ensures.comes old.log new.log)
    (subst (λ (e : Status). Reports e c.report.result old.log new.log) c.status_of_check.ensures c.report.ensures.reports)

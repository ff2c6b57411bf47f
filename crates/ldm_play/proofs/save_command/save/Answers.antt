use Rattle.std.proofs.Common.{subst}
use Rattle.ldm_status.specs.Status.{Reports}
use Rattle.ldm_status.specs.Streams.{StreamsRecord}
use Rattle.ldm_status.specs.declared.status.Status.{Status}
use Rattle.ldm_play.specs.OnBook.{beside}
use Rattle.ldm_play.specs.Outside.{OutsideRecord, outside_tells}
use Rattle.ldm_play.proofs.SavingCompletesLemmas.{save_completes}
use Rattle.ldm_play.proofs.save_command.save.Goals as goal

pub returns-clause-completes : goal.returns-clause-completes
returns-clause-completes g c =
    let streams = c.args.streams.now in
    let old : OutsideRecord = outside_tells (beside (g.E.Sink.tells streams.log) (g.S.Source.tells streams.source) (g.K.Sink.tells streams.sink)) (g.D.Disk.tells c.args.disk.now) in
    let new : OutsideRecord = outside_tells (beside (g.E.Sink.tells c.report.new.log) (g.S.Source.tells c.save_new-ending.new.source) (g.K.Sink.tells c.save_new-ending.new.sink)) (g.D.Disk.tells c.save_new-ending.new.disk) in
    save_completes (record { arena = c.args.arena; slots = c.args.slots }) old new c.save_new-ending.result c.report.result
    (c.save_new-ending.ensures.ends old.streams.log new.streams.log) (c.save_new-ending.ensures.comes old.streams.log new.streams.log)
    (subst (λ (e : Status). Reports e c.report.result old.streams.log new.streams.log) c.status_of_save.ensures c.report.ensures.reports)

pub returns-clause-law : goal.returns-clause-law
returns-clause-law g c = c.save_new-ending.ensures.law (g.E.Sink.tells c.args.streams.now.log) (g.E.Sink.tells c.report.new.log)

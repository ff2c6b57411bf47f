use Rattle.std.proofs.Common.{subst}
use Rattle.ldm_status.specs.Streams.{StreamsRecord}
use Rattle.ldm_status.specs.declared.status.Status.{Status}
use Rattle.ldm_status.specs.Status.{Reports}
use Rattle.ldm_crowd.proofs.CrowdCompletesLemmas.{crowd_completes}
use Rattle.ldm_crowd.proofs.CrowdLawLemmas.{crowd_obeys}
use Rattle.ldm_crowd.proofs.crowd_command.crowd.Goals as goal

pub returns-clause-completes : goal.returns-clause-completes
returns-clause-completes g c = λ free.
    let streams = c.args.streams.now in
    let old : StreamsRecord = record { source = g.S.Source.tells streams.source; sink = g.K.Sink.tells streams.sink; log = g.E.Sink.tells streams.log } in
    let new : StreamsRecord = record { source = g.S.Source.tells c.run_crowd-ending.new.source; sink = g.K.Sink.tells c.run_crowd-ending.new.sink; log = g.E.Sink.tells c.report.new.log } in
    crowd_completes (record { arena = c.args.arena; slots = c.args.slots; workers = c.args.workers }) old new free c.run_crowd-ending.result c.report.result (c.run_crowd-ending.ensures.ends old.log new.log)
    (subst (λ (e : Status). Reports e c.report.result old.log new.log) c.status_of.ensures c.report.ensures.reports)

pub returns-clause-law : goal.returns-clause-law
returns-clause-law g c =
    let streams = c.args.streams.now in
    let old : StreamsRecord = record { source = g.S.Source.tells streams.source; sink = g.K.Sink.tells streams.sink; log = g.E.Sink.tells streams.log } in
    let new : StreamsRecord = record { source = g.S.Source.tells c.run_crowd-ending.new.source; sink = g.K.Sink.tells c.run_crowd-ending.new.sink; log = g.E.Sink.tells c.report.new.log } in
    crowd_obeys (record { arena = c.args.arena; slots = c.args.slots; workers = c.args.workers }) c.report.result old new c.run_crowd-ending.result (c.run_crowd-ending.ensures.ends old.log new.log)
    (subst (λ (e : Status). Reports e c.report.result old.log new.log) c.status_of.ensures c.report.ensures.reports)

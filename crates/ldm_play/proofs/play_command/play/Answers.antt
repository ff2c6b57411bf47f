use Rattle.std.proofs.Common.{◌≡◌, subst}
use Rattle.ldm_status.specs.Streams.{StreamsRecord}
use Rattle.ldm_status.specs.declared.status.Status.{Status}
use Rattle.ldm_status.specs.Status.{Reports}
use Rattle.ldm_play.proofs.CompletesLemmas.{completes}
use Rattle.ldm_play.proofs.HandedOnLemmas.{hands_on}
use Rattle.ldm_play.proofs.LawLemmas.{obeys}
use Rattle.ldm_play.proofs.play_command.play.Goals as goal

pub returns-clause-completes : goal.returns-clause-completes
returns-clause-completes g c = λ free.
    let streams = c.args.streams.now in
    let old : StreamsRecord = record { source = g.S.Source.tells streams.source; sink = g.K.Sink.tells streams.sink; log = g.E.Sink.tells streams.log } in
    let new : StreamsRecord = record { source = g.S.Source.tells c.play_new-ending.new.source; sink = g.K.Sink.tells c.play_new-ending.new.sink; log = g.E.Sink.tells c.report.new.log } in
    completes (record { arena = c.args.arena; slots = c.args.slots }) old new free c.play_new-ending.result c.report.result (c.play_new-ending.ensures.ends old.log new.log)
    (subst (λ (e : Status). Reports e c.report.result old.log new.log) c.status_of.ensures c.report.ensures.reports)

pub returns-clause-law : goal.returns-clause-law
returns-clause-law g c =
    let streams = c.args.streams.now in
    let old : StreamsRecord = record { source = g.S.Source.tells streams.source; sink = g.K.Sink.tells streams.sink; log = g.E.Sink.tells streams.log } in
    let new : StreamsRecord = record { source = g.S.Source.tells c.play_new-ending.new.source; sink = g.K.Sink.tells c.play_new-ending.new.sink; log = g.E.Sink.tells c.report.new.log } in
    obeys c.histories_are_lawful.ensures (record { arena = c.args.arena; slots = c.args.slots }) old new c.play_new-ending.result (c.play_new-ending.ensures.ends old.log new.log)

pub returns-clause-handed_on : goal.returns-clause-handed_on
returns-clause-handed_on g c =
    let streams = c.args.streams.now in
    let old : StreamsRecord = record { source = g.S.Source.tells streams.source; sink = g.K.Sink.tells streams.sink; log = g.E.Sink.tells streams.log } in
    let new : StreamsRecord = record { source = g.S.Source.tells c.play_new-ending.new.source; sink = g.K.Sink.tells c.play_new-ending.new.sink; log = g.E.Sink.tells c.report.new.log } in
    hands_on c.play_new-ending.result (record { arena = c.args.arena; slots = c.args.slots }) c.report.result old new (g.K.Sink.is_handed_on c.play_new-ending.new.sink)
    (c.play_new-ending.new.sink ≡ streams.sink) (c.play_new-ending.ensures.ends old.log new.log)
    (subst (λ (e : Status). Reports e c.report.result old.log new.log) c.status_of.ensures c.report.ensures.reports) c.play_new-ending.ensures.handed_on

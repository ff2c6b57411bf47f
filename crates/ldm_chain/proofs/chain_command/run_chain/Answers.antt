use Rattle.std.proofs.Common.{subst}
use Rattle.ldm_status.specs.declared.status.Status.{Status}
use Rattle.ldm_status.specs.Status.{Reports}
use Rattle.ldm_chain.specs.Work.{chain_outside, work_of}
use Rattle.ldm_chain.proofs.ChainCompletesLemmas.{chain-completes}
use Rattle.ldm_chain.proofs.ChainLawLemmas.{chain-obeys}
use Rattle.ldm_chain.proofs.chain_command.run_chain.Goals as goal

pub returns-clause-ends : goal.returns-clause-ends
returns-clause-ends g c =
    let streams = c.args.streams.now in
    let ran = c.feed_and_write-ending in
    let before = g.E.Sink.tells streams.log in
    let behind = g.E.Sink.tells c.report.new.log in
    (ran.result, ran.ensures.ends before behind, subst (λ (e : Status). Reports e c.report.result before behind) c.status_of.ensures c.report.ensures.reports)

pub returns-clause-completes : goal.returns-clause-completes
returns-clause-completes g c = λ free.
    let streams = c.args.streams.now in
    let ran = c.feed_and_write-ending in
    let old = chain_outside (record { source = g.S.Source.tells streams.source; sink = g.K.Sink.tells streams.sink; log = g.E.Sink.tells streams.log })
    (g.C.Clock.tells c.args.clock.now) (g.F.Store.tells c.args.store.now) in
    let new = chain_outside (record { source = g.S.Source.tells ran.new.source; sink = g.K.Sink.tells ran.new.sink; log = g.E.Sink.tells c.report.new.log })
    (g.C.Clock.tells ran.new.clock) (g.F.Store.tells ran.new.store) in
    chain-completes (work_of c.args.setup) old new free ran.result c.report.result (ran.ensures.ends old.streams.log new.streams.log) ran.ensures.conf
    (subst (λ (e : Status). Reports e c.report.result old.streams.log new.streams.log) c.status_of.ensures c.report.ensures.reports)

pub returns-clause-law : goal.returns-clause-law
returns-clause-law g c =
    let streams = c.args.streams.now in
    let ran = c.feed_and_write-ending in
    let old = chain_outside (record { source = g.S.Source.tells streams.source; sink = g.K.Sink.tells streams.sink; log = g.E.Sink.tells streams.log })
    (g.C.Clock.tells c.args.clock.now) (g.F.Store.tells c.args.store.now) in
    let new = chain_outside (record { source = g.S.Source.tells ran.new.source; sink = g.K.Sink.tells ran.new.sink; log = g.E.Sink.tells c.report.new.log })
    (g.C.Clock.tells ran.new.clock) (g.F.Store.tells ran.new.store) in
    chain-obeys c.histories_are_lawful.ensures (work_of c.args.setup) c.report.result old new ran.result (ran.ensures.ends old.streams.log new.streams.log)
    (subst (λ (e : Status). Reports e c.report.result old.streams.log new.streams.log) c.status_of.ensures c.report.ensures.reports)

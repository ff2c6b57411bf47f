use Rattle.ldm_wmo.specs.Ingesting.{ingesting}
use Rattle.ldm_wmo.specs.Moments.{outside_tells, streams_tell}
use Rattle.ldm_wmo.proofs.Held.{ingest_ends}
use Rattle.ldm_wmo.proofs.command.ingest_stream.Goals as goal

pub returns-in-Linked-clause-ends : goal.returns-in-Linked-clause-ends
returns-in-Linked-clause-ends g c =
    let net = g.N.Dial.tells in
    let old = outside_tells net g.C.Clock.tells (streams_tell g.S.Source.tells g.K.Sink.tells g.E.Sink.tells c.args.source.now c.args.sink.now c.args.log.now) c.args.net.now c.args.clock.now in
    let new = outside_tells net g.C.Clock.tells (streams_tell g.S.Source.tells g.K.Sink.tells g.E.Sink.tells c.hold.new.source c.hold.new.sink c.hold.new.log) c.hold.new.net c.hold.new.clock in
    ingest_ends c.hold.result (ingesting c.args.ingestion.now) (g.N.Link.Link.tells c.in-Linked.link) (net c.connect.new.self) old new c.in-Linked.ensures.dialled c.hold.ensures.holds

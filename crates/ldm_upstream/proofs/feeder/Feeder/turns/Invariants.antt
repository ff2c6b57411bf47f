use Rattle.ldm_sender.specs.Acts.{situation_of}
use Rattle.ldm_sender.specs.Does.{moment_of}
use Rattle.ldm_upstream.proofs.Coursing.{KeepsCourse}
use Rattle.ldm_upstream.proofs.feeder.Feeder.turns.Given as goal

abbrev pub invariant-loop : goal.invariant-loop
invariant-loop g l =
    let began = l.initial in
    KeepsCourse began.self l.self
    (situation_of (moment_of began.pass (g.K.Link.tells began.link) (g.C.Clock.tells began.clock) began.self.out.items)
    (g.E.Sink.tells began.log) (g.G.Gate.tells began.gate))
    (situation_of (moment_of l.pass (g.K.Link.tells l.link) (g.C.Clock.tells l.clock) l.self.out.items)
    (g.E.Sink.tells l.log) (g.G.Gate.tells l.gate))

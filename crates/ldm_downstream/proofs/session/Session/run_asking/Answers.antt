use Rattle.std.proofs.Common.{[], refl}
use Rattle.ldm_outside.specs.Session.{ungated_tells}
use Rattle.ldm_downstream.specs.Pieces.{beginning}
use Rattle.ldm_downstream.specs.Receives.{at_first}
use Rattle.ldm_downstream.proofs.SessionTurns.{kept-by}
use Rattle.ldm_downstream.proofs.session.Session.run_asking.Goals as goal

pub returns-in-Some-clause-runs_out : goal.returns-in-Some-clause-runs_out
returns-in-Some-clause-runs_out g c = c.in-Some.ensures.rounds (g.C.Clock.tells c.args.clock.now)

pub run-requires-clause-live : goal.run-requires-clause-live
run-requires-clause-live g c = (c.in-None.ensures.rounds (g.C.Clock.tells c.args.clock.now)).live

pub returns-in-None-clause-runs_out : goal.returns-in-None-clause-runs_out
returns-in-None-clause-runs_out g c =
    let old = ungated_tells g.K.Link.tells g.E.Sink.tells g.C.Clock.tells c.args.link.now c.args.log.now c.args.clock.now in
    let mid = ungated_tells g.K.Link.tells g.E.Sink.tells g.C.Clock.tells c.ask.new.link c.ask.new.log c.args.clock.now in
    c.run.ensures.runs_out [] beginning (at_first c.args.self.now.taker.receiver.receiving c.args.pass.now) old
    (c.in-None.ensures.rounds (g.C.Clock.tells c.args.clock.now))
    (kept-by old mid c.in-None.ensures.faults_kept.0 c.in-None.ensures.ends_kept c.in-None.ensures.faults_kept.1 refl)

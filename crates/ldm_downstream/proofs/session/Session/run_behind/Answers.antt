use Rattle.std.proofs.Common.{refl}
use Rattle.ldm_outside.specs.Session.{ungated_tells}
use Rattle.ldm_downstream.specs.Sessions.{settled}
use Rattle.ldm_downstream.proofs.SessionTurns.{kept-by, kept-then}
use Rattle.ldm_downstream.proofs.session.Session.run_behind.Goals as goal

pub returns-in-Some-clause-runs_out : goal.returns-in-Some-clause-runs_out
returns-in-Some-clause-runs_out g c = λ ahead begins come kept. c.in-Some.ensures.takes ahead begins (g.C.Clock.tells c.args.clock.now) come

pub returns-in-None-clause-runs_out : goal.returns-in-None-clause-runs_out
returns-in-None-clause-runs_out g c = λ ahead begins come kept.
    let receiver = c.args.self.now.taker.receiver in
    let old = ungated_tells g.K.Link.tells g.E.Sink.tells g.C.Clock.tells c.args.link.now c.args.log.now c.args.clock.now in
    let mid = ungated_tells g.K.Link.tells g.E.Sink.tells g.C.Clock.tells c.take.new.link c.take.new.log c.args.clock.now in
    c.run.ensures.runs_out ahead receiver.hand (settled receiver.receiving c.args.pass.now) begins
    (c.in-None.ensures.takes ahead begins (g.C.Clock.tells c.args.clock.now) come)
    (kept-then begins old mid kept (kept-by old mid c.in-None.ensures.faults_kept.0 c.in-None.ensures.ends_kept c.in-None.ensures.faults_kept.1 refl))

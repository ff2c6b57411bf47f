use Rattle.std.proofs.Common.{refl}
use Rattle.ldm_downstream.specs.Sessions.{outside_of}
use Rattle.ldm_downstream.proofs.SessionTurns.{run-failed, run-sent}
use Rattle.ldm_downstream.proofs.taker.Taker.ask.Goals as goal

pub returns-in-Some-clause-rounds : goal.returns-in-Some-clause-rounds
returns-in-Some-clause-rounds g c = λ clock.
    let old = outside_of (g.K.Link.tells c.args.link.now) (g.E.Sink.tells c.args.log.now) clock in
    let new = outside_of (g.K.Link.tells c.write.new.link) (g.E.Sink.tells c.write.new.log) clock in
    let self = c.args.self.now in
    run-failed c.in-Some.fault c.fail.result self.receiver c.write.new.self.receiver c.fail.new.self c.args.pass.now c.fail.new.pass self.out.items self.notes.items old new
    c.write.ensures.same c.requires.begins.0 c.requires.begins.1 c.requires.owed c.requires.no_notes c.in-Some.ensures.writes refl c.fail.ensures.goes_on c.fail.ensures.fails

pub returns-in-None-clause-rounds : goal.returns-in-None-clause-rounds
returns-in-None-clause-rounds g c = λ clock.
    let old = outside_of (g.K.Link.tells c.args.link.now) (g.E.Sink.tells c.args.log.now) clock in
    let new = outside_of (g.K.Link.tells c.write.new.link) (g.E.Sink.tells c.write.new.log) clock in
    let self = c.args.self.now in
    run-sent self.receiver c.write.new.self.receiver c.args.pass.now self.out.items self.notes.items old new
    c.write.ensures.same c.requires.begins.0 c.requires.begins.1 c.requires.owed c.requires.no_notes c.in-None.ensures.writes refl

use Rattle.std.proofs.Common.{refl}
use Rattle.ldm_downstream.specs.Sessions.{outside_of}
use Rattle.ldm_downstream.proofs.SessionTurns.{take-failed, take-written}
use Rattle.ldm_downstream.proofs.taker.Taker.take.Goals as goal

pub returns-in-Some-clause-takes : goal.returns-in-Some-clause-takes
returns-in-Some-clause-takes g c = λ ahead begins clock come.
    let self = c.args.self.now in
    let before = outside_of (g.K.Link.tells c.args.link.now) (g.E.Sink.tells c.args.log.now) clock in
    let later = outside_of (g.K.Link.tells c.write.new.link) (g.E.Sink.tells c.write.new.log) clock in
    take-failed c.args.now c.args.piece.now self.receiver c.push.new.self c.write.new.self.receiver
    c.args.pass.now c.push.new.pass self.out.items self.notes.items c.push.new.out.items c.push.new.notes.items ahead begins before later
    c.requires.live c.requires.ready.no_out c.requires.ready.no_notes c.push.ensures.pushes
    c.write.ensures.same come refl c.in-Some.fault c.fail.result c.fail.new.self c.fail.new.pass c.in-Some.ensures.writes c.fail.ensures.fails

pub returns-in-None-clause-takes : goal.returns-in-None-clause-takes
returns-in-None-clause-takes g c = λ ahead begins clock come.
    let self = c.args.self.now in
    let before = outside_of (g.K.Link.tells c.args.link.now) (g.E.Sink.tells c.args.log.now) clock in
    let later = outside_of (g.K.Link.tells c.write.new.link) (g.E.Sink.tells c.write.new.log) clock in
    take-written c.args.now c.args.piece.now self.receiver c.push.new.self c.write.new.self.receiver
    c.args.pass.now c.push.new.pass self.out.items self.notes.items c.push.new.out.items c.push.new.notes.items ahead begins before later
    c.requires.live c.requires.ready.no_out c.requires.ready.no_notes c.push.ensures.pushes
    c.write.ensures.same come refl c.over.result c.over.ensures c.in-None.ensures.writes

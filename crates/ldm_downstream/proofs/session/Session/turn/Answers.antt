use Rattle.std.proofs.Common.{refl, subst}
use Rattle.ldm_outside.specs.declared.io.Got.{Got}
use Rattle.ldm_outside.specs.Session.{ungated_tells}
use Rattle.ldm_downstream.specs.Filling.{Fills}
use Rattle.ldm_downstream.proofs.Filled.{filled-ended, filled-failed, turn-filled}
use Rattle.ldm_downstream.proofs.session.Session.turn.Goals as goal

pub returns-in-Bytes-clause-rounds : goal.returns-in-Bytes-clause-rounds
returns-in-Bytes-clause-rounds g c =
    let old = ungated_tells g.K.Link.tells g.E.Sink.tells g.C.Clock.tells c.args.link.now c.args.log.now c.args.clock.now in
    let new = ungated_tells g.K.Link.tells g.E.Sink.tells g.C.Clock.tells c.fill.new.link c.args.log.now c.now-moment.new.self in
    let receiver = c.args.self.now.taker.receiver in
    let is_now = c.fill.new.self in
    let came = subst (λ (got : Got). Fills got receiver.hand is_now.hand old.link new.link) c.in-Bytes.is c.in-Some.ensures.fills in
    turn-filled c.in-Bytes.field-0 c.now-moment.result receiver is_now c.args.pass.now old new came c.fill.ensures.same c.requires.live refl c.now-moment.ensures

pub returns-in-End-clause-rounds : goal.returns-in-End-clause-rounds
returns-in-End-clause-rounds g c =
    let old = ungated_tells g.K.Link.tells g.E.Sink.tells g.C.Clock.tells c.args.link.now c.args.log.now c.args.clock.now in
    let new = ungated_tells g.K.Link.tells g.E.Sink.tells g.C.Clock.tells c.fill.new.link c.args.log.now c.args.clock.now in
    let receiver = c.args.self.now.taker.receiver in
    let was = c.fill.new.self in
    let came = subst (λ (got : Got). Fills got receiver.hand was.hand old.link new.link) c.in-End.is c.in-Some.ensures.fills in
    filled-ended receiver was c.close.new.self c.close.result c.args.pass.now c.close.new.pass old new c.fill.ensures.same
    c.requires.live c.close.ensures.goes_on refl refl came c.close.ensures.finishes

pub returns-in-Failed-clause-rounds : goal.returns-in-Failed-clause-rounds
returns-in-Failed-clause-rounds g c =
    let old = ungated_tells g.K.Link.tells g.E.Sink.tells g.C.Clock.tells c.args.link.now c.args.log.now c.args.clock.now in
    let new = ungated_tells g.K.Link.tells g.E.Sink.tells g.C.Clock.tells c.fill.new.link c.args.log.now c.args.clock.now in
    let receiver = c.args.self.now.taker.receiver in
    let was = c.fill.new.self in
    let came = subst (λ (got : Got). Fills got receiver.hand was.hand old.link new.link) c.in-Failed.is c.in-Some.ensures.fills in
    filled-failed receiver was c.fail.new.self c.fail.result c.args.pass.now c.fail.new.pass old new c.fill.ensures.same
    c.requires.live c.fail.ensures.goes_on refl refl came c.fail.ensures.fails

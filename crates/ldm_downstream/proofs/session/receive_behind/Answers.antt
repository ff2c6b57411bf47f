use Rattle.std.proofs.Common.{refl}
use Rattle.ldm_outside.specs.Session.{ungated_tells}
use Rattle.ldm_downstream.proofs.AllReceived.{none-behind, pushed-received}
use Rattle.ldm_downstream.proofs.SessionTurns.{all-ahead, kept-none}
use Rattle.ldm_downstream.proofs.session.receive_behind.Goals as goal

pub returns-in-Ok-clause-receives : goal.returns-in-Ok-clause-receives
returns-in-Ok-clause-receives g c =
    let old = ungated_tells g.K.Link.tells g.E.Sink.tells g.C.Clock.tells c.args.link.now c.args.log.now c.args.clock.now in
    let mid = ungated_tells g.K.Link.tells g.E.Sink.tells g.C.Clock.tells c.args.link.now c.args.log.now c.now-now.new.self in
    let ahead = c.args.ahead.now in
    pushed-received _ _ c.in-Ok.session.taker.receiver c.run_behind-end.new.self.taker.receiver c.args.class.now c.args.policy.now c.args.host.now ahead _ _ _ _
    c.in-Ok.ensures.receiver c.last.ensures
    (c.run_behind-end.ensures.runs_out ahead old (all-ahead ahead c.now-now.result old mid refl refl c.now-now.ensures) (kept-none old mid refl refl refl))

pub returns-in-Err-clause-receives : goal.returns-in-Err-clause-receives
returns-in-Err-clause-receives g c =
    let old = ungated_tells g.K.Link.tells g.E.Sink.tells g.C.Clock.tells c.args.link.now c.args.log.now c.args.clock.now in
    let mid = ungated_tells g.K.Link.tells g.E.Sink.tells g.C.Clock.tells c.args.link.now c.args.log.now c.now-now.new.self in
    let ahead = c.args.ahead.now in
    none-behind c.args.class.now c.args.policy.now c.args.host.now ahead (record { now = c.now-now.result; bytes = ahead }) c.args.pass.now old mid
    (all-ahead ahead c.now-now.result old mid refl refl c.now-now.ensures)

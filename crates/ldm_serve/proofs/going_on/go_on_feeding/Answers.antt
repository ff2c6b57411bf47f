use Rattle.ldm_outside.specs.Session.{session_tells}
use Rattle.ldm_serve.specs.Connection.{moment_of}
use Rattle.ldm_serve.specs.Client.{Client}
use Rattle.ldm_serve.specs.ClientView.{client_by}
use Rattle.ldm_serve.proofs.Narrowing.{feeding-narrows}
use Rattle.ldm_serve.proofs.going_on.go_on_feeding.Goals as goal

pub returns-in-Reclassed-clause-goes : goal.returns-in-Reclassed-clause-goes
returns-in-Reclassed-clause-goes g c at =
    let client : Client = client_by c.args.client.now c.args.pass.now.actor in
    let tells = session_tells g.K.Link.tells g.E.Sink.tells g.C.Clock.tells g.G.Gate.tells in
    let old = moment_of c.args.pass.now (tells c.args.link.now c.args.log.now c.args.clock.now c.args.gate.now) in
    let new = moment_of c.feed_behind.new.pass (tells c.feed_behind.new.link c.feed_behind.new.log c.feed_behind.new.clock c.feed_behind.new.gate) in
    feeding-narrows client c.args.ask.now c.args.ahead.now old new (rw (c.host.ensures, c.policy.ensures) at c.in-Reclassed.ensures.fed)

pub returns-in_default-clause-goes : goal.returns-in_default-clause-goes
returns-in_default-clause-goes g c at = (rw (c.host.ensures, c.policy.ensures) at c.feed_behind.ensures.fed, c.in_default.not-Reclassed)

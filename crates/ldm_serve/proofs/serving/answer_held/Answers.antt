use Rattle.std.proofs.Common.{refl}
use Rattle.ldm_serve.specs.Client.{Client}
use Rattle.ldm_serve.specs.ClientView.{client_by}
use Rattle.ldm_serve.specs.Responds.{stands}
use Rattle.ldm_serve.proofs.Contents.{none-found, some-found}
use Rattle.ldm_serve.proofs.serving.answer_held.Goals as goal

pub returns-in-Some-clause-finds : goal.returns-in-Some-clause-finds
returns-in-Some-clause-finds g c = λ at content of.
    let client : Client = client_by c.args.client.now c.args.pass.now.actor in
    let old = stands c.args.pass.now (g.C.Clock.tells c.args.clock.now) c.args.out.now.items in
    let new = stands c.answer.new.pass (g.C.Clock.tells c.answer.new.clock) c.answer.new.out.items in
    some-found client at c.args.held c.in-Some.held content old new c.answer.result c.answer.new.next refl c.in-Some.is of c.answer.ensures.responds

pub returns-in-None-clause-finds : goal.returns-in-None-clause-finds
returns-in-None-clause-finds g c = λ at content of.
    let client : Client = client_by c.args.client.now c.args.pass.now.actor in
    none-found client at c.args.held content (stands c.args.pass.now (g.C.Clock.tells c.args.clock.now) c.args.out.now.items) tt c.args.next.now refl c.requires.going c.in-None.is of

use Rattle.std.proofs.Common.{Some, refl, arith}
use Rattle.ldm_rpc.specs.Streams.{Position}
use Rattle.ldm_serve.specs.Client.{Client}
use Rattle.ldm_serve.specs.ClientView.{client_by}
use Rattle.ldm_serve.specs.Responds.{stands}
use Rattle.ldm_serve.proofs.Contents.{front-of_all}
use Rattle.ldm_serve.proofs.First.{first-found, going-turned, reads-in_place}
use Rattle.ldm_serve.proofs.serving.Serving.answer_first.Goals as goal

pub overflow_cast-held : goal.overflow_cast-held
overflow_cast-held g c = let short = c.in-Some.ensures.begins.fits.last in omega (arith, short)

pub returns-clause-turns : goal.returns-clause-turns
returns-clause-turns g c =
    let inside = c.self.inside in
    let p : Position = record { reading = inside.records; begins = inside.begins; came = inside.came } in
    let client : Client = client_by c.args.client.now c.args.pass.now.actor in
    let old = stands c.args.pass.now (g.C.Clock.tells c.args.clock.now) c.args.out.now.items in
    let new = stands c.answer_held-answered.new.pass (g.C.Clock.tells c.answer_held-answered.new.clock) c.answer_held-answered.new.out.items in
    let content = c.in-Some.found.content.now in
    let n = c.in-Some.found.taken in
    let said = c.in-Some.ensures in
    rw (← c.self.view_is, c.turned.ensures, c.stop_of-stop.ensures)
    (first-found client c.answer_held-answered.new.next p c.args.bytes.now n _
    (reads-in_place p c.args.bytes.now content n (record { whole = said.content; count = said.taken.0; most = said.taken.1; some = said.taken.2; stays = said.stays }))
    old new (Some content) said.content _ (c.answer_held-answered.ensures.finds p.begins (Some content) (front-of_all _ content refl refl)))

pub returns-clause-going : goal.returns-clause-going
returns-clause-going g c =
    rw (c.turned.ensures, c.stop_of-stop.ensures) (going-turned c.in-Some.found.taken c.answer_held-answered.result c.answer_held-answered.new.next c.self.inside.begins)

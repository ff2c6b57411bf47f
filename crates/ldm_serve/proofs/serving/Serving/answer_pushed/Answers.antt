use Rattle.std.proofs.Common.{ap, subst, sym}
use Rattle.ldm_rpc.specs.Reading.{whole_of}
use Rattle.ldm_rpc.specs.Streams.{Position}
use Rattle.ldm_serve.specs.Client.{Client}
use Rattle.ldm_serve.specs.ClientView.{ClientView, client_by}
use Rattle.ldm_serve.specs.Contents.{Finds, stop_of}
use Rattle.ldm_serve.specs.Responds.{stands}
use Rattle.ldm_serve.proofs.First.{first-found, going-turned, hand-pushed, reads-pushed}
use Rattle.ldm_serve.proofs.serving.Serving.answer_pushed.Goals as goal

pub returns-clause-turns : goal.returns-clause-turns
returns-clause-turns g c =
    let inside = c.self.inside in
    let p : Position = record { reading = inside.records; begins = inside.begins; came = inside.came } in
    let client : Client = client_by c.args.client.now c.args.pass.now.actor in
    let old = stands c.args.pass.now (g.C.Clock.tells c.args.clock.now) c.args.out.now.items in
    let new = stands c.answer_held-answered.new.pass (g.C.Clock.tells c.answer_held-answered.new.clock) c.answer_held-answered.new.out.items in
    let n = c.in-Ok.count in
    let said = c.in-Ok.ensures in
    let r = c.push.new.self in
    rw (← c.self.view_is, c.turned.ensures, c.stop_of.ensures)
    (first-found client c.answer_held-answered.new.next p c.args.bytes.now n _
    (reads-pushed p c.args.bytes.now n r _ said.after.0 said.after.1 said.taken.0 said.taken.1 said.moves
    (hand-pushed p n r c.whole-held.result c.is_some-is_whole.result _ _ c.whole-held.ensures c.is_some-is_whole.ensures c.next.ensures.after c.begins_behind-self-inside.ensures))
    old new (whole_of r) (sym (ap whole_of said.after.0)) _
    (subst (λ (view : ClientView). Finds (stop_of c.answer_held-answered.result c.answer_held-answered.new.next p.begins) c.answer_held-answered.new.next (client_by view c.args.pass.now.actor) p.begins (whole_of r) old new)
    said.same (c.answer_held-answered.ensures.finds p.begins (whole_of r) c.whole-held.ensures)))

pub returns-clause-going : goal.returns-clause-going
returns-clause-going g c =
    rw (c.turned.ensures, c.stop_of.ensures) (going-turned c.in-Ok.count c.answer_held-answered.result c.answer_held-answered.new.next c.self.inside.begins)

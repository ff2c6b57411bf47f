use Rattle.std.proofs.Common.{sym, ap, subst}
use Rattle.ldm_relay.specs.Reading.{call_of}
use Rattle.ldm_serve.specs.declared.responded.Responded.{Responded}
use Rattle.ldm_serve.specs.declared.responded.Responded.TheVariants.{GoesOn}
use Rattle.ldm_serve.specs.Client.{Client}
use Rattle.ldm_serve.specs.ClientView.{client_by}
use Rattle.ldm_serve.specs.InParts.{with_next}
use Rattle.ldm_serve.specs.Respond.{to_short}
use Rattle.ldm_serve.specs.Response.{Response}
use Rattle.ldm_serve.specs.Responds.{Responds, stands}
use Rattle.ldm_serve.proofs.responding.answer_short.Goals as goal

pub returns-in-Some-clause-responds : goal.returns-in-Some-clause-responds
returns-in-Some-clause-responds g c =
    let client : Client = client_by c.args.client.now c.args.pass.now.actor in
    let content = c.args.content.now in
    let old = stands c.args.pass.now (g.C.Clock.tells c.args.clock.now) c.args.out.now.items in
    let new = stands c.put.new.pass (g.C.Clock.tells c.put.new.clock) c.put.new.out.items in
    subst (λ (next : Responded). Responds (with_next c.put.result next) (to_short client content (call_of content)) old new) (sym c.requires.going)
    (subst (λ (r : Response). Responds (with_next c.put.result GoesOn) r old new) (sym (ap (to_short client content) c.in-Some.ensures.read)) c.put.ensures.responds)

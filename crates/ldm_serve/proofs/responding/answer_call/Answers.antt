use Rattle.std.proofs.Common.{◌≡◌, ◌∙◌, Result, ap, sym, subst}
use Rattle.ldm_relay.specs.Reading.{call_of}
use Rattle.ldm_serve.specs.declared.responded.Responded.{Responded}
use Rattle.ldm_serve.specs.declared.responded.RespondFault.{RespondFault}
use Rattle.ldm_serve.specs.Client.{Client}
use Rattle.ldm_serve.specs.ClientView.{client_by}
use Rattle.ldm_serve.specs.Respond.{to_short, to_unread}
use Rattle.ldm_serve.specs.Response.{Response}
use Rattle.ldm_serve.specs.Responds.{Responds, stands}
use Rattle.ldm_serve.proofs.Fronts.{short_read, short_unread}
use Rattle.ldm_serve.proofs.responding.answer_call.Goals as goal

pub returns-in-Unread-clause-responds : goal.returns-in-Unread-clause-responds
returns-in-Unread-clause-responds g c =
    let client : Client = client_by c.args.client.now c.args.pass.now.actor in
    let content = c.args.content.now in
    let clock = g.C.Clock.tells c.args.clock.now in
    let old = stands c.args.pass.now clock c.args.out.now.items in
    let new = stands c.args.pass.now clock c.answer_unread.new.out.items in
    let fault = c.in-Unread.fault in
    let is : to_short client content (call_of content) ≡ to_unread client fault c.read_call_front-front.result =
    short_unread client content (call_of content) c.read_asked.result fault c.read_asked.ensures.unread c.in-Unread.is
    ∙ ap (to_unread client fault) (sym c.read_call_front-front.ensures) in
    subst (λ (r : Result Responded RespondFault). Responds r (to_short client content (call_of content)) old new) (sym c.write_next.ensures)
    (subst (λ (r : Response). Responds c.answer_unread.result r old new) (sym is) (c.answer_unread.ensures.responds c.args.pass.now clock))

pub returns-in_default-clause-responds : goal.returns-in_default-clause-responds
returns-in_default-clause-responds g c =
    let client : Client = client_by c.args.client.now c.args.pass.now.actor in
    let content = c.args.content.now in
    let old = stands c.args.pass.now (g.C.Clock.tells c.args.clock.now) c.args.out.now.items in
    let new = stands c.answer_asked-responded.new.pass (g.C.Clock.tells c.answer_asked-responded.new.clock) c.answer_asked-responded.new.out.items in
    let is = short_read client content (call_of content) c.read_asked.result c.read_asked.ensures.unread c.in_default.not-Unread
    (c.read_asked.ensures.asked client.rules client.host) in
    subst (λ (r : Result Responded RespondFault). Responds r (to_short client content (call_of content)) old new) (sym c.write_next-in_default.ensures)
    (subst (λ (r : Response). Responds c.answer_asked-responded.result r old new) (sym is) c.answer_asked-responded.ensures.responds)

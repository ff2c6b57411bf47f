use Rattle.std.proofs.Common.{◌∙◌, sym, subst, Some, None}
use Rattle.ldm_serve.specs.Client.{Client}
use Rattle.ldm_serve.specs.ClientView.{client_by}
use Rattle.ldm_serve.specs.Response.{Response}
use Rattle.ldm_serve.specs.Responds.{Responds, stands}
use Rattle.ldm_serve.proofs.Fronts.{unread_put}
use Rattle.ldm_serve.proofs.responding.answer_unread.Goals as goal

pub returns-in-Some-clause-responds : goal.returns-in-Some-clause-responds
returns-in-Some-clause-responds c = λ pass clock.
    let client : Client = client_by c.args.client.now pass.actor in
    subst (λ (r : Response). Responds c.answer_unread_put.result r (stands pass clock c.args.out.now.items) (stands pass clock c.answer_unread_put.new.out.items))
    (sym (unread_put client c.args.fault c.args.front c.in-Put.xid c.in-Put.info (Some c.in-Some.answer) c.in-Put.is
    (sym c.in-Some.is ∙ c.in_ok-answer-in-Put.ensures.answer pass.actor))) (c.answer_unread_put.ensures pass clock)

pub returns-in-None-clause-responds : goal.returns-in-None-clause-responds
returns-in-None-clause-responds c = λ pass clock.
    let client : Client = client_by c.args.client.now pass.actor in
    subst (λ (r : Response). Responds c.refuse.result r (stands pass clock c.args.out.now.items) (stands pass clock c.refuse.new.out.items))
    (sym (unread_put client c.args.fault c.args.front c.in-Put.xid c.in-Put.info None c.in-Put.is
    (sym c.in-None.is ∙ c.in_ok-answer-in-Put.ensures.answer pass.actor))) (c.refuse.ensures pass clock)

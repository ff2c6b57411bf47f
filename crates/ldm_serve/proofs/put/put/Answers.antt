use Rattle.std.proofs.Common.{List, ℕ, [], ◌∷◌, ◌++◌, refl, sym, ap, ◌∙◌}
use Rattle.ldm_relay.specs.Sent as sent
use Rattle.ldm_relay.specs.declared.message.PutAnswer.TheVariants as put_answer
use Rattle.ldm_relay.specs.Spelling.{records_of}
use Rattle.ldm_serve.specs.declared.responded.Responded.TheVariants as responded
use Rattle.ldm_serve.specs.Access.{may_push}
use Rattle.ldm_serve.specs.Respond.{to_put}
use Rattle.ldm_serve.specs.Response.{Says, Puts}
use Rattle.ldm_serve.proofs.Giving.{given_at_once, not_chosen}
use Rattle.ldm_serve.proofs.put.put.Goals as goal

pub returns-clause-responds : goal.returns-clause-responds
returns-clause-responds g c =
    let rules = c.args.client.now.rules in
    let host = c.args.client.now.host in
    let m = c.args.product.now in
    let said = sent.PutReply m.xid put_answer.Denied ∷ [] in
    given_at_once c.args.pass.now (g.C.Clock.tells c.args.clock.now) (to_put rules host m.xid m.info m.body.now) (Says said) responded.GoesOn said
    c.args.out.now.items c.put_answer.new.out.items
    (not_chosen (may_push rules host m.info) (Puts m.xid m.info m.body.now) (Says said)
    (sym c.in_ok-may_push.ensures.may ∙ c.if-branch.false)) refl refl refl
    (c.put_answer.ensures ∙ ap (λ (w : List ℕ). w ++ records_of said) c.answer_room.ensures.same)

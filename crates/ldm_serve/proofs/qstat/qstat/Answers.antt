use Rattle.std.proofs.Common.{List, ℕ, [], ◌∷◌, ◌++◌, None, refl, sym, ap, ◌∙◌}
use Rattle.ldm_relay.specs.Sent as sent
use Rattle.ldm_relay.specs.Spelling.{records_of}
use Rattle.ldm_serve.specs.declared.responded.Responded.TheVariants as responded
use Rattle.ldm_serve.specs.Access.{may_know}
use Rattle.ldm_serve.specs.Respond.{to_qstat}
use Rattle.ldm_serve.specs.Response.{Says, Figures}
use Rattle.ldm_serve.proofs.Giving.{given_at_once, not_chosen}
use Rattle.ldm_serve.proofs.qstat.qstat.Goals as goal

pub returns : goal.returns
returns g c = λ clock.
    let rules = c.args.client.now.rules in
    let host = c.args.client.now.host in
    let xid = c.args.xid in
    let said = sent.QstatReply xid None ∷ [] in
    given_at_once c.args.pass.now clock (to_qstat rules host xid) (Says said) responded.GoesOn said c.args.out.now.items c.put_stat.new.out.items
    (not_chosen (may_know rules host) (Figures xid) (Says said) (sym c.in_ok-may_know.ensures ∙ c.if-branch.false)) refl refl refl
    (c.put_stat.ensures ∙ ap (λ (w : List ℕ). w ++ records_of said) c.answer_room.ensures.same)

use Rattle.std.proofs.Common.{[], Result, refl, sym, subst, append-nil}
use Rattle.ldm_relay.specs.Reading.{call_of}
use Rattle.ldm_serve.specs.declared.responded.Responded.{Responded}
use Rattle.ldm_serve.specs.declared.responded.Responded.TheVariants as responded
use Rattle.ldm_serve.specs.declared.responded.RespondFault.{RespondFault}
use Rattle.ldm_serve.specs.Respond.{to_cut}
use Rattle.ldm_serve.specs.Response.{Refuses, Response}
use Rattle.ldm_serve.specs.Responds.{Responds, stands}
use Rattle.ldm_serve.proofs.Fronts.{cut_read, cut_unread}
use Rattle.ldm_serve.proofs.Giving.{given_at_once}
use Rattle.ldm_serve.proofs.responding.answer_cut.Goals as goal

pub returns-in-Unread : goal.returns-in-Unread
returns-in-Unread c = λ pass clock.
    let reading = call_of c.args.front.now in
    let old = stands pass clock c.args.out.now.items in
    let new = stands pass clock c.refuse.new.out.items in
    subst (λ (r : Result Responded RespondFault). Responds r (to_cut reading) old new) (sym c.write_next.ensures)
    (subst (λ (r : Response). Responds c.refuse.result r old new) (sym (cut_unread reading c.read_asked.result c.in-Unread.fault c.read_asked.ensures.unread c.in-Unread.is))
    (c.refuse.ensures pass clock))

pub returns-in_default : goal.returns-in_default
returns-in_default c = λ pass clock.
    let reading = call_of c.args.front.now in
    let out = c.args.out.now.items in
    subst (λ (r : Result Responded RespondFault). Responds r (to_cut reading) (stands pass clock out) (stands pass clock out)) (sym c.write_next-in_default.ensures)
    (given_at_once pass clock (to_cut reading) (Refuses []) responded.Refused [] out out
    (cut_read reading c.read_asked.result c.read_asked.ensures.unread c.in_default.not-Unread) refl refl refl (sym (append-nil out)))

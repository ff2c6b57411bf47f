use Rattle.std.proofs.Common.{Result, sym, subst}
use Rattle.ldm_relay.specs.Reading.{call_of}
use Rattle.ldm_serve.specs.declared.responded.Responded.{Responded}
use Rattle.ldm_serve.specs.declared.responded.RespondFault.{RespondFault}
use Rattle.ldm_serve.specs.Respond.{to_reading}
use Rattle.ldm_serve.specs.Response.{Response}
use Rattle.ldm_serve.specs.Responds.{Responds, stands}
use Rattle.ldm_serve.proofs.responding.answer_read.Goals as goal

pub returns-clause-responds : goal.returns-clause-responds
returns-clause-responds g c =
    let rules = c.args.client.now.rules in
    let host = c.args.client.now.host in
    let content = c.args.content.now in
    let old = stands c.args.pass.now (g.C.Clock.tells c.args.clock.now) c.args.out.now.items in
    let new = stands c.answer_asked-responded.new.pass (g.C.Clock.tells c.answer_asked-responded.new.clock) c.answer_asked-responded.new.out.items in
    subst (λ (r : Result Responded RespondFault). Responds r (to_reading rules host (call_of content)) old new) (sym c.write_next.ensures)
    (subst (λ (r : Response). Responds c.answer_asked-responded.result r old new) (sym (c.read_asked-asked.ensures.asked rules host)) c.answer_asked-responded.ensures.responds)

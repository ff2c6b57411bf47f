use Rattle.std.proofs.Common.{◌≡◌, ◌∙◌, ◌≤◌, ℕ, List, length, sym, ap, subst, arith}
use Rattle.ldm_relay.specs.Reading.{call_of}
use Rattle.ldm_relay.specs.declared.front.TheConstants.{LONGEST_CALL}
use Rattle.ldm_serve.specs.Client.{Client}
use Rattle.ldm_serve.specs.ClientView.{client_by}
use Rattle.ldm_serve.specs.InParts.{with_next}
use Rattle.ldm_serve.specs.Respond.{respond, to_short}
use Rattle.ldm_serve.specs.Response.{Response}
use Rattle.ldm_serve.specs.Responds.{Responds, stands}
use Rattle.ldm_serve.proofs.Fronts.{is_short, short_kept}
use Rattle.ldm_serve.proofs.responding.answer.Goals as goal

pub returns-then-held-le-LONGEST_CALL-clause-responds : goal.returns-then-held-le-LONGEST_CALL-clause-responds
returns-then-held-le-LONGEST_CALL-clause-responds g c = λ content of.
    let client : Client = client_by c.args.client.now c.args.pass.now.actor in
    let old = stands c.args.pass.now (g.C.Clock.tells c.args.clock.now) c.args.out.now.items in
    let new = stands c.answer_short.new.pass (g.C.Clock.tells c.answer_short.new.clock) c.answer_short.new.out.items in
    let less : length content ≤ LONGEST_CALL = omega (arith, of.len, c.if-held-le-LONGEST_CALL.true) in
    let is : to_short client c.args.held.bytes.now (call_of c.args.held.bytes.now) ≡ respond client content =
    ap (λ (bytes : List ℕ). to_short client bytes (call_of bytes)) (short_kept c.args.held content of less) ∙ sym (is_short client content less) in
    subst (λ (r : Response). Responds (with_next c.answer_short.result c.answer_short.new.next) r old new) is c.answer_short.ensures.responds

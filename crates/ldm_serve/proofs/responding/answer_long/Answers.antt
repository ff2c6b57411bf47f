use Rattle.std.proofs.Common.{◌≡◌, ◌∙◌, ◌<◌, ◌≤◌, ℕ, List, length, take, sym, ap, subst, Some, None, arith}
use Rattle.ldm_relay.specs.Fronts.{front_of}
use Rattle.ldm_relay.specs.Reading.{call_of}
use Rattle.ldm_relay.specs.declared.front.TheConstants.{LONGEST_CALL}
use Rattle.ldm_serve.specs.declared.keeping.TheConstants.{LONGEST_CARRIED}
use Rattle.ldm_serve.specs.declared.responded.Responded.{Responded}
use Rattle.ldm_serve.specs.declared.responded.Responded.TheVariants.{GoesOn}
use Rattle.ldm_serve.specs.Client.{Client}
use Rattle.ldm_serve.specs.ClientView.{ClientView, client_by}
use Rattle.ldm_serve.specs.InParts.{with_next}
use Rattle.ldm_serve.specs.Respond.{longest_put, respond, to_cut, to_long, to_reading}
use Rattle.ldm_serve.specs.Response.{Response}
use Rattle.ldm_serve.specs.Responds.{Responds, stands}
use Rattle.ldm_serve.proofs.Fronts.{front_kept, is_long, long_put, no_surplus, not_very_long, surplus, very_long}
use Rattle.ldm_serve.proofs.responding.answer_long.Goals as goal

pub returns-in-Some-clause-responds : goal.returns-in-Some-clause-responds
returns-in-Some-clause-responds g c = λ content of.
    let client : Client = client_by c.args.client.now c.args.pass.now.actor in
    let clock = g.C.Clock.tells c.args.clock.now in
    let pass = c.args.pass.now in
    let old = stands pass clock c.args.out.now.items in
    let new = stands pass clock c.answer_front.new.out.items in
    let more : LONGEST_CALL < length content = omega (arith, of.len, c.requires.long) in
    let begins : front_of (take LONGEST_CALL content) ≡ c.read_call_front.result =
    ap front_of (sym (front_kept c.args.held content of)) ∙ sym (c.read_call_front.ensures ∙ ap front_of c.front_in.ensures) in
    let says = sym c.in-Some.is ∙ c.in_ok-answer-in-Put.ensures.answer client.actor in
    let is = is_long client content more
    ∙ long_put client content (front_of (take LONGEST_CALL content)) c.in-Put.xid c.in-Put.info (Some c.in-Some.answer) (begins ∙ c.in-Put.is) says in
    subst (λ (next : Responded). Responds (with_next c.answer_front.result next) (respond client content) old new) (sym c.requires.going)
    (subst (λ (r : Response). Responds (with_next c.answer_front.result GoesOn) r old new) (sym is) (c.answer_front.ensures pass clock))

pub returns-then-from-longest_put-clause-responds : goal.returns-then-from-longest_put-clause-responds
returns-then-from-longest_put-clause-responds g c = λ content of.
    let client : Client = client_by c.args.client.now c.args.pass.now.actor in
    let clock = g.C.Clock.tells c.args.clock.now in
    let pass = c.args.pass.now in
    let more : LONGEST_CALL < length content = omega (arith, of.len, c.requires.long) in
    let begins : front_of (take LONGEST_CALL content) ≡ c.read_call_front.result =
    ap front_of (sym (front_kept c.args.held content of)) ∙ sym (c.read_call_front.ensures ∙ ap front_of c.front_in.ensures) in
    let says = sym c.in-None.is ∙ c.in_ok-answer-in-Put.ensures.answer client.actor in
    let beyond : longest_put c.in-Put.info.size < length content = omega (arith, of.len) in
    let is = is_long client content more
    ∙ long_put client content (front_of (take LONGEST_CALL content)) c.in-Put.xid c.in-Put.info None (begins ∙ c.in-Put.is) says
    ∙ surplus client c.in-Put.xid c.in-Put.info content beyond in
    subst (λ (r : Response). Responds (with_next c.refuse_long.result c.refuse_long.new.next) r (stands pass clock c.args.out.now.items) (stands pass clock c.refuse_long.new.out.items))
    (sym is) (c.refuse_long.ensures pass clock)

pub returns-then-held-gt-LONGEST_CARRIED-clause-responds : goal.returns-then-held-gt-LONGEST_CARRIED-clause-responds
returns-then-held-gt-LONGEST_CARRIED-clause-responds g c = λ content of.
    let client : Client = client_by c.args.client.now c.args.pass.now.actor in
    let clock = g.C.Clock.tells c.args.clock.now in
    let pass = c.args.pass.now in
    let more : LONGEST_CALL < length content = omega (arith, of.len, c.requires.long) in
    let begins : front_of (take LONGEST_CALL content) ≡ c.read_call_front.result =
    ap front_of (sym (front_kept c.args.held content of)) ∙ sym (c.read_call_front.ensures ∙ ap front_of c.front_in.ensures) in
    let beyond : LONGEST_CARRIED < length content = omega (arith, of.len) in
    let is = is_long client content more ∙ ap (to_long client content) (begins ∙ c.in-Carries.is) ∙ very_long client content beyond in
    subst (λ (r : Response). Responds (with_next c.refuse_long-then-held-gt-LONGEST_CARRIED.result c.refuse_long-then-held-gt-LONGEST_CARRIED.new.next) r (stands pass clock c.args.out.now.items) (stands pass clock c.refuse_long-then-held-gt-LONGEST_CARRIED.new.out.items))
    (sym is) (c.refuse_long-then-held-gt-LONGEST_CARRIED.ensures pass clock)

pub returns-else-from-longest_put-clause-responds : goal.returns-else-from-longest_put-clause-responds
returns-else-from-longest_put-clause-responds g c = λ content of.
    let client : Client = client_by c.args.client.now c.args.pass.now.actor in
    let old = stands c.args.pass.now (g.C.Clock.tells c.args.clock.now) c.args.out.now.items in
    let new = stands c.answer_whole.new.pass (g.C.Clock.tells c.answer_whole.new.clock) c.answer_whole.new.out.items in
    let more : LONGEST_CALL < length content = omega (arith, of.len, c.requires.long) in
    let begins : front_of (take LONGEST_CALL content) ≡ c.read_call_front.result =
    ap front_of (sym (front_kept c.args.held content of)) ∙ sym (c.read_call_front.ensures ∙ ap front_of c.front_in.ensures) in
    let says = sym c.in-None.is ∙ c.in_ok-answer-in-Put.ensures.answer client.actor in
    let less : length content ≤ longest_put c.in-Put.info.size = omega (arith, of.len) in
    let is = is_long client content more
    ∙ long_put client content (front_of (take LONGEST_CALL content)) c.in-Put.xid c.in-Put.info None (begins ∙ c.in-Put.is) says
    ∙ no_surplus client c.in-Put.xid c.in-Put.info content less in
    subst (λ (r : Response). Responds (with_next c.answer_whole.result c.answer_whole.new.next) r old new) (sym is)
    (subst (λ (view : ClientView). Responds (with_next c.answer_whole.result c.answer_whole.new.next) (to_reading view.rules view.host (call_of content)) old new)
    c.in_ok-answer-in-Put.ensures.same (c.answer_whole.ensures.responds content of))

pub returns-else-held-gt-LONGEST_CARRIED-clause-responds : goal.returns-else-held-gt-LONGEST_CARRIED-clause-responds
returns-else-held-gt-LONGEST_CARRIED-clause-responds g c = λ content of.
    let client : Client = client_by c.args.client.now c.args.pass.now.actor in
    let old = stands c.args.pass.now (g.C.Clock.tells c.args.clock.now) c.args.out.now.items in
    let new = stands c.answer_whole-in-Carries.new.pass (g.C.Clock.tells c.answer_whole-in-Carries.new.clock) c.answer_whole-in-Carries.new.out.items in
    let more : LONGEST_CALL < length content = omega (arith, of.len, c.requires.long) in
    let begins : front_of (take LONGEST_CALL content) ≡ c.read_call_front.result =
    ap front_of (sym (front_kept c.args.held content of)) ∙ sym (c.read_call_front.ensures ∙ ap front_of c.front_in.ensures) in
    let less : length content ≤ LONGEST_CARRIED = omega (arith, of.len) in
    let is = is_long client content more ∙ ap (to_long client content) (begins ∙ c.in-Carries.is) ∙ not_very_long client content less in
    subst (λ (r : Response). Responds (with_next c.answer_whole-in-Carries.result c.answer_whole-in-Carries.new.next) r old new) (sym is) (c.answer_whole-in-Carries.ensures.responds content of)

pub returns-in-Other-clause-responds : goal.returns-in-Other-clause-responds
returns-in-Other-clause-responds g c = λ content of.
    let client : Client = client_by c.args.client.now c.args.pass.now.actor in
    let clock = g.C.Clock.tells c.args.clock.now in
    let pass = c.args.pass.now in
    let more : LONGEST_CALL < length content = omega (arith, of.len, c.requires.long) in
    let begins : front_of (take LONGEST_CALL content) ≡ c.read_call_front.result =
    ap front_of (sym (front_kept c.args.held content of)) ∙ sym (c.read_call_front.ensures ∙ ap front_of c.front_in.ensures) in
    let is = is_long client content more ∙ ap (to_long client content) (begins ∙ c.in-Other.is)
    ∙ ap (λ (bytes : List ℕ). to_cut (call_of bytes)) (sym (c.front_in-in-Other.ensures ∙ front_kept c.args.held content of)) in
    subst (λ (r : Response). Responds (with_next c.answer_cut.result c.answer_cut.new.next) r (stands pass clock c.args.out.now.items) (stands pass clock c.answer_cut.new.out.items))
    (sym is) (c.answer_cut.ensures pass clock)

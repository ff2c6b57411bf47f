use Rattle.std.proofs.Common.{◌≡◌, ℕ, List, sym, ap, subst, ◌∙◌, arith}
use Rattle.ldm_relay.specs.Reading.{call_of}
use Rattle.ldm_serve.specs.declared.responded.Responded.{Responded}
use Rattle.ldm_serve.specs.declared.responded.Responded.TheVariants.{GoesOn}
use Rattle.ldm_serve.specs.InParts.{with_next}
use Rattle.ldm_serve.specs.Respond.{to_reading}
use Rattle.ldm_serve.specs.Response.{Response}
use Rattle.ldm_serve.specs.Responds.{Responds, stands}
use Rattle.ldm_serve.proofs.Fronts.{all_kept}
use Rattle.ldm_serve.proofs.responding.answer_whole.Goals as goal

pub returns-in-Some-clause-responds : goal.returns-in-Some-clause-responds
returns-in-Some-clause-responds g c = λ content of.
    let rules = c.args.client.now.rules in
    let host = c.args.client.now.host in
    let old = stands c.args.pass.now (g.C.Clock.tells c.args.clock.now) c.args.out.now.items in
    let new = stands c.put.new.pass (g.C.Clock.tells c.put.new.clock) c.put.new.out.items in
    let all : c.args.held.bytes.now ≡ content = all_kept c.args.held content of (omega (arith, of.len, c.if-held.false)) in
    let is = ap (λ (bytes : List ℕ). to_reading rules host (call_of bytes)) (sym all) ∙ ap (to_reading rules host) c.in-Some.ensures.read in
    subst (λ (next : Responded). Responds (with_next c.put.result next) (to_reading rules host (call_of content)) old new) (sym c.requires.going)
    (subst (λ (r : Response). Responds (with_next c.put.result GoesOn) r old new) (sym is) c.put.ensures.responds)

pub returns-in-None-clause-responds : goal.returns-in-None-clause-responds
returns-in-None-clause-responds g c = λ content of.
    let rules = c.args.client.now.rules in
    let host = c.args.client.now.host in
    let old = stands c.args.pass.now (g.C.Clock.tells c.args.clock.now) c.args.out.now.items in
    let new = stands c.answer_read.new.pass (g.C.Clock.tells c.answer_read.new.clock) c.answer_read.new.out.items in
    let all : c.args.held.bytes.now ≡ content = all_kept c.args.held content of (omega (arith, of.len, c.if-held.false)) in
    subst (λ (bytes : List ℕ). Responds (with_next c.answer_read.result c.answer_read.new.next) (to_reading rules host (call_of bytes)) old new) all c.answer_read.ensures.responds

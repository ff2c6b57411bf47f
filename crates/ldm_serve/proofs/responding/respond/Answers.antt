use Rattle.std.proofs.Common.{◌∙◌, ℕ, Ok, Err, ap, subst}
use Rattle.ldm_serve.specs.ClientView.{ClientView, client_by}
use Rattle.ldm_serve.specs.Respond.{respond}
use Rattle.ldm_serve.specs.Responds.{Responds, stands}
use Rattle.ldm_serve.proofs.responding.respond.Goals as goal

pub returns-in-Ok-clause-responds : goal.returns-in-Ok-clause-responds
returns-in-Ok-clause-responds g c = λ content of.
    let with_arena : ℕ → ClientView = λ arena. record { rules = c.args.policy.now; host = c.args.host.now; arena = arena } in
    let old = stands c.args.pass.now (g.C.Clock.tells c.args.clock.now) c.args.out.now.items in
    let new = stands c.answer.new.pass (g.C.Clock.tells c.answer.new.clock) c.answer.new.out.items in
    subst (λ (view : ClientView). Responds (Ok c.answer.new.next) (respond (client_by view c.args.pass.now.actor) content) old new)
    (c.of-client.ensures ∙ ap with_arena c.arena.ensures.is)
    (c.in-Ok.ensures.responds content of)

pub returns-clause-responds : goal.returns-clause-responds
returns-clause-responds g c = λ content of.
    let with_arena : ℕ → ClientView = λ arena. record { rules = c.args.policy.now; host = c.args.host.now; arena = arena } in
    let old = stands c.args.pass.now (g.C.Clock.tells c.args.clock.now) c.args.out.now.items in
    let new = stands c.answer.new.pass (g.C.Clock.tells c.answer.new.clock) c.answer.new.out.items in
    subst (λ (view : ClientView). Responds (Err c.in-Err.why) (respond (client_by view c.args.pass.now.actor) content) old new)
    (c.of-client.ensures ∙ ap with_arena c.arena.ensures.is)
    (c.in-Err.ensures.responds content of)

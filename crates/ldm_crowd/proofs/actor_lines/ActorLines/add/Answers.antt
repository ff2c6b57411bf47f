use Rattle.std.proofs.Common.{List, ℕ, sym, subst}
use Rattle.std.specs.List.{All}
use Rattle.std.proofs.lemmas.List.Elements.{All-push}
use denote.Ref.{Bor}
use Rattle.ldm_crowd.specs.OrdersView.{ActorLinesView, IsOrder}
use Rattle.ldm_crowd.proofs.actor_lines.ActorLines.add.Goals as goal

asks : ℕ → Bor (List ℕ) → Type 0
asks actors line = IsOrder actors line.now

pub invariant_of-self : goal.invariant_of-self
unfolding asks
invariant_of-self c = (c.self.invariant.0, subst (All (asks c.self.inside.actors)) (sym c.in_err-push.ensures.items) c.self.invariant.1)

pub invariant_of-self-2 : goal.invariant_of-self-2
unfolding asks
invariant_of-self-2 c = (
  c.self.invariant.0,
  subst (All (asks c.self.inside.actors)) (sym c.in_ok-push.ensures.items)
      (All-push (asks c.self.inside.actors) c.self.inside.lines.items c.args.line c.self.invariant.1
      (subst (λ (v : ActorLinesView). IsOrder v.actors c.args.line.now) (sym c.self.view_is) c.requires)),
)

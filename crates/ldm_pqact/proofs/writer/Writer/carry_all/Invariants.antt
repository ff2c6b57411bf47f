use Rattle.std.specs.Prelude.{◌≤◌}
use Rattle.std.specs.Vec.{vec_capacity}
use Rattle.ldm_actions.specs.Outputs.{standing}
use Rattle.ldm_pqact.specs.declared.limits.TheConstants.{LARGEST_PIECE}
use Rattle.ldm_pqact.specs.Handling.{lent}
use Rattle.ldm_pqact.proofs.Finishing.{KeepsChosen}
use Rattle.ldm_pqact.proofs.writer.Writer.carry_all.Given as goal

abbrev pub invariant-loop-it : goal.invariant-loop-it
invariant-loop-it g l =
    KeepsChosen l.holding l.fn.chosen.items l.it-iterator.rest.items
    (lent l.initial.pass (standing l.initial.self.outputs (g.F.Store.tells l.initial.store) (g.L.Launcher.tells l.initial.launcher)))
    (lent l.pass (standing l.self.outputs (g.F.Store.tells l.store) (g.L.Launcher.tells l.launcher)))
    × (LARGEST_PIECE ≤ vec_capacity l.self.buffer)

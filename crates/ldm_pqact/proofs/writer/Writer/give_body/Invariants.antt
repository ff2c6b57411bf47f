use Rattle.std.proofs.Common.{◌≤◌, ◌-◌}
use Rattle.std.specs.Vec.{vec_capacity}
use Rattle.ldm_actions.specs.Outputs.{standing}
use Rattle.ldm_pqact.specs.declared.limits.TheConstants.{LARGEST_PIECE}
use Rattle.ldm_pqact.specs.Handling.{lent}
use Rattle.ldm_pqact.proofs.Reading.{KeepsBody}
use Rattle.ldm_pqact.proofs.writer.Writer.give_body.Given as goal

abbrev pub invariant-loop-offset : goal.invariant-loop-offset
invariant-loop-offset g l =
    KeepsBody l.holding l.offset
    (lent l.initial.pass (standing l.initial.self.outputs (g.F.Store.tells l.initial.store) (g.L.Launcher.tells l.initial.launcher)))
    (lent l.pass (standing l.self.outputs (g.F.Store.tells l.store) (g.L.Launcher.tells l.launcher)))
    × (LARGEST_PIECE ≤ vec_capacity l.self.buffer)

abbrev pub decreases-loop-offset : goal.decreases-loop-offset
decreases-loop-offset g l = l.size - l.offset

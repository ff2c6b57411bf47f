use Rattle.ldm_actions.specs.Outputs.{HasHand, KeepsUnlessSpent, standing}
use Rattle.drive_sessions.proofs.outputs.give.Given as goal

abbrev pub invariant-loop-piece : goal.invariant-loop-piece
invariant-loop-piece g l = record {
  keeps : KeepsUnlessSpent (standing l.outputs (g.F.Store.tells l.store) (g.L.Launcher.tells l.launcher));
  in_hand : HasHand l.outputs;
}

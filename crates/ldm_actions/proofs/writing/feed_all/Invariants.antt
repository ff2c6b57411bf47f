use Rattle.std.proofs.Common.{◌≡◌, ◌-◌, ◌≤◌, length, take}
use Rattle.ldm_actions.specs.Writing.{with_given}
use Rattle.ldm_actions.proofs.writing.feed_all.Given as goal

abbrev pub invariant-loop-at : goal.invariant-loop-at
invariant-loop-at g l = record {
  within : l.at ≤ length l.piece;
  stands : g.L.Launcher.tells l.launcher ≡ with_given l.child (take l.at l.piece) (g.L.Launcher.tells l.initial.launcher);
}

abbrev pub decreases-loop-at : goal.decreases-loop-at
decreases-loop-at g l = length l.initial.piece - l.at

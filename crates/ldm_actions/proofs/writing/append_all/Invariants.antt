use Rattle.std.proofs.Common.{◌≡◌, ◌-◌, ◌≤◌, length, take}
use Rattle.ldm_actions.specs.Writing.{with_appended}
use Rattle.ldm_actions.proofs.writing.append_all.Given as goal

abbrev pub invariant-loop-at : goal.invariant-loop-at
invariant-loop-at g l = record {
  within : l.at ≤ length l.piece;
  stands : g.F.Store.tells l.store ≡ with_appended l.file (take l.at l.piece) (g.F.Store.tells l.initial.store);
}

abbrev pub decreases-loop-at : goal.decreases-loop-at
decreases-loop-at g l = length l.initial.piece - l.at

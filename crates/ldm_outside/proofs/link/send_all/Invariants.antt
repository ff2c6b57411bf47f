use Rattle.std.proofs.Common.{◌-◌, ◌≤◌, length, take}
use Rattle.ldm_outside.specs.Link.{IsNotClosed, Sent}
use Rattle.ldm_outside.proofs.link.send_all.Given as goal

abbrev pub invariant-loop-at : goal.invariant-loop-at
invariant-loop-at g l = record {
  within : l.at ≤ length l.piece;
  not_closed : IsNotClosed (g.K.Link.tells l.link);
  sent : Sent (g.K.Link.tells l.initial.link) (take l.at l.piece) (g.K.Link.tells l.link);
}

abbrev pub decreases-loop-at : goal.decreases-loop-at
decreases-loop-at g l = length l.initial.piece - l.at

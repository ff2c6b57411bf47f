use Rattle.std.proofs.Common.{◌-◌, ◌≤◌, replicate}
use Rattle.md5.specs.Md5.{Holds}
use Rattle.ldm_script.proofs.body.sign_fill.Given as goal

abbrev pub invariant-loop-left : goal.invariant-loop-left
invariant-loop-left l = record {
  within : l.left ≤ l.count;
  so_far : Holds l.hasher (replicate (l.count - l.left) l.byte);
}

abbrev pub decreases-loop-left : goal.decreases-loop-left
decreases-loop-left l = l.left

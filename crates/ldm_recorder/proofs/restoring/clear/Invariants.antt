use Rattle.std.proofs.Common.{◌≡◌, ◌++◌, None, drop, replicate}
use Rattle.ldm_recorder.proofs.restoring.clear.Given as goal

abbrev pub invariant-loop-last : goal.invariant-loop-last
invariant-loop-last l = l.lasts ≡ replicate l.last-index None ++ drop l.last-index l.fn.lasts

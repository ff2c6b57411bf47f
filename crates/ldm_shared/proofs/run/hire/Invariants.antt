use Rattle.std.proofs.Common.{◌≡◌, ◌+◌, ◌≤◌, ◌++◌, map, reverse, vec_len}
use Rattle.std.specs.Vec.{vec_capacity}
use Rattle.ldm_shared.proofs.run.hire.Given as goal

abbrev pub invariant-loop-pass : goal.invariant-loop-pass
invariant-loop-pass g l = record {
  counts : vec_len l.own ≡ vec_len l.passes;
  workers : vec_len l.passes + vec_len l.workers ≤ vec_capacity l.workers;
  passes_room : vec_len l.passes + vec_len l.workers ≤ vec_capacity l.passes;
  own_room : vec_len l.passes + vec_len l.workers ≤ vec_capacity l.own;
  passes : l.fn.passes.items ≡ l.passes.items ++ map (λ worker. worker.pass) (reverse l.workers.items);
  own : l.fn.own.items ≡ l.own.items ++ map (λ worker. worker.own) (reverse l.workers.items);
}

abbrev pub decreases-loop-pass : goal.decreases-loop-pass
decreases-loop-pass g l = vec_len l.passes

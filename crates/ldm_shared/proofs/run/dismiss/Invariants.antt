use Rattle.std.proofs.Common.{◌≡◌, ◌+◌, ◌≤◌, ◌++◌, map, reverse, vec_len}
use Rattle.std.specs.Vec.{vec_capacity}
use Rattle.ldm_shared.proofs.run.dismiss.Given as goal

abbrev pub invariant-loop-worker : goal.invariant-loop-worker
invariant-loop-worker g l = record {
  passes_room : vec_len l.workers + vec_len l.passes ≤ vec_capacity l.passes;
  own_room : vec_len l.workers + vec_len l.own ≤ vec_capacity l.own;
  passes : map (λ worker. worker.pass) (reverse l.fn.workers.items) ≡ l.passes.items ++ map (λ worker. worker.pass) (reverse l.workers.items);
  own : map (λ worker. worker.own) (reverse l.fn.workers.items) ≡ l.own.items ++ map (λ worker. worker.own) (reverse l.workers.items);
}

abbrev pub decreases-loop-worker : goal.decreases-loop-worker
decreases-loop-worker g l = vec_len l.workers

use Rattle.std.proofs.Common.{◌≡◌, ◌+◌, ◌≤◌, ◌++◌, map, reverse, vec_len}
use Rattle.std.specs.Vec.{vec_capacity}
use Rattle.ldm_crowd.specs.Ends.{first_end, or_end}
use Rattle.ldm_crowd.proofs.run.dismiss.Given as goal

abbrev pub invariant-loop-worker : goal.invariant-loop-worker
invariant-loop-worker g l = record {
  gates_room : vec_len l.workers + vec_len l.gates ≤ vec_capacity l.gates;
  answers_room : vec_len l.workers + vec_len l.answers ≤ vec_capacity l.answers;
  gates : map (λ worker. worker.player.gate) l.fn.workers.items ≡ l.gates.items ++ map (λ worker. worker.player.gate) (reverse l.workers.items);
  answers : map (λ worker. worker.player.answers) l.fn.workers.items ≡ l.answers.items ++ map (λ worker. worker.player.answers) (reverse l.workers.items);
  end : first_end (map (λ worker. worker.player.end) l.fn.workers.items) ≡ or_end l.first (first_end (map (λ worker. worker.player.end) (reverse l.workers.items)));
}

abbrev pub decreases-loop-worker : goal.decreases-loop-worker
decreases-loop-worker g l = vec_len l.workers

use Rattle.std.proofs.Common.{◌≡◌, ◌+◌, ◌≤◌, ◌++◌, map, reverse, vec_len}
use Rattle.std.specs.List.{All}
use Rattle.std.specs.Vec.{vec_capacity}
use Rattle.ldm_crowd.specs.Players.{IsNew}
use Rattle.ldm_crowd.proofs.run.equip.Given as goal

abbrev pub invariant-loop-gate : goal.invariant-loop-gate
invariant-loop-gate g l = record {
  counts : vec_len l.rooms ≡ vec_len l.gates;
  workers_room : vec_len l.gates + vec_len l.workers ≤ vec_capacity l.workers;
  gates_room : vec_len l.gates + vec_len l.workers ≤ vec_capacity l.gates;
  gates : l.fn.gates.items ≡ map (λ worker. worker.player.gate) l.workers.items ++ reverse l.gates.items;
  new : All IsNew l.workers.items;
}

abbrev pub decreases-loop-gate : goal.decreases-loop-gate
decreases-loop-gate g l = vec_len l.gates

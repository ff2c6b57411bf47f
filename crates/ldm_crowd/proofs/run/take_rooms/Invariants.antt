use Rattle.std.proofs.Common.{◌-◌, ◌≤◌, vec_len}
use Rattle.std.specs.Vec.{vec_capacity}
use Rattle.ldm_crowd.proofs.run.take_rooms.Given as goal

abbrev pub invariant-loop-alloc : goal.invariant-loop-alloc
invariant-loop-alloc l = (vec_len l.rooms ≤ l.count) × (l.count ≤ vec_capacity l.rooms)

abbrev pub decreases-loop-alloc : goal.decreases-loop-alloc
decreases-loop-alloc l = l.count - vec_len l.rooms

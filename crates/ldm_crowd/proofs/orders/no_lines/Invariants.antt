use Rattle.std.proofs.Common.{◌-◌, ◌≤◌, vec_len}
use Rattle.std.specs.Vec.{vec_capacity}
use Rattle.ldm_crowd.proofs.Dealing.{AreUnread}
use Rattle.ldm_crowd.proofs.orders.no_lines.Given as goal

abbrev pub invariant-loop-alloc : goal.invariant-loop-alloc
invariant-loop-alloc l = (vec_len l.parts ≤ l.actors) × (l.actors ≤ vec_capacity l.parts) × AreUnread l.actors l.parts.items

abbrev pub decreases-loop-alloc : goal.decreases-loop-alloc
decreases-loop-alloc l = l.actors - vec_len l.parts

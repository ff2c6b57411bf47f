use Rattle.ldm_cursor.proofs.WithLoss.{LostElsewhere}
use Rattle.ldm_cursor.proofs.cursors.lose_each.Given as goal

abbrev pub invariant-loop-k : goal.invariant-loop-k
invariant-loop-k l = LostElsewhere l.n l.feed.0 l.left.bits l.places l.initial.places

abbrev pub decreases-loop-k : goal.decreases-loop-k
decreases-loop-k l = l.left.bits

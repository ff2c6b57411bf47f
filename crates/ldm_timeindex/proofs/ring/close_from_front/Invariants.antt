use Rattle.std.proofs.Common.{◌≤◌}
use Rattle.ldm_timeindex.specs.Ring.{turned}
use Rattle.ldm_timeindex.proofs.Closing.{FrontMoved}
use Rattle.ldm_timeindex.proofs.ring.close_from_front.Given as goal

abbrev pub invariant-loop-hole : goal.invariant-loop-hole
invariant-loop-hole l = record {
  before : l.hole ≤ l.index;
  moved : FrontMoved (turned l.first l.initial.table) (turned l.first l.table) l.index l.hole;
}

abbrev pub decreases-loop-hole : goal.decreases-loop-hole
decreases-loop-hole l = l.hole

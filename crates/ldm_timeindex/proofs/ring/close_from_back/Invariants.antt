use Rattle.ldm_timeindex.specs.Ring.{turned}
use Rattle.ldm_timeindex.proofs.Closing.{BackMoved}
use Rattle.ldm_timeindex.proofs.ring.close_from_back.Given as goal

abbrev pub invariant-loop-hole : goal.invariant-loop-hole
invariant-loop-hole l = BackMoved (turned l.first l.initial.table) (turned l.first l.table) l.index l.hole

use Rattle.std.proofs.Common.{◌-◌}
use Rattle.ldm_timeindex.specs.Kept.{all_queued}
use Rattle.ldm_timeindex.proofs.Search.{IsBetween}
use Rattle.ldm_timeindex.proofs.time_index.index_of.Given as goal

abbrev pub invariant-loop-low : goal.invariant-loop-low
invariant-loop-low l = IsBetween l.bound (all_queued l.ring.entries) l.low l.high

abbrev pub decreases-loop-low : goal.decreases-loop-low
decreases-loop-low l = l.high - l.low

use Rattle.ldm_class.proofs.Building.{IsBuilt}
use Rattle.ldm_class.proofs.class.searches_of.Given as goal

abbrev pub invariant-loop-place : goal.invariant-loop-place
invariant-loop-place l = IsBuilt l.searches.items l.specs l.place

use Rattle.ldm_class.proofs.Building.{AreRead}
use Rattle.ldm_class.proofs.class.check_patterns.Given as goal

abbrev pub invariant-loop-place : goal.invariant-loop-place
invariant-loop-place l = AreRead l.specs l.place

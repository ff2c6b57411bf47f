-- The link stays open.
use Rattle.ldm_outside.specs.Link.{IsNotClosed}
use Rattle.drive_outside.proofs.links.hear.Given as goal

abbrev pub invariant-loop : goal.invariant-loop
invariant-loop g l = IsNotClosed (g.K.Link.tells l.link)

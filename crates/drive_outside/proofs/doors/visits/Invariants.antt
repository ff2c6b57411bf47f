-- No link is out.
use Rattle.std.proofs.Common.{◌≡◌, false}
use Rattle.drive_outside.proofs.doors.visits.Given as goal

abbrev pub invariant-loop : goal.invariant-loop
invariant-loop g l = (g.D.Door.tells l.door).links.out ≡ false

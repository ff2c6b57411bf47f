-- No link is out.
use Rattle.std.proofs.Common.{◌≡◌, false}
use Rattle.drive_outside.proofs.doors.calls.Given as goal

abbrev pub invariant-loop : goal.invariant-loop
invariant-loop g l = (g.I.Dial.tells l.dial).links.out ≡ false

use Rattle.ldm_shared.specs.Seats.{Waits}
use Rattle.ldm_shared.proofs.shared.Shared.take.Given as goal

abbrev pub invariant-loop : goal.invariant-loop
invariant-loop g l = Waits l.initial.seat l.seat

use Rattle.ldm_shared.specs.Passes.{IsSamePass}
use Rattle.ldm_drive_sessions.proofs.items.hold_some.Given as goal

abbrev pub invariant-loop : goal.invariant-loop
invariant-loop g l = IsSamePass l.initial.pass l.pass

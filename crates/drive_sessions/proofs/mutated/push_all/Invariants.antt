use Rattle.ldm_shared.specs.Passes.{IsSamePass}
use Rattle.drive_sessions.proofs.mutated.push_all.Given as goal

abbrev pub invariant-loop-length : goal.invariant-loop-length
invariant-loop-length g l = IsSamePass l.initial.pass l.pass

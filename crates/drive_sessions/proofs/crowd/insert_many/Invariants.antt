use Rattle.ldm_shared.specs.Passes.{IsSamePass}
use Rattle.drive_sessions.proofs.crowd.insert_many.Given as goal

abbrev pub invariant-loop-n : goal.invariant-loop-n
invariant-loop-n g l = IsSamePass l.initial.pass l.pass

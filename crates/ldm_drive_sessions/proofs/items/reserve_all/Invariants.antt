use Rattle.ldm_shared.specs.Passes.{IsSamePass}
use Rattle.ldm_drive_sessions.proofs.items.reserve_all.Given as goal

abbrev pub invariant-loop-n : goal.invariant-loop-n
invariant-loop-n g l = IsSamePass l.initial.pass l.pass

use Rattle.ldm_shared.specs.Passes.{IsSamePass}
use Rattle.ldm_drive_sessions.proofs.items.insert_all.Given as goal

abbrev pub invariant-loop-item : goal.invariant-loop-item
invariant-loop-item g l = IsSamePass l.initial.pass l.pass

use Rattle.ldm_shared.specs.Passes.{IsSamePass}
use Rattle.drive_sessions.proofs.responding.respond_all.Given as goal

abbrev pub invariant-loop-content : goal.invariant-loop-content
invariant-loop-content g l = IsSamePass l.initial.pass l.pass

use Rattle.ldm_shared.specs.Passes.{IsSamePass}
use Rattle.test_threads.proofs.shared.threads.calls.Given as goal

abbrev pub invariant-loop : goal.invariant-loop
invariant-loop g l = IsSamePass l.initial.pass l.pass

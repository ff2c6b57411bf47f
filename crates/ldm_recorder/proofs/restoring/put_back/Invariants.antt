use Rattle.std.proofs.Common.{ℕ}
use Rattle.ldm_shared.specs.Passes.{IsSamePass}
use Rattle.ldm_recorder.proofs.PuttingBack.{FreesSome}
use Rattle.ldm_recorder.proofs.restoring.put_back.Given as goal

abbrev pub invariant-loop : goal.invariant-loop
invariant-loop g l =
    IsSamePass l.initial.pass l.pass
    × ((number : ℕ) → FreesSome (record { number = number; time = l.time; info = l.info; body = l.body }) l.initial.pass l.pass)

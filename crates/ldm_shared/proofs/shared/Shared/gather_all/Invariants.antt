use Rattle.std.proofs.Common.{vec_len}
use Rattle.ldm_shared.specs.Seats.{IsGathering}
use Rattle.ldm_shared.proofs.shared.Shared.gather_all.Given as goal

abbrev pub invariant-loop-pass : goal.invariant-loop-pass
invariant-loop-pass l = IsGathering l.self l.fn.passes.items l.passes.items l.seat

abbrev pub decreases-loop-pass : goal.decreases-loop-pass
decreases-loop-pass l = vec_len l.passes

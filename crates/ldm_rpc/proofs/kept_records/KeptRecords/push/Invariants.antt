use Rattle.std.proofs.Common.{◌≡◌, ◌-◌, length}
use Rattle.ldm_rpc.proofs.Pushing.{IsPushing}
use Rattle.ldm_rpc.proofs.kept_records.KeptRecords.push.Given as goal

abbrev pub invariant-loop-taken : goal.invariant-loop-taken
invariant-loop-taken g l = IsPushing l.fn.self l.piece l.taken l.self × (l.keeper ≡ l.fn.keeper)

abbrev pub decreases-loop-taken : goal.decreases-loop-taken
decreases-loop-taken g l = length l.piece - l.taken

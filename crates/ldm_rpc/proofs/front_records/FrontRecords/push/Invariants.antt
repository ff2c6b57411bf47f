use Rattle.std.proofs.Common.{◌-◌, length}
use Rattle.ldm_rpc.proofs.Pushed.{IsTaking}
use Rattle.ldm_rpc.proofs.front_records.FrontRecords.push.Given as goal

abbrev pub invariant-loop-taken : goal.invariant-loop-taken
invariant-loop-taken l = IsTaking l.fn.self l.piece l.taken l.self

abbrev pub decreases-loop-taken : goal.decreases-loop-taken
decreases-loop-taken l = length l.piece - l.taken

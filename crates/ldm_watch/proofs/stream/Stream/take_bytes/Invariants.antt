use Rattle.std.proofs.Common.{length}
use Rattle.ldm_watch.specs.Taking.{standing}
use Rattle.ldm_watch.proofs.Running.{IsRunning}
use Rattle.ldm_watch.proofs.stream.Stream.take_bytes.Given as goal

abbrev pub invariant-loop-rest : goal.invariant-loop-rest
invariant-loop-rest l = IsRunning l.initial.self.hand l.bytes (standing l.initial.self.watching l.initial.out l.initial.lines) l.self.hand l.rest (standing l.self.watching l.out l.lines)

abbrev pub decreases-loop-rest : goal.decreases-loop-rest
decreases-loop-rest l = length l.rest

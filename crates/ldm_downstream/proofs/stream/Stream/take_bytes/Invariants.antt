use Rattle.std.proofs.Common.{◌≡◌, None, length}
use Rattle.ldm_downstream.specs.ReceiverView.{moment}
use Rattle.ldm_downstream.proofs.Running.{IsRunning}
use Rattle.ldm_downstream.proofs.stream.Stream.take_bytes.Given as goal

abbrev pub invariant-loop-rest : goal.invariant-loop-rest
invariant-loop-rest g l =
    IsRunning l.now l.initial.self.hand l.bytes (moment l.initial.self.receiving l.initial.pass l.initial.out l.initial.notes) l.self.hand l.rest (moment l.self.receiving l.pass l.out l.notes)
    × (l.end ≡ None)

abbrev pub decreases-loop-rest : goal.decreases-loop-rest
decreases-loop-rest g l = length l.rest

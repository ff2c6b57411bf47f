use Rattle.std.proofs.Common.{◌-◌}
use Rattle.ldm_gather.specs.Writing.{sight_of}
use Rattle.ldm_gather.proofs.Reading.{KeepsBody}
use Rattle.ldm_gather.proofs.body.write_body.Given as goal

abbrev pub invariant-loop-offset : goal.invariant-loop-offset
invariant-loop-offset g l =
    KeepsBody l.reader.k l.held l.offset (sight_of l.initial.pass (g.K.Sink.tells l.initial.sink)) (sight_of l.pass (g.K.Sink.tells l.sink))

abbrev pub decreases-loop-offset : goal.decreases-loop-offset
decreases-loop-offset g l = l.size - l.offset

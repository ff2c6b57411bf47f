use Rattle.ldm_shared.specs.Passes.{IsSamePass}
use Rattle.ldm_recorder.specs.Numbers.{IsReady}
use Rattle.ldm_recorder.specs.Recording.{sight_of, who_of}
use Rattle.ldm_recorder.specs.Taking.{IsSameRecorder}
use Rattle.ldm_recorder.specs.Course.{gated_of}
use Rattle.ldm_recorder.proofs.Coursing.{CoursesOn}
use Rattle.ldm_recorder.proofs.recorder.Recorder.record.Given as goal

abbrev pub invariant-loop : goal.invariant-loop
invariant-loop g l =
    IsSamePass l.initial.pass l.pass
    × IsSameRecorder l.initial.self l.self
    × IsReady l.pass l.self
    × CoursesOn (who_of l.initial.pass l.initial.self)
    (gated_of (sight_of l.initial.pass l.initial.self (g.D.Disk.tells l.initial.disk) (g.E.Sink.tells l.initial.log)) (g.G.Gate.tells l.initial.gate))
    (gated_of (sight_of l.pass l.self (g.D.Disk.tells l.disk) (g.E.Sink.tells l.log)) (g.G.Gate.tells l.gate))

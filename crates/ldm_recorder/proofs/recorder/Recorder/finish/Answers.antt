use Rattle.ldm_recorder.proofs.recorder.Recorder.finish.Goals as goal

pub returns-in-Err-clause-finished : goal.returns-in-Err-clause-finished
returns-in-Err-clause-finished g c = λ s stands pass knows.
    let caught = c.in-Err.ensures.caught s stands pass knows in (caught.0, (g.E.Sink.tells c.catch_up.new.log, caught.1, c.tell.ensures.told))

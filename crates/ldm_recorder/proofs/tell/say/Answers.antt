use Rattle.std.specs.Prelude.{Ok, Err}
use Rattle.ldm_recorder.proofs.tell.say.Goals as goal

pub returns-in-Ok : goal.returns-in-Ok
returns-in-Ok g c = record { said = record { ended = Ok tt; writes = c.in-Ok.ensures.written; faults = c.in-Ok.ensures.faults_kept } }

pub returns-in-Err : goal.returns-in-Err
returns-in-Err g c =
    record { said = record { ended = Err c.in-Err.field-0; writes = c.in-Err.ensures.written; faults = c.in-Err.ensures.faults_kept } }

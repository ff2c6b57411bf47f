-- The statuses of the ends of an exercise.
use Rattle.std.specs.Prelude.{Result, Ok, Err}
use Rattle.ldm_status.specs.declared.status.Status.{Status}
use Rattle.ldm_status.specs.declared.status.Status.TheVariants as status
use Rattle.ldm_exercise.specs.declared.exercise_command.ExerciseFault.{ExerciseFault}
use Rattle.ldm_exercise.specs.declared.exercise_command.ExerciseFault.TheVariants as fault

abbrev pub status_of_exercise : Result (Unit {0}) ExerciseFault → Status
status_of_exercise (Ok done) = status.Done
status_of_exercise (Err fault.SinkFault) = status.SinkFault
status_of_exercise (Err fault.OutOfMemory) = status.NoMemory

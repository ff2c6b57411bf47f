-- How the command `exercise` ends.
use Rattle.std.specs.Prelude.{◌≡◌, ℕ, Result}
use Rattle.ldm_status.specs.Streams.{StreamsRecord}
use Rattle.ldm_status.specs.Status.{Reports}
use Rattle.ldm_exercise.specs.declared.exercise_command.ExerciseFault.{ExerciseFault}
use Rattle.ldm_exercise.specs.Ending.{ExerciseEnds}
use Rattle.ldm_exercise.specs.Statuses.{status_of_exercise}

-- Nothing is read, the summary is written as far as the end says, and the number and the log tell how it ended.
pub record Exercises (number count code : ℕ) (old new : StreamsRecord) : Type 0 where
  pub ending : Result (Unit {0}) ExerciseFault
  pub ends : ExerciseEnds ending number count old.sink new.sink
  pub reports : Reports (status_of_exercise ending) code old.log new.log
  pub source : new.source ≡ old.source

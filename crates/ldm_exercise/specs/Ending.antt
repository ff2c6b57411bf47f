-- How an exercise ends, and what is written then.
use Rattle.std.specs.Prelude.{◌≡◌, ℕ, Result, Ok, Err}
use Rattle.ldm_outside.specs.Count.{Rose}
use Rattle.ldm_outside.specs.Io.{SinkRecord, Takes, WritesFront}
use Rattle.ldm_exercise.specs.declared.exercise_command.ExerciseFault.{ExerciseFault}
use Rattle.ldm_exercise.specs.declared.exercise_command.ExerciseFault.TheVariants as fault
use Rattle.ldm_exercise.specs.Summary.{summary}

abbrev pub ExerciseEnds : Result (Unit {0}) ExerciseFault → ℕ → ℕ → SinkRecord → SinkRecord → Type 0
-- the summary is written
ExerciseEnds (Ok done) number count old new = Takes old (summary number count) new
-- the sink failed, and a front of the summary is written
ExerciseEnds (Err fault.SinkFault) number count old new = Rose old.faults new.faults × WritesFront old (summary number count) new
-- there is no memory, and nothing is written
ExerciseEnds (Err fault.OutOfMemory) number count old new = new ≡ old

-- where the script was played
abbrev pub IfPlayed : Result (Unit {0}) ExerciseFault → Type 0 → Type 0
IfPlayed (Ok done) P = P
IfPlayed (Err fault.SinkFault) P = P
IfPlayed (Err fault.OutOfMemory) P = Unit {0}

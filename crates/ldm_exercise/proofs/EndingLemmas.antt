-- How an exercise ends: for the clauses of `exercise`.
use Rattle.std.proofs.Common.{◌≡◌, ℕ, List, [], Result, Ok, Err, inl, inr}
use Rattle.std.proofs.lemmas.List.{append-nil}
use Rattle.ldm_model.specs.History.{IsLegal}
use Rattle.ldm_model.specs.declared.event.Entry.{Entry}
use Rattle.ldm_model.specs.Lawful.{IsLawful}
use Rattle.ldm_status.specs.Streams.{StreamsRecord}
use Rattle.ldm_status.specs.Status.{Reports}
use Rattle.ldm_exercise.specs.declared.exercise_command.ExerciseFault.{ExerciseFault}
use Rattle.ldm_exercise.specs.declared.exercise_command.ExerciseFault.TheVariants as fault
use Rattle.ldm_exercise.specs.Complete.{ExerciseCompletes}
use Rattle.ldm_exercise.specs.Ending.{ExerciseEnds, IfPlayed}
use Rattle.ldm_exercise.specs.Law.{ObeysExerciseLaw}
use Rattle.ldm_exercise.specs.Playing.{arena, slots, exercised}
use Rattle.ldm_exercise.specs.Statuses.{status_of_exercise}
use Rattle.ldm_exercise.specs.Summary.{summary}

module _ (number count : ℕ) (old new : StreamsRecord) where
  pub completes : (ending : Result (Unit {0}) ExerciseFault) (code : ℕ) → ExerciseEnds ending number count old.sink new.sink
      → Reports (status_of_exercise ending) code old.log new.log → ExerciseCompletes code old new
  completes (Ok done) code ends (inl told) = λ sink_works log_works. inl told.0
  completes (Err fault.SinkFault) code ends reports = λ sink_works log_works. absurd (sink_works ends.0)
  completes (Err fault.OutOfMemory) code ends (inl told) = λ sink_works log_works. inr told.0
  completes (Ok done) code ends (inr failed) = λ sink_works log_works. absurd (log_works failed.1)
  completes (Err fault.OutOfMemory) code ends (inr failed) = λ sink_works log_works. absurd (log_works failed.1)

  module _ (lawful : (bytes count_of_slots : ℕ) (history : List Entry) → IsLegal bytes count_of_slots history → IsLawful bytes count_of_slots history) (source : new.source ≡ old.source) where
    pub obeys : (ending : Result (Unit {0}) ExerciseFault) → ExerciseEnds ending number count old.sink new.sink
        → IfPlayed ending (IsLegal arena slots (exercised number count).playing.history) → ObeysExerciseLaw number count old new
    obeys (Ok done) ends legal = inr (record {
      lawful = lawful arena slots (exercised number count).playing.history legal;
      front = (summary number count, [], append-nil (summary number count), ends);
      whole = λ works. ends;
    })
    obeys (Err fault.SinkFault) ends legal = inr (record {
      lawful = lawful arena slots (exercised number count).playing.history legal;
      front = ends.1;
      whole = λ works. absurd (works ends.0);
    })
    obeys (Err fault.OutOfMemory) ends legal = inl (record { source = source; sink = ends })

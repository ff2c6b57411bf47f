-- The law of the queue, of the answers that an exercise sums up.
use Rattle.std.specs.Prelude.{◌⊎◌, ℕ}
use Rattle.ldm_outside.specs.Count.{Rose}
use Rattle.ldm_outside.specs.Io.{Takes, WritesFront}
use Rattle.ldm_status.specs.Streams.{StreamsRecord, IsUntouched}
use Rattle.ldm_model.specs.Lawful.{IsLawful}
use Rattle.ldm_exercise.specs.Playing.{arena, slots, exercised}
use Rattle.ldm_exercise.specs.Summary.{summary}

-- The summary is written, or a front of it where the sink failed. The calls of the script, with the replies that it sums up, are a
-- history that obeys the law of the queue.
pub record SumsUpLawful (number count : ℕ) (old new : StreamsRecord) : Type 0 where
  pub lawful : IsLawful arena slots (exercised number count).playing.history
  pub front : WritesFront old.sink (summary number count) new.sink
  pub whole : ¬ (Rose old.sink.faults new.sink.faults) → Takes old.sink (summary number count) new.sink

-- Without memory nothing is read or written.
abbrev pub ObeysExerciseLaw : ℕ → ℕ → StreamsRecord → StreamsRecord → Type 0
ObeysExerciseLaw number count old new = IsUntouched old new ⊎ SumsUpLawful number count old new

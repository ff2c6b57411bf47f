-- When the summary of an exercise is written.
use Rattle.std.specs.Prelude.{◌≡◌, ◌⊎◌, ℕ}
use Rattle.ldm_outside.specs.Count.{Rose}
use Rattle.ldm_status.specs.Streams.{StreamsRecord}

-- An exercise whose sink and log do not fail ends with 0, or with 71 for want of memory.
abbrev pub ExerciseCompletes : ℕ → StreamsRecord → StreamsRecord → Type 0
ExerciseCompletes code old new =
    ¬ (Rose old.sink.faults new.sink.faults) → ¬ (Rose old.log.faults new.log.faults) → (code ≡ 0) ⊎ (code ≡ 71)

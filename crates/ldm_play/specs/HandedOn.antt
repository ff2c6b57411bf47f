-- That what a play wrote is handed on, where the sink did not fail.
use Rattle.std.specs.Prelude.{◌≡◌, ◌⊎◌, ℕ, Result, Ok, Err}
use Rattle.ldm_outside.specs.Count.{Rose}
use Rattle.ldm_status.specs.Streams.{StreamsRecord}
use Rattle.ldm_book.specs.declared.fault.CreateFault.{CreateFault}
use Rattle.ldm_play.specs.declared.play_command.ScriptEnd.{ScriptEnd}
use Rattle.ldm_play.specs.declared.play_command.ScriptEnd.TheVariants as script_end
use Rattle.ldm_play.specs.declared.player.LineFault.{LineFault}
use Rattle.ldm_play.specs.declared.player.LineFault.TheVariants as stop

-- lines were played
abbrev pub LinesHandOn : Result (Unit {0}) LineFault → Type 0 → Type 0
LinesHandOn (Ok done) handed_on = handed_on
LinesHandOn (Err (stop.BadLine line column)) handed_on = handed_on
LinesHandOn (Err stop.SinkFault) handed_on = Unit {0}

-- a script was played
abbrev pub ScriptHandsOn : ScriptEnd → Type 0 → Type 0
ScriptHandsOn script_end.Done handed_on = handed_on
ScriptHandsOn script_end.StreamLimit handed_on = handed_on
ScriptHandsOn script_end.SourceFault handed_on = handed_on
ScriptHandsOn (script_end.Stopped why) handed_on = LinesHandOn (Err why) handed_on

-- a script was played on a new queue; without a queue or without memory the sink is as it was
abbrev pub EndingHandsOn : Result ScriptEnd CreateFault → (handed_on as_it_was : Type 0) → Type 0
EndingHandsOn (Ok ending) handed_on as_it_was = ScriptHandsOn ending handed_on
EndingHandsOn (Err fault) handed_on as_it_was = as_it_was

-- The same by the number that the command ends with: 67 and 71 where no queue was made, 75 where the sink failed, and 76 where
-- the log failed, whatever the end was.
pub record HandsOn (code : ℕ) (old new : StreamsRecord) (handed_on as_it_was : Type 0) : Type 0 where
  pub played : (code ≡ 0) ⊎ ((code ≡ 65) ⊎ ((code ≡ 66) ⊎ (code ≡ 74))) → handed_on
  pub not_made : (code ≡ 67) ⊎ (code ≡ 71) → as_it_was
  pub not_logged : code ≡ 76 → ¬ (Rose old.sink.faults new.sink.faults) → handed_on ⊎ as_it_was

-- When a script is played to its end, and all its answers are written.
use Rattle.std.specs.Prelude.{◌≡◌, ◌⊎◌, ℕ, ◌<◌, List, length, Some, None}
use Rattle.ldm_outside.specs.Count.{Rose}
use Rattle.ldm_script.specs.Lines.{lines_of}
use Rattle.ldm_script.specs.Resolve.{new_play}
use Rattle.ldm_book.specs.Limits.{IsGoodArena, IsGoodSlots}
use Rattle.ldm_status.specs.Streams.{StreamsRecord}
use Rattle.ldm_play.specs.declared.play_command.TheConstants.{SCRIPT_LIMIT}
use Rattle.ldm_play.specs.Play.{play}
use Rattle.ldm_play.specs.Ending.{Size}

-- Nothing hinders a play: the queue can be made; the source tells a script of fewer bytes than are too many, each
-- line of which is in the grammar; and neither the source, the sink nor the log failed.
pub record Unhindered (size : Size) (old new : StreamsRecord) : Type 0 where
  pub good_arena : IsGoodArena size.arena
  pub good_slots : IsGoodSlots size.slots
  pub script : List ℕ
  pub told : old.source.left ≡ Some script
  pub short : length script < SCRIPT_LIMIT
  pub good_lines : (play 1 (new_play size.arena size.slots) (lines_of script)).stop ≡ None
  pub source_works : ¬ (Rose old.source.faults new.source.faults)
  pub sink_works : ¬ (Rose old.sink.faults new.sink.faults)
  pub log_works : ¬ (Rose old.log.faults new.log.faults)

-- A play that nothing hinders ends with 0, or with 71 for want of memory.
abbrev pub Completes : Size → ℕ → StreamsRecord → StreamsRecord → Type 0
Completes size code old new = Unhindered size old new → (code ≡ 0) ⊎ (code ≡ 71)

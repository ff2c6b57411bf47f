-- Playing a script on a queue that there is already, and what it leaves.
use Rattle.std.specs.Prelude.{◌≡◌, ℕ, ◌<◌, List, length, replicate, Some, None}
use Rattle.ldm_model.specs.declared.event.Entry.{Entry}
use Rattle.ldm_model.specs.State.{State}
use Rattle.ldm_outside.specs.Count.{Rose}
use Rattle.ldm_outside.specs.Io.{SourceRecord, SinkRecord}
use Rattle.ldm_status.specs.Streams.{StreamsRecord}
use Rattle.ldm_book.specs.View.{BookView}
use Rattle.ldm_book.specs.Stands.{StandsFor}
use Rattle.ldm_script.specs.Lines.{lines_of}
use Rattle.ldm_script.specs.Resolve.{Playing, no_places}
use Rattle.ldm_play.specs.declared.play_command.TheConstants.{SCRIPT_LIMIT}
use Rattle.ldm_play.specs.declared.play_command.ScriptEnd.{ScriptEnd}
use Rattle.ldm_play.specs.declared.play_command.ScriptEnd.TheVariants as script_end
use Rattle.ldm_play.specs.Ending.{PlaysScript}
use Rattle.ldm_play.specs.Play.{play}

-- a play on a queue in that state, after these calls: no actor was answered a place in it yet
abbrev pub play_from : State → List Entry → Playing
play_from s history = record { state = s; last = replicate 64 no_places; history = history }

-- what a source and a sink tell, beside a log
abbrev pub beside : SinkRecord → SourceRecord → SinkRecord → StreamsRecord
beside log source sink = record { source = source; sink = sink; log = log }

-- A script was played on a queue, as far as it went. Where it was played to its end, the book stands for the state after its
-- lines.
pub record PlaysOn (ending : ScriptEnd) (p : Playing) (book : BookView) (old new : StreamsRecord) : Type 0 where
  pub plays : PlaysScript ending p old new
  pub at_end : ending ≡ script_end.Done → StandsFor book (play 1 p (lines_of plays.script)).playing.state

-- Nothing hinders a play on a queue: the source tells a script of fewer bytes than are too many, each line of which is in the
-- grammar; and neither the source nor the sink failed.
pub record RunsFreely (p : Playing) (old new : StreamsRecord) : Type 0 where
  pub script : List ℕ
  pub told : old.source.left ≡ Some script
  pub short : length script < SCRIPT_LIMIT
  pub good_lines : (play 1 p (lines_of script)).stop ≡ None
  pub source_works : ¬ (Rose old.source.faults new.source.faults)
  pub sink_works : ¬ (Rose old.sink.faults new.sink.faults)

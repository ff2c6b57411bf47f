-- How the command `play` ends.
use Rattle.std.specs.Prelude.{ℕ, Result}
use Rattle.ldm_book.specs.declared.fault.CreateFault.{CreateFault}
use Rattle.ldm_status.specs.Streams.{StreamsRecord}
use Rattle.ldm_status.specs.Status.{Reports}
use Rattle.ldm_play.specs.declared.play_command.ScriptEnd.{ScriptEnd}
use Rattle.ldm_play.specs.Ending.{Size, PlayEnds}
use Rattle.ldm_play.specs.Statuses.{status_of_play}

-- A script was played with a queue of that size, as far as it went, and the number and the log tell how it ended.
abbrev pub Plays : Size → ℕ → StreamsRecord → StreamsRecord → Type 0
Plays size code old new =
    (ending : Result ScriptEnd CreateFault) × PlayEnds ending size old new × Reports (status_of_play ending) code old.log new.log

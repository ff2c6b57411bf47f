-- How `resume` ends, and what stands then.
use Rattle.std.specs.Prelude.{◌≢◌, List, Result, Ok, Err}
use Rattle.ldm_disk.specs.Calls.{FileChanges}
use Rattle.ldm_model.specs.State.{State}
use Rattle.ldm_model.specs.declared.event.Entry.{Entry}
use Rattle.ldm_book.specs.View.{BookView}
use Rattle.ldm_book.specs.Stands.{StandsFor}
use Rattle.ldm_image.specs.declared.open.ImageFault.{ImageFault}
use Rattle.ldm_status.specs.Streams.{IsUntouched}
use Rattle.ldm_play.specs.declared.play_command.ScriptEnd.TheVariants as script_end
use Rattle.ldm_play.specs.Ending.{PlaysScript}
use Rattle.ldm_play.specs.OnBook.{PlaysOn, play_from}
use Rattle.ldm_play.specs.declared.save_command.KeptPlay.{KeptPlay}
use Rattle.ldm_play.specs.declared.save_command.KeptPlay.TheVariants.{Stopped, Played}
use Rattle.ldm_play.specs.Files.{IsOpenedAs, LeavesClosed, SavesAgain}
use Rattle.ldm_play.specs.Outside.{OutsideRecord}

-- How the play of a script ends on a queue that was opened from a file, whatever state it stands for.
abbrev pub ResumesPlay : KeptPlay → BookView → OutsideRecord → OutsideRecord → Type 0
-- it was not played to its end: the file is as it was opened
ResumesPlay (Stopped ending) opened old new =
    (ending ≢ script_end.Done)
    × FileChanges (IsOpenedAs opened) old.disk.file new.disk.file
    × ((s : State) (history : List Entry) → StandsFor opened s → PlaysScript ending (play_from s history) old.streams new.streams)
-- it was, and a queue was saved that stands for the state after the lines, or not
ResumesPlay (Played end) opened old new =
    (book : BookView)
    × SavesAgain end opened book old.disk new.disk
    × ((s : State) (history : List Entry) → StandsFor opened s → PlaysOn script_end.Done (play_from s history) book old.streams new.streams)

-- How `resume` ends.
abbrev pub ResumeEnds : Result KeptPlay ImageFault → OutsideRecord → OutsideRecord → Type 0
ResumeEnds (Ok ending) old new = (opened : BookView) × ResumesPlay ending opened old new
-- no queue was opened, or there is no memory to play on it: nothing was read or written
ResumeEnds (Err why) old new = IsUntouched old.streams new.streams × LeavesClosed why old.disk new.disk

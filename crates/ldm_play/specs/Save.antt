-- How `save` ends, and what stands then.
use Rattle.std.specs.Prelude.{◌≡◌, ◌≢◌, Result, Ok, Err}
use Rattle.ldm_book.specs.View.{BookView}
use Rattle.ldm_book.specs.Limits.{IsGoodArena, IsGoodSlots, IsFaultOf}
use Rattle.ldm_book.specs.declared.fault.CreateFault.{CreateFault}
use Rattle.ldm_status.specs.Streams.{IsUntouched}
use Rattle.ldm_script.specs.Resolve.{Playing, new_play}
use Rattle.ldm_play.specs.declared.play_command.ScriptEnd.TheVariants as script_end
use Rattle.ldm_play.specs.Ending.{Size, PlaysScript}
use Rattle.ldm_play.specs.OnBook.{PlaysOn}
use Rattle.ldm_play.specs.declared.save_command.KeptPlay.{KeptPlay}
use Rattle.ldm_play.specs.declared.save_command.KeptPlay.TheVariants.{Stopped, Played}
use Rattle.ldm_play.specs.Files.{Saves}
use Rattle.ldm_play.specs.Outside.{OutsideRecord}

-- How the play of a script on a new queue ends that is to be saved.
abbrev pub SavesPlay : KeptPlay → Playing → OutsideRecord → OutsideRecord → Type 0
-- it was not played to its end: no file is attached
SavesPlay (Stopped ending) p old new = (ending ≢ script_end.Done) × PlaysScript ending p old.streams new.streams × (new.disk ≡ old.disk)
-- it was, and a queue was saved that stands for the state after the lines, or not
SavesPlay (Played end) p old new = (book : BookView) × PlaysOn script_end.Done p book old.streams new.streams × Saves end book old.disk new.disk

-- How `save` ends, with a queue of that size.
abbrev pub SaveEnds : Result KeptPlay CreateFault → Size → OutsideRecord → OutsideRecord → Type 0
SaveEnds (Ok ending) size old new = IsGoodArena size.arena × IsGoodSlots size.slots × SavesPlay ending (new_play size.arena size.slots) old new
-- there is no such queue or no memory: nothing was read or written, and no file attached
SaveEnds (Err fault) size old new = IsFaultOf size.arena size.slots fault × IsUntouched old.streams new.streams × (new.disk ≡ old.disk)

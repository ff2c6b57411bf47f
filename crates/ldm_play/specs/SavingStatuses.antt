-- The statuses of the ends of these commands.
use Rattle.std.specs.Prelude.{Result, Ok, Err}
use Rattle.ldm_book.specs.declared.fault.CreateFault.{CreateFault}
use Rattle.ldm_image.specs.declared.save.SaveEnd.{SaveEnd}
use Rattle.ldm_image.specs.declared.save.SaveEnd.TheVariants as save
use Rattle.ldm_image.specs.declared.open.ImageFault.{ImageFault}
use Rattle.ldm_image.specs.declared.open.ImageFault.TheVariants as fault
use Rattle.ldm_status.specs.declared.status.Status.{Status}
use Rattle.ldm_status.specs.declared.status.Status.TheVariants as status
use Rattle.ldm_play.specs.Statuses.{status_of_script, status_of_fault}
use Rattle.ldm_play.specs.declared.save_command.KeptPlay.{KeptPlay}
use Rattle.ldm_play.specs.declared.save_command.KeptPlay.TheVariants.{Stopped, Played}
use Rattle.ldm_play.specs.declared.check_command.CheckFault.{CheckFault}
use Rattle.ldm_play.specs.declared.check_command.CheckFault.TheVariants.{Unopened, SinkFault}

-- the status of how a queue was saved
abbrev pub status_of_saving : SaveEnd → Status
status_of_saving save.Saved = status.Done
status_of_saving save.DiskFault = status.StoreFault
status_of_saving save.OutOfMemory = status.NoMemory

-- the status of a play whose queue is kept
abbrev pub status_of_kept : KeptPlay → Status
status_of_kept (Stopped ending) = status_of_script ending
status_of_kept (Played end) = status_of_saving end

-- the status where no queue was opened
abbrev pub status_of_closed : ImageFault → Status
status_of_closed (fault.Unclean gate) = status.Unclean
status_of_closed (fault.BadImage at) = status.BadImage at
status_of_closed fault.DiskFault = status.StoreFault
status_of_closed fault.OutOfMemory = status.NoMemory

-- the status of each command
abbrev pub status_of_save : Result KeptPlay CreateFault → Status
status_of_save (Ok ending) = status_of_kept ending
status_of_save (Err fault) = status_of_fault fault

abbrev pub status_of_resume : Result KeptPlay ImageFault → Status
status_of_resume (Ok ending) = status_of_kept ending
status_of_resume (Err why) = status_of_closed why

abbrev pub status_of_check : Result (Unit {0}) CheckFault → Status
status_of_check (Ok done) = status.Done
status_of_check (Err (Unopened why)) = status_of_closed why
status_of_check (Err SinkFault) = status.SinkFault

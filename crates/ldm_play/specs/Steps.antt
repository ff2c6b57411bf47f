-- What the steps of these commands do. No caller needs it.
use Rattle.std.specs.Prelude.{◌≡◌, [], Result, Ok, Err}
use Rattle.ldm_disk.specs.Told.{DiskRecord}
use Rattle.ldm_model.specs.State.{State}
use Rattle.ldm_book.specs.View.{BookView}
use Rattle.ldm_book.specs.Stands.{StandsFor}
use Rattle.ldm_book.specs.declared.fault.CreateFault.{CreateFault}
use Rattle.ldm_image.specs.declared.open.ImageFault.{ImageFault}
use Rattle.ldm_image.specs.declared.open.ImageFault.TheVariants as fault
use Rattle.ldm_status.specs.Streams.{StreamsRecord}
use Rattle.ldm_script.specs.Resolve.{new_play}
use Rattle.ldm_play.specs.Ending.{Size}
use Rattle.ldm_play.specs.OnBook.{RunsFreely, play_from}
use Rattle.ldm_play.specs.declared.save_command.KeptPlay.{KeptPlay}
use Rattle.ldm_play.specs.declared.save_command.KeptPlay.TheVariants.{Stopped, Played}
use Rattle.ldm_play.specs.declared.check_command.CheckFault.{CheckFault}
use Rattle.ldm_play.specs.declared.check_command.CheckFault.TheVariants.{Unopened, SinkFault}
use Rattle.ldm_play.specs.SavingComplete.{IsReadable}
use Rattle.ldm_play.specs.Outside.{OutsideRecord, CheckRecord}

-- an image is opened as that queue, where there is memory
abbrev pub IsOpenedFrom : Result BookView ImageFault → BookView → Type 0
IsOpenedFrom (Ok opened) book = opened ≡ book
IsOpenedFrom (Err why) book = why ≡ fault.OutOfMemory

abbrev pub OpensAs : Result BookView ImageFault → DiskRecord → DiskRecord → Type 0
OpensAs result old new = (book : BookView) → IsReadable book old new → IsOpenedFrom result book

-- a script was played to its end
abbrev pub IsPlayed : KeptPlay → Type 0
IsPlayed (Stopped ending) = ⊥
IsPlayed (Played end) = Unit {0}

-- a script that nothing hinders is played to its end, where there is a queue
abbrev pub IsPlayedOrUnmade : Result KeptPlay CreateFault → Type 0
IsPlayedOrUnmade (Ok ending) = IsPlayed ending
IsPlayedOrUnmade (Err why) = Unit {0}

abbrev pub SaveComes : Result KeptPlay CreateFault → Size → StreamsRecord → StreamsRecord → Type 0
SaveComes result size old new = RunsFreely (new_play size.arena size.slots) old new → IsPlayedOrUnmade result

-- so is one on the queue of an image, where there is memory
abbrev pub IsPlayedOrLacks : Result KeptPlay ImageFault → Type 0
IsPlayedOrLacks (Ok ending) = IsPlayed ending
IsPlayedOrLacks (Err why) = why ≡ fault.OutOfMemory

abbrev pub ResumeComes : Result KeptPlay ImageFault → OutsideRecord → OutsideRecord → Type 0
ResumeComes result old new = (book : BookView) (s : State) → IsReadable book old.disk new.disk → StandsFor book s
    → RunsFreely (play_from s []) old.streams new.streams → IsPlayedOrLacks result

-- an image is opened, where there is memory
abbrev pub IsCheckedOrLacks : Result (Unit {0}) CheckFault → Type 0
IsCheckedOrLacks (Ok done) = Unit {0}
IsCheckedOrLacks (Err (Unopened why)) = why ≡ fault.OutOfMemory
IsCheckedOrLacks (Err SinkFault) = Unit {0}

abbrev pub CheckComes : Result (Unit {0}) CheckFault → CheckRecord → CheckRecord → Type 0
CheckComes result old new = (book : BookView) → IsReadable book old.disk new.disk → IsCheckedOrLacks result

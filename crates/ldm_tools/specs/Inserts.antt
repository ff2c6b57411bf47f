-- What `pqinsert` does.
use Rattle.std.specs.Prelude.{◌≡◌, ℕ, Bool, true, false, List, [], Result, Ok, Err}
use Rattle.ldm_outside.specs.Io.{SinkRecord}
use Rattle.ldm_outside.specs.Link.{LinkRecord}
use Rattle.ldm_relay.specs.declared.message.PutAnswer.{PutAnswer}
use Rattle.ldm_status.specs.declared.status.Status.{Status}
use Rattle.ldm_status.specs.declared.status.Status.TheVariants as status
use Rattle.ldm_status.specs.Status.{ReportsBecause}
use Rattle.ldm_tools.specs.Asking.{IsLinked, IsUnreached}
use Rattle.ldm_tools.specs.Mon.{status_of_no_reply}
use Rattle.ldm_tools.specs.declared.fault.InsertFault.{InsertFault}
use Rattle.ldm_tools.specs.declared.fault.InsertFault.TheVariants as fault
use Rattle.ldm_tools.specs.Inserting.{Inserting}
use Rattle.ldm_tools.specs.Moments.{Outside, hands_of, moment}
use Rattle.ldm_tools.specs.InsertOwing.{Completes}
use Rattle.ldm_tools.specs.Runs.{Runs}

-- the status of how inserting ended; where all files were taken, whether some file was refused
abbrev pub status_of : Result Bool InsertFault → Status
status_of (Ok false) = status.Done
status_of (Ok true) = status.Refused
status_of (Err fault.Unreached) = status.NetFault
status_of (Err fault.StoreFault) = status.StoreFault
status_of (Err fault.OutOfMemory) = status.NoMemory
status_of (Err (fault.NoAnswer why)) = status_of_no_reply why
status_of (Err fault.Denied) = status.Denied
status_of (Err fault.SinkFault) = status.SinkFault

-- The dial was asked once, and connected a link. The files were taken over it, and it was given back as it was left.
pub record InsertsOver (ending : Result Bool InsertFault) (all : Inserting) (old new : Outside) : Type 0 where
  pub came : LinkRecord
  pub left : LinkRecord
  pub linked : IsLinked all.peer came left old.net new.net
  pub given : List ℕ
  pub answers : List PutAnswer
  pub runs : Runs ending all (moment (hands_of came old) [] []) (moment (hands_of left new) given answers)
  pub completes : Completes (status_of ending) all.files came old new

-- No link was connected, and nothing else was done.
pub record IsIdle (all : Inserting) (old new : Outside) : Type 0 where
  pub unreached : IsUnreached all.peer old.net new.net
  pub store : new.store ≡ old.store
  pub sink : new.sink ≡ old.sink
  pub clock : new.clock ≡ old.clock

-- How inserting ends.
abbrev pub InsertEnds : Result Bool InsertFault → Inserting → Outside → Outside → Type 0
InsertEnds (Err fault.Unreached) all old new = IsIdle all old new
InsertEnds (Ok refused) all old new = InsertsOver (Ok refused) all old new
InsertEnds (Err fault.StoreFault) all old new = InsertsOver (Err fault.StoreFault) all old new
InsertEnds (Err fault.OutOfMemory) all old new = InsertsOver (Err fault.OutOfMemory) all old new
InsertEnds (Err (fault.NoAnswer why)) all old new = InsertsOver (Err (fault.NoAnswer why)) all old new
InsertEnds (Err fault.Denied) all old new = InsertsOver (Err fault.Denied) all old new
InsertEnds (Err fault.SinkFault) all old new = InsertsOver (Err fault.SinkFault) all old new

-- All that `pqinsert` uses of the outside.
pub record InsertRecord : Type 0 where
  pub outside : Outside
  pub log : SinkRecord

abbrev pub insert_tells : Outside → SinkRecord → InsertRecord
insert_tells outside log = record { outside = outside; log = log }

-- The files were taken as far as the end says, and the number and the log tell how it ended.
pub record Inserts (code : ℕ) (all : Inserting) (old new : InsertRecord) : Type 0 where
  pub ending : Result Bool InsertFault
  pub ends : InsertEnds ending all old.outside new.outside
  pub reports : ReportsBecause (status_of ending) code old.log new.log

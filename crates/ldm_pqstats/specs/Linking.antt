-- The hours, sent over a second connection.
use Rattle.std.specs.Prelude.{◌≡◌, ◌⊎◌, ℕ, Bool, false, List, [], Result, Ok, Err}
use Rattle.ldm_outside.specs.Dial.{Asked}
use Rattle.ldm_outside.specs.Link.{LinkRecord}
use Rattle.ldm_relay.specs.declared.message.PutAnswer.{PutAnswer}
use Rattle.ldm_stats.specs.Report.{hours_of}
use Rattle.ldm_stats.specs.Table.{Table}
use Rattle.ldm_tools.specs.Asking.{IsLinked, IsUnreached}
use Rattle.ldm_pqstats.specs.declared.end.SendFault.{SendFault}
use Rattle.ldm_pqstats.specs.declared.end.SendFault.TheVariants.{Unreached, OutOfMemory, TooLong, Put}
use Rattle.ldm_pqstats.specs.Owing.{Completes}
use Rattle.ldm_pqstats.specs.Sending.{Outside, Sends, moment_of}

-- there is an hour to send
abbrev pub HasHours : Table → Type 0
HasHours stats = ¬ (hours_of stats.entries ≡ [])

-- The dial was asked once, and connected a link. The hours were sent over it, and it was given back as it was left.
pub record SendsOver (result : Result Bool SendFault) (peer : Asked) (stats : Table) (old new : Outside) : Type 0 where
  pub some : HasHours stats
  pub came : LinkRecord
  pub left : LinkRecord
  pub linked : IsLinked peer came left old.net new.net
  pub given : List ℕ
  pub answers : List PutAnswer
  pub sends : Sends result stats (hours_of stats.entries) (moment_of came old [] []) (moment_of left new given answers)
  pub completes : Completes result stats came old new

-- No link was connected, and nothing was sent or written.
pub record ReachesNone (peer : Asked) (stats : Table) (old new : Outside) : Type 0 where
  pub some : HasHours stats
  pub unreached : IsUnreached peer old.net new.net
  pub others : new ≡ record old { net = new.net }

-- Nothing is connected where there is no hour, or no memory to begin.
abbrev pub SendsHours : Result Bool SendFault → Asked → Table → Outside → Outside → Type 0
SendsHours (Ok refused) peer stats old new = ((hours_of stats.entries ≡ []) × (refused ≡ false) × (new ≡ old)) ⊎ SendsOver (Ok refused) peer stats old new
SendsHours (Err Unreached) peer stats old new = ReachesNone peer stats old new
SendsHours (Err OutOfMemory) peer stats old new = (new ≡ old) ⊎ SendsOver (Err OutOfMemory) peer stats old new
SendsHours (Err TooLong) peer stats old new = SendsOver (Err TooLong) peer stats old new
SendsHours (Err (Put why)) peer stats old new = SendsOver (Err (Put why)) peer stats old new

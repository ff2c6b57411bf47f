-- What sending over a link that came does. No caller needs this.
use Rattle.std.specs.Prelude.{◌≤◌, Bool, Result}
use Rattle.ldm_outside.specs.Dial.{DialTakesBack}
use Rattle.ldm_outside.specs.Link.{IsNotClosed, LinkRecord}
use Rattle.ldm_stats.specs.Report.{hours_of}
use Rattle.ldm_stats.specs.Table.{Table}
use Rattle.ldm_pqstats.specs.declared.end.SendFault.{SendFault}
use Rattle.ldm_pqstats.specs.Hours.{Ends, RunsOver}
use Rattle.ldm_pqstats.specs.Sending.{Outside}

-- no count fell
pub record KeepsOutside (old new : Outside) : Type 0 where
  pub net : old.net.faults ≤ new.net.faults
  pub ended : old.net.links.ended ≤ new.net.links.ended
  pub failed : old.net.links.failed ≤ new.net.links.failed
  pub sink : old.sink.faults ≤ new.sink.faults

abbrev pub ends_of : LinkRecord → Outside → Ends
ends_of link outside = record { link = link; sink = outside.sink; clock = outside.clock }

-- The hours were sent over a link that came, and it was given back.
pub record HoldsHours (result : Result Bool SendFault) (stats : Table) (came : LinkRecord) (old new : Outside) : Type 0 where
  pub left : LinkRecord
  pub runs : RunsOver result stats (hours_of stats.entries) (ends_of came old) (ends_of left new)
  pub not_closed : IsNotClosed left
  pub given_back : DialTakesBack left old.net new.net

-- What is seen of a worker at a moment.
use Rattle.std.specs.Prelude.{◌≤◌, ℕ, List, Option}
use Rattle.ldm_outside.specs.Dial.{DialRecord}
use Rattle.ldm_outside.specs.Station.{StationRecord}
use Rattle.ldm_shared.specs.Passes.{PassView}

-- Its pass, what its station tells, and the signature of the last product that it was fed or declined, if there was one.
pub record RequestMoment : Type 0 where
  pub pass : PassView
  pub station : StationRecord
  pub last : Option (List ℕ)

abbrev pub moment : PassView → StationRecord → Option (List ℕ) → RequestMoment
moment pass station last = record { pass = pass; station = station; last = last }

-- the same with another dial
abbrev pub with_dial : DialRecord → RequestMoment → RequestMoment
with_dial dial old = record old { station = record old.station { dial = dial } }

-- No count fell: of faults of the dial and of the log, of links that had ended or failed, and of stops.
pub record KeepsRequestCounts (old new : StationRecord) : Type 0 where
  pub dial : old.dial.faults ≤ new.dial.faults
  pub ended : old.dial.links.ended ≤ new.dial.links.ended
  pub failed : old.dial.links.failed ≤ new.dial.links.failed
  pub log : old.log.faults ≤ new.log.faults
  pub stops : old.gate.stops ≤ new.gate.stops

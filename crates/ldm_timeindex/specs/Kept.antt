-- What is kept of the products of a queue, and what a search looks for.
use Rattle.std.specs.Prelude.{Bool, List, map}
use Rattle.ldm_timeindex.specs.Times.{Queued, at_number, behind_time}
use Rattle.ldm_timeindex.specs.declared.bound.Bound.{Bound}
use Rattle.ldm_timeindex.specs.declared.bound.Bound.TheVariants.{AtLeast, LaterThan}
use Rattle.ldm_timeindex.specs.declared.entry.Entry.{Entry}

-- an entry as the product that it stands for
abbrev pub queued_of : Entry → Queued
queued_of entry = record { n = entry.n; time = entry.time; slot = entry.slot }

abbrev pub all_queued : List Entry → List Queued
all_queued entries = map queued_of entries

-- whether a product reaches a bound
abbrev pub reaches : Bound → Queued → Bool
reaches (AtLeast n) entry = at_number n entry
reaches (LaterThan time) entry = behind_time time entry

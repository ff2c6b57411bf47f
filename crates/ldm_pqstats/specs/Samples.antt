-- Samples for the worked examples.
use Rattle.std.specs.Prelude.{ℕ, List, [], ◌∷◌}
use Rattle.ldm_relay.specs.declared.message.PutAnswer.{PutAnswer}
use Rattle.ldm_relay.specs.declared.message.PutAnswer.TheVariants.{Admitted, Duplicate, Denied}
use Rattle.ldm_stats.specs.Examples.{first, later, second}
use Rattle.ldm_stats.specs.Report.{hours_of}
use Rattle.ldm_stats.specs.Table.{Table}
use Rattle.ldm_stats.specs.Totals.{totals}

-- two products of the first hour of 1 March 2024, and one of the next hour
abbrev pub sample : Table
sample = record { window = 24; hour = 474793; entries = totals 24 (first ∷ second ∷ later ∷ []) }

abbrev pub sample_hours : List ℕ
sample_hours = hours_of sample.entries

-- the answers that two hours are owed
abbrev pub sample_answers : List PutAnswer
sample_answers = Admitted 0 100 0 ∷ Duplicate 0 ∷ []

-- the answers that they are owed where the first is denied
abbrev pub sample_denial : List PutAnswer
sample_denial = Denied ∷ []

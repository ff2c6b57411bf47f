-- What counting a product does.
use Rattle.std.specs.Prelude.{◌≡◌, ◌<◌, ◌≤◌, ◌^◌, List, [], ◌∷◌, ◌++◌, Some}
use Rattle.ldm_gather.specs.declared.taker.Taken.{Taken}
use Rattle.ldm_gather.specs.declared.taker.Taken.TheVariants.{On, Stopped, Worn}
use Rattle.ldm_shared.specs.Givens.{Given}
use Rattle.ldm_gather.specs.Taking.{Hands}
use Rattle.ldm_stats.specs.Joining.{count_of}
use Rattle.ldm_stats.specs.Table.{StandsFor, Table}
use Rattle.ldm_stats.specs.Totals.{Product}
use Rattle.ldm_pqstats.specs.declared.counter.Counter.{Counter}
use Rattle.ldm_pqstats.specs.declared.counter.CountStop.{CountStop}
use Rattle.ldm_pqstats.specs.declared.counter.CountStop.TheVariants.{TooMany, OutOfMemory}

-- what is counted of a product that the cursor gave
abbrev pub counted_of : Given → Product
counted_of given = record { time = given.time; info = given.product.info }

-- A table with a product more. The counts of the table before were few enough.
pub record Adds (product : Product) (old new : Table) : Type 0 where
  pub few : count_of old.entries < 2 ^ 31
  pub window : new.window ≡ old.window
  pub stands : (products : List Product) → StandsFor old products → StandsFor new (products ++ product ∷ [])

-- Why a product was not counted. Want of memory may come at any time.
abbrev pub StopCause : CountStop → Table → Type 0
StopCause TooMany stats = 2 ^ 31 ≤ count_of stats.entries
StopCause OutOfMemory stats = Unit {0}

-- It was added; or it was not, and the table is as it was.
abbrev pub CountsProduct : Taken → Given → Hands Counter (Unit {0}) → Hands Counter (Unit {0}) → Type 0
CountsProduct On given old new = Adds (counted_of given) old.taker.stats new.taker.stats × (new.taker.why ≡ old.taker.why)
CountsProduct Stopped given old new = (why : CountStop) × (new.taker ≡ record old.taker { why = Some why }) × StopCause why old.taker.stats
CountsProduct Worn given old new = ⊥

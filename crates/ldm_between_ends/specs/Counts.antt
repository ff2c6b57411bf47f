-- How many calls the two ends of a feeding make of their queues, at most.
use Rattle.std.specs.Prelude.{ℕ, ◌+◌, ◌*◌}
use Rattle.ldm_types.specs.declared.limits.TheConstants.{LARGEST_ARENA}

-- What a feeder calls that has a queue of so many slots alone, and that waited so often at its end: two calls open its cursor, and one closes
-- it; one gives each queued product, one lets it go, and no more read it than it has bytes; one tells each end.
abbrev pub most_fed : (waits slots : ℕ) → ℕ
most_fed waits slots = 4 + waits + slots * (LARGEST_ARENA + 2)

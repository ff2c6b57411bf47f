-- What contracts see of a `Stats` of the code.
use Rattle.std.specs.Prelude.{◌≤◌, ◌<◌}
use Rattle.ldm_stats.specs.Table.{Table}
use Rattle.ldm_stats.specs.declared.place.TheConstants.{LAST_HOUR}
use Rattle.ldm_stats.specs.declared.stats.TheConstants.{MOST_HOURS}
use Rattle.ldm_stats.specs.declared.stats.Stats.TheInside.{Inside}

abbrev pub table_of : Inside → Table
table_of stats = record { window = stats.window; hour = stats.hour; entries = stats.kept }

abbrev pub IsTable : Inside → Type 0
IsTable stats = (0 < stats.window) × (stats.window ≤ MOST_HOURS) × (stats.hour ≤ LAST_HOUR)

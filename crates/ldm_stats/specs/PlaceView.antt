-- What contracts see of a `Place` of the code.
use Rattle.std.specs.Prelude.{◌≤◌}
use Rattle.ldm_stats.specs.Place.{Place}
use Rattle.ldm_stats.specs.Fronts.{TellsFront}
use Rattle.ldm_stats.specs.declared.place.TheConstants.{LAST_HOUR}
use Rattle.ldm_stats.specs.declared.place.Place.TheInside.{Inside}

abbrev pub place_view : Inside → Place
place_view place = record { hour = place.hour; feed = place.feed.0; origin = place.origin.items }

abbrev pub IsPlace : Inside → Type 0
IsPlace place = (place.hour ≤ LAST_HOUR) × TellsFront place.front place.origin.items

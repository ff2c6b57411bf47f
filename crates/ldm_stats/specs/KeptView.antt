-- What contracts see of the `Kept` of the code.
use Rattle.std.specs.Prelude.{◌≡◌, List}
use Rattle.std.specs.BTreeMap.{IsOrdered}
use Rattle.ldm_stats.specs.Place.{Place, place_cmp}
use Rattle.ldm_stats.specs.Totals.{Total}
use Rattle.ldm_stats.specs.Joining.{count_of}
use Rattle.ldm_stats.specs.declared.kept.Kept.TheInside.{Inside}

abbrev pub kept_view : Inside → List (Place × Total)
kept_view kept = kept.map.entries

abbrev pub IsKept : Inside → Type 0
IsKept kept = IsOrdered place_cmp kept.map × (kept.count ≡ count_of kept.map.entries)

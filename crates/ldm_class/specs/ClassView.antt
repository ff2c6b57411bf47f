-- What a `Class` keeps beside what it was built of.
use Rattle.std.specs.Prelude.{◌≡◌}
use Rattle.std.specs.List.{filter_map}
use Rattle.ldm_class.specs.Searches.{search_of}
use Rattle.ldm_class.specs.declared.class.Class.TheInside.{Inside}

-- a search for each specification with a pattern, in order
abbrev pub HasSearches : Inside → Type 0
HasSearches class = class.searches.items ≡ filter_map search_of class.spec.specs.items

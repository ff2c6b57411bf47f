-- What a `ClassMatcher` keeps beside its class.
use Rattle.std.specs.Prelude.{◌≡◌}
use Rattle.std.specs.List.{filter_map}
use Rattle.ldm_class.specs.Searches.{search_of}
use Rattle.ldm_class.specs.declared.class_matcher.ClassMatcher.TheInside.{Inside}

-- a search for each specification with a pattern, in order
abbrev pub KeepsSearches : Inside → Type 0
KeepsSearches class = class.searches.items ≡ filter_map search_of class.spec.now.specs.items

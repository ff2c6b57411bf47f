-- The searches of a class.
use Rattle.std.specs.Prelude.{Bool, ◌&&◌, Option, Some, None, if◌then◌else◌}
use Rattle.ldm_types.specs.Feed.{feeds_meet}
use Rattle.ldm_types.specs.Info.{Metadata}
use Rattle.ldm_types.specs.declared.class.Spec.{Spec}
use Rattle.ldm_class.specs.Classes.{is_resumption, pattern_of}
use Rattle.ldm_class.specs.declared.search.Search.{Search}
use Rattle.ldm_pattern.specs.Patterns.{found}

-- what is searched for by a specification, if it has a pattern
abbrev pub search_of : Spec → Option Search
search_of spec = if is_resumption spec then None else Some (record { feed = spec.feed; pattern = pattern_of spec })

-- whether a search wants a product
abbrev pub search_wants : Metadata → Search → Bool
search_wants info search = feeds_meet search.feed.0 info.feed && found search.pattern info.ident

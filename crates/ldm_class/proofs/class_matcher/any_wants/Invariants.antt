use Rattle.std.proofs.Common.{◌≡◌, drop}
use Rattle.std.specs.List.{list_any}
use Rattle.ldm_class.specs.Searches.{search_wants}
use Rattle.ldm_class.proofs.class_matcher.any_wants.Given as goal

abbrev pub invariant-loop-search : goal.invariant-loop-search
invariant-loop-search l =
    (l.searches ≡ l.initial.searches)
    × (list_any (search_wants l.info) (drop l.search-index l.searches) ≡ list_any (search_wants l.info) l.initial.searches)

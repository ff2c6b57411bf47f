use Rattle.std.proofs.Common.{◌≡◌, drop}
use Rattle.std.specs.List.{list_any}
use Rattle.ldm_class.specs.Searches.{search_wants}
use Rattle.ldm_class.proofs.class.Class.wants.Given as goal

abbrev pub invariant-loop-search : goal.invariant-loop-search
invariant-loop-search l =
    list_any (search_wants l.info) (drop l.search-index l.search-items) ≡ list_any (search_wants l.info) l.search-items

use Rattle.std.proofs.Common.{◌≡◌, take}
use Rattle.ldm_class.proofs.class_matcher.kept_searches.Given as goal

abbrev pub invariant-loop-search : goal.invariant-loop-search
invariant-loop-search l = l.kept.items ≡ take l.search-index l.searches

use Rattle.std.proofs.Common.{◌≡◌, ◌≤◌, ◌++◌, drop, length}
use Rattle.std.specs.List.{filter_map}
use Rattle.ldm_class.specs.Access.{narrowed}
use Rattle.ldm_class.proofs.reduce.narrowed_specs.Given as goal

abbrev pub invariant-loop-spec : goal.invariant-loop-spec
invariant-loop-spec l =
    (l.left.items ++ filter_map (narrowed l.feeds.0) (drop l.spec-index l.spec-items) ≡ filter_map (narrowed l.feeds.0) l.spec-items)
    × (length l.left.items ≤ l.spec-index)

use Rattle.std.proofs.Common.{false, length, slice_index_or}
use Rattle.std.specs.List.{filter}
use Rattle.ldm_types.specs.Arena.{longest}
use Rattle.ldm_regions.specs.Order.{spaces}
use Rattle.ldm_regions.specs.Links.{in_order}
use Rattle.ldm_regions.proofs.Ways.{Walked, rest_from}
use Rattle.ldm_regions.proofs.links.longest_space_if.Given as goal

abbrev pub invariant-loop-owner : goal.invariant-loop-owner
invariant-loop-owner l =
    Walked (λ u. slice_index_or l.marks u.owner false) l.nodes (length l.marks) l.arena l.owner l.from l.longest (longest (spaces 0 (filter (λ u. slice_index_or l.marks u.owner false) (in_order l.nodes (length l.marks))) l.arena))

abbrev pub decreases-loop-owner : goal.decreases-loop-owner
decreases-loop-owner l = length (rest_from l.nodes (length l.marks) l.owner)

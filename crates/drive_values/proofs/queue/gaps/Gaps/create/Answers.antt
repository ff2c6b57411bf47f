use Rattle.std.proofs.Common.{false, get_or, sym, ap, ◌∙◌}
use Rattle.std.specs.FinSet as set
use Rattle.ldm_freelist.specs.Pairs.{Pairs, pair_cmp}
use Rattle.drive_values.proofs.Pairs.{at, none_marked}
use Rattle.drive_values.proofs.queue.gaps.Gaps.create.Goals as goal

pub invariant_of-result-clause-counted : goal.invariant_of-result-clause-counted
invariant_of-result-clause-counted c = ap (λ (s : Pairs). set.len s.members) c.in_ok-tree.ensures ∙ set.len-empty pair_cmp

pub invariant_of-result-clause-agree : goal.invariant_of-result-clause-agree
invariant_of-result-clause-agree c = λ place.
    ap (λ items. get_or items place false) (c.in_ok-has.ensures.items_if_clones_equal (λ y e. e))
    ∙ none_marked c.args.places place
    ∙ sym (ap (λ (s : Pairs). set.contains s.members (at place)) c.in_ok-tree.ensures ∙ set.contains-empty pair_cmp (at place))

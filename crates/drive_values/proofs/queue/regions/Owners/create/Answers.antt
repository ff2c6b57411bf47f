use Rattle.std.proofs.Common.{false, get_or, is_some, sym, ap, ◌∙◌}
use Rattle.std.specs.FinMap as map
use Rattle.std.specs.Ordering.{nat_cmp}
use Rattle.ldm_regions.specs.Layout.{Layout}
use Rattle.drive_values.proofs.Marks.{none_marked}
use Rattle.drive_values.proofs.queue.regions.Owners.create.Goals as goal

pub invariant_of-result-clause-agree : goal.invariant_of-result-clause-agree
invariant_of-result-clause-agree c = λ k.
    ap (λ items. get_or items k false) (c.in_ok-owns.ensures.items_if_clones_equal (λ y e. e))
    ∙ none_marked c.args.slots k
    ∙ sym (ap is_some (ap (λ (layout : Layout). map.get layout.owned k) c.in_ok-regions.ensures.empty ∙ map.get-empty nat_cmp k))

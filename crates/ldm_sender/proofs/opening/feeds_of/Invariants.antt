use Rattle.std.proofs.Common.{◌≡◌, bit_or, drop, fold, map}
use Rattle.ldm_types.specs.declared.class.Spec.{Spec}
use Rattle.ldm_sender.proofs.opening.feeds_of.Given as goal

abbrev pub invariant-loop-spec : goal.invariant-loop-spec
invariant-loop-spec l =
    fold bit_or l.feeds (map (λ (spec : Spec). spec.feed.0)
    (drop l.spec-index l.spec-items)) ≡ fold bit_or 0 (map (λ (spec : Spec). spec.feed.0) l.spec-items)

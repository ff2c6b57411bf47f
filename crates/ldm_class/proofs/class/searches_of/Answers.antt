use Rattle.std.proofs.Common.{◌≡◌, ◌∙◌, true, false, not, sym, ap, arith}
use Rattle.ldm_class.specs.Classes.{is_resumption}
use Rattle.ldm_class.proofs.Building.{with_resumption, with_pattern}
use Rattle.ldm_class.proofs.class.searches_of.Goals as goal
use Rattle.ldm_class.proofs.class.searches_of.Goals.{then-is_none+in_ok-pattern+in_ok-push, else-is_none}

pub loop-place-preserved : goal.loop-place-preserved
loop-place-preserved c =
    let spec = c.index-specs-place.result in
    let here = c.loop-place-test.true in
    elim c.if-is_none.branch [
      | then-is_none+in_ok-pattern+in_ok-push w ↦
          let plain : is_resumption spec ≡ false = sym c.resumption.ensures.is ∙ c.is_none.ensures ∙ ap not w.if-is_none.true in
          let means = rw w.as_slice.ensures.value at w.in_ok-pattern.ensures.1 in
          rw (w.searches-is, w.in_ok-push.ensures.items, w.in_ok-pattern.ensures.0, w.as_slice.ensures.value)
          (with_pattern c.args.specs.now c.loop-place.place spec (omega arith) c.index-specs-place.is c.loop-place.searches.items plain means c.loop-place.invariant)
      | else-is_none w ↦
          let named : is_resumption spec ≡ true = sym c.resumption.ensures.is ∙ c.is_none.ensures ∙ ap not w.if-is_none.false in
          rw w.searches-is
          (with_resumption c.args.specs.now c.loop-place.place spec (omega arith) c.index-specs-place.is c.loop-place.searches.items named c.loop-place.invariant)
    ]

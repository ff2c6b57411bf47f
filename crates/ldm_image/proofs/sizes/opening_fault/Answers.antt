use Rattle.std.proofs.Common.{◌≢◌, ◌≤◌, ◌≡◌, ◌⊎◌, inl, inr, length, arith}
use Rattle.std.specs.Prelude.{slice_index}
use Rattle.ldm_image.specs.Image.{opening}
use Rattle.ldm_image.proofs.HeadLemmas.{bad_opening, clean_head, differs_head, opening_front}
use Rattle.ldm_image.proofs.sizes.opening_fault.Goals as goal
use Rattle.ldm_image.proofs.sizes.opening_fault.Goals.{else-head-gt5-via-then-head-gt5+else-head-ne-CLEAN, else-head-gt5-via-else-head-gt5}
use Rattle.ldm_image.proofs.sizes.opening_fault.Goals.{then-head-i-via-then-head-i, then-head-i-via-else-head-i+then-head-i-2}

pub returns-then-head-i : goal.returns-then-head-i
returns-then-head-i c =
    λ file is.
    let head = c.args.head.now in
    let i = c.loop-i.i in
    let gate : (length head ≤ 5) ⊎ (slice_index head 5 ≡ 1) =
    elim c.else-head-gt5.branch [
      | else-head-gt5-via-then-head-gt5+else-head-ne-CLEAN w ↦ inr (omega (arith, w.if-head-ne-CLEAN.false))
      | else-head-gt5-via-else-head-gt5 w ↦ inl (omega (arith, w.if-head-gt5.false))
    ] in
    let differs : (length head ≤ i) ⊎ (slice_index head i ≢ slice_index (opening 1) i) =
    elim c.then-head-i.branch [
      | then-head-i-via-then-head-i w ↦ inl (omega (arith, w.if-head-i.true))
      | then-head-i-via-else-head-i+then-head-i-2 w ↦ inr w.if-head-i-2.true
    ] in
    bad_opening i file c.loop-i-test.true (clean_head head file is gate) (opening_front i head file c.loop-i-test.true is c.loop-i.invariant.2)
    (differs_head i head file c.loop-i-test.true is differs)

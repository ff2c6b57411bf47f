use Rattle.std.proofs.Common.{◌∙◌, ◌≤◌, length, arith}
use Rattle.ldm_stats.specs.Fronts.{AreBytes}
use Rattle.ldm_stats.proofs.Fronts.{eight_are}
use Rattle.ldm_stats.proofs.place.front_of.Goals as goal

pub returns : goal.returns
returns c = λ some.
    let long : 8 ≤ length c.args.origin.now = omega (arith, c.if-origin-lt8.false) in
    let bytes : AreBytes c.args.origin.now = λ k. omega (arith, c.shared_slice_known-1.given k) in
    (long, c.from_be_bytes.ensures ∙ eight_are c.args.origin.now long, bytes)

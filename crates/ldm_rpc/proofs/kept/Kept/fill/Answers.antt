use Rattle.std.proofs.Common.{◌≡◌, ◌≤◌, ◌+◌, ◌-◌, ◌∙◌, ℕ, List, length, length-take-le, take, drop, arith, ap, subst, sym}
use Rattle.std.proofs.lemmas.Grind.{common_steps}
use Rattle.std.proofs.lemmas.List.{length-drop}
use Rattle.ldm_rpc.proofs.Filling.{more_kept}
use Rattle.ldm_rpc.proofs.kept.Kept.fill.Goals as goal

pub invariant_of-self-2 : goal.invariant_of-self-2
invariant_of-self-2 g c =
    let at = c.self.inside.filled in
    let n = c.fill_behind-count.result in
    let items = c.fill_behind-count.new.buffer.items in
    let came = c.self.inside.came.bytes in
    let piece = take (at + n - at) (drop at c.deref.result.now) in
    let count : at + n - at ≡ n = omega arith in
    let is : piece ≡ take n (drop at items) = ap (λ k. take k (drop at c.deref.result.now)) count ∙ ap (λ (x : List ℕ). take n (drop at x)) c.deref.ensures.value in
    let behind : n ≤ length (drop at items) = grind (arith, common_steps, length-drop at items) in
    let len : length piece ≡ n = ap length is ∙ length-take-le n (drop at items) behind in
    let kept = more_kept at n c.lengthen.new.buffer.items items came piece (c.self.invariant.all c.if-self.false) c.fill_behind-count.ensures.front
    (c.lengthen.ensures.front ∙ c.self.invariant.front) is len in
    record {
      room = grind (arith, common_steps);
      front = subst (λ (x : List ℕ). take (at + n) items ≡ take (at + n) x) (sym c.then-self-inside.ensures) kept;
      enough = grind (arith, common_steps);
      all = grind (arith, common_steps);
      len = grind (arith, common_steps);
    }

use Rattle.std.proofs.Common.{true, false, ◌+◌, ◌-◌, ◌<◌, length, slice_set, sym, ap, ◌∙◌, subst, arith}
use Rattle.std.specs.FinSet as set
use Rattle.std.proofs.lemmas.List.{get_or_read}
use Rattle.drive_values.proofs.Pairs.{at, Agree, agree_added, agree_removed, count_added, count_removed, told}
use Rattle.drive_values.proofs.queue.gaps.Gaps.toggle.Goals as goal

pub invariant_of-self : goal.invariant_of-self
invariant_of-self c =
    let before = c.args.self.now in
    let members = before.tree.members in
    let within : c.args.place < length before.has.items = omega (arith, c.if-at-len.false, c.len.ensures, before.has.ok.0) in
    let there = sym (before.agree c.args.place) ∙ sym (get_or_read before.has.items c.args.place c.index.result.now within c.index.ensures false) ∙ c.if-index.true in
    let pair = told {p = at c.args.place} c.pair_of-extent.ensures.extent c.pair_of-extent.ensures.offset in
    let now = c.remove.ensures.members ∙ ap (set.remove members) pair in
    record {
      roomy = c.remove.ensures.room ∙ before.roomy;
      counted = ap set.len now ∙ count_removed members (at c.args.place) there ∙ ap (λ n. n - 1) before.counted ∙ sym c.saturating_sub-self.ensures;
      agree = subst (Agree (slice_set before.has.items c.args.place false)) (sym now) (agree_removed before.has.items members c.args.place within before.agree);
    }

pub invariant_of-self-then-self : goal.invariant_of-self-then-self
invariant_of-self-then-self c =
    let before = c.args.self.now in
    let members = before.tree.members in
    let within : c.args.place < length before.has.items = omega (arith, c.if-at-len.false, c.len.ensures, before.has.ok.0) in
    let none = sym (before.agree c.args.place) ∙ sym (get_or_read before.has.items c.args.place c.index.result.now within c.index.ensures false) ∙ c.if-index.false in
    let pair = told {p = at c.args.place} c.pair_of-extent.ensures.extent c.pair_of-extent.ensures.offset in
    let now = c.add.ensures.members ∙ ap (set.insert members) pair in
    record {
      roomy = c.add.ensures.room ∙ before.roomy;
      counted = ap set.len now ∙ count_added members (at c.args.place) none ∙ ap (λ n. n + 1) before.counted;
      agree = subst (Agree (slice_set before.has.items c.args.place true)) (sym now) (agree_added before.has.items members c.args.place within before.agree);
    }

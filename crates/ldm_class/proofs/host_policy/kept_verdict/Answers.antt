use Rattle.std.proofs.Common.{◌∙◌, Some, get_or, sym, ap, arith}
use Rattle.std.proofs.Math.ListN.{set}
use Rattle.std.proofs.lemmas.List.{set-get_or}
use Rattle.std.specs.Option.{option_or}
use Rattle.ldm_types.specs.Feed.{feeds_meet}
use Rattle.ldm_class.specs.declared.host_policy.KeptRule.{KeptRule}
use Rattle.ldm_class.proofs.KeptRules.{met_only, not_met}
use Rattle.ldm_class.proofs.host_policy.kept_verdict.Goals as goal
use Rattle.ldm_class.proofs.host_policy.kept_verdict.Goals.{then-meets+else-passes, else-meets}

pub loop-rule-preserved : goal.loop-rule-preserved
loop-rule-preserved c =
    let info = c.args.info.now in
    let kept = c.loop-rule.kept in
    let place = c.loop-rule.rule-index in
    let rule = get_or kept place c.rule-item.result in
    let feed = ap (feeds_meet rule.feed.0) (sym c.feed.ensures) ∙ sym c.meets.ensures.value in
    elim c.if-meets.branch [
      | then-meets+else-passes w ↦
          let same = w.kept-is ∙ ap (λ (x : KeptRule). set kept place x) w.passes.ensures.same ∙ set-get_or kept place c.rule-item.result in
          let first = w.first_met-is ∙ w.or-first_met.ensures ∙ ap (λ (x : KeptRule). option_or c.loop-rule.first_met (Some x.number)) w.passes.ensures.same in
          let stops = sym w.passes.ensures.passes ∙ w.if-passes.false in
          rw (same, first) (met_only info c.args.kept.now kept place c.loop-rule.first_met c.rule-item.result (omega arith) (feed ∙ w.if-meets.true) stops c.loop-rule.invariant)
      | else-meets w ↦
          let same = w.kept-is ∙ set-get_or kept place c.rule-item.result in
          rw (same, w.first_met-is) (not_met info c.args.kept.now kept place c.loop-rule.first_met c.rule-item.result (omega arith) (feed ∙ w.if-meets.false) c.loop-rule.invariant)
    ]

use Rattle.std.proofs.Common.{◌∙◌, refl}
use Rattle.ldm_outside.specs.declared.gate.Go.TheVariants as go
use Rattle.ldm_session.proofs.CallerLemmas.{IdledAll-one}
use Rattle.ldm_shared.proofs.Using.{same_then}
use Rattle.ldm_pqact.specs.declared.end.ActEnd.TheVariants as end
use Rattle.ldm_pqact.proofs.Stretches.{asks_no_gate, of_entries, stretches_begin, stretches_end, stretches_go_on}
use Rattle.ldm_pqact.proofs.acting.Follower.follow.Goals as goal

pub loop-init : goal.loop-init
loop-init g c = (stretches_begin _ _ _ _ c.requires.cursor c.requires.keeps, refl, refl)

pub loop-preserved : goal.loop-preserved
loop-preserved g c =
    let acts = of_entries end.Stopped _ _ _ _ _ c.loop.invariant.1 c.in-Stopped.ensures.acts in (
      stretches_go_on c.products_stay.ensures.stays _ _ _ _ _ c.loop.invariant.0 acts c.in-On.ensures.answered c.in-Stopped.ensures.kept c.in-Stopped.ensures.keeps,
      c.in-Stopped.ensures.entries ∙ c.loop.invariant.1,
      c.loop.invariant.2,
    )

pub returns-in-Stop-clause-follows : goal.returns-in-Stop-clause-follows
returns-in-Stop-clause-follows g c =
    let acts = of_entries end.Stopped _ _ _ _ _ c.loop.invariant.1 c.in-Stopped.ensures.acts in
    stretches_end c.products_stay.ensures.stays _ _ _ _ _ c.loop.invariant.0 end.Stopped acts (IdledAll-one go.Stop _ _ c.in-Stop.ensures.answered)

pub returns-in_default : goal.returns-in_default
returns-in_default g c = record {
  kept = same_then c.args.pass.now c.loop.pass c.pending.new.pass c.loop.invariant.0.same c.pending.ensures.kept;
  reader = c.loop.invariant.2;
  keeps = c.pending.ensures.keeps;
  follows =
      let acts = of_entries c.pending.result _ _ _ _ _ c.loop.invariant.1 c.pending.ensures.acts in
      stretches_end c.products_stay.ensures.stays _ _ _ _ _ c.loop.invariant.0 c.pending.result acts (asks_no_gate c.pending.result _ c.in_default.not-Stopped);
}

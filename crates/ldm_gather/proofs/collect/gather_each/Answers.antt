use Rattle.std.proofs.Common.{inl, inr, refl}
use Rattle.ldm_gather.proofs.collect.gather_each.Goals as goal

pub returns-in-Ok-clause-ends : goal.returns-in-Ok-clause-ends
returns-in-Ok-clause-ends g c = inr (record {
  asking = c.args.asking;
  is_asking = record { is_order = refl; is_name = refl };
  k = c.in-Ok.gatherer.reader.k;
  first = c.in-Ok.gatherer.pass;
  opened = c.in-Ok.ensures.opened;
  collects = c.collect.ensures.collects;
})

pub returns-in-Err-clause-ends : goal.returns-in-Err-clause-ends
returns-in-Err-clause-ends g c = inl (record { fault = c.in-Err.fault; is = refl; cause = c.in-Err.ensures.faults; others = refl })

use Rattle.std.proofs.Common.{inl, inr, refl}
use Rattle.ldm_gather.specs.Cats.{cat_lent, with_cat}
use Rattle.ldm_gather.proofs.Written.{writes-by}
use Rattle.ldm_gather.proofs.command.cat.Goals as goal

pub returns-in-Ok-clause-ends : goal.returns-in-Ok-clause-ends
returns-in-Ok-clause-ends g c =
    let old = cat_lent (g.N.Dial.tells c.args.net.now) c.args.sink.now (g.E.Sink.tells c.args.log.now) (g.C.Clock.tells c.args.clock.now) in
    let new = cat_lent (g.N.Dial.tells c.gather_each-collected.new.net) c.gather_each-collected.new.lent (g.E.Sink.tells c.gather_each-collected.new.log) (g.C.Clock.tells c.gather_each-collected.new.clock) in
    let gathers = c.gather_each-collected.ensures.ends in
    inr (record {
      cat = c.in-Ok.cat;
      left = c.gather_each-collected.result.taker;
      gathers = gathers;
      writes = writes-by g.K.Sink.tells _ _ _ (with_cat c.in-Ok.cat old) (with_cat c.gather_each-collected.result.taker new) gathers;
    })

pub returns-in-Ok-clause-sink_kept : goal.returns-in-Ok-clause-sink_kept
returns-in-Ok-clause-sink_kept g c =
    let old = cat_lent (g.N.Dial.tells c.args.net.now) c.args.sink.now (g.E.Sink.tells c.args.log.now) (g.C.Clock.tells c.args.clock.now) in
    let new = cat_lent (g.N.Dial.tells c.gather_each-collected.new.net) c.gather_each-collected.new.lent (g.E.Sink.tells c.gather_each-collected.new.log) (g.C.Clock.tells c.gather_each-collected.new.clock) in
    let writes = writes-by g.K.Sink.tells _ _ _ (with_cat c.in-Ok.cat old) (with_cat c.gather_each-collected.result.taker new) c.gather_each-collected.ensures.ends in
    writes.kept

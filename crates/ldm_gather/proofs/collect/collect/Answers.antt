use Rattle.std.proofs.Common.{refl, subst}
use Rattle.ldm_gather.specs.declared.order.Order.{Order}
use Rattle.ldm_gather.specs.EachHandling.{EachHandles}
use Rattle.ldm_gather.specs.EachRuns.{each_at, situation_of, stage_in, within}
use Rattle.ldm_gather.specs.Orders.{order_view}
use Rattle.ldm_gather.specs.Runs.{Connects}
use Rattle.ldm_gather.specs.Taking.{hands_of}
use Rattle.ldm_gather.proofs.Connected.{took-if, why-if}
use Rattle.ldm_gather.proofs.collect.collect.Goals as goal

pub ended-requires : goal.ended-requires
ended-requires g c =
    let it = c.args.gatherer in
    let now = c.gather-gathered.new in
    let connects = c.gather-gathered.ensures.connects in
    let each = each_at c.args.asking it.reader.k c.args.taker in
    let old = situation_of (hands_of c.args.taker c.args.lent.now) (g.N.Dial.tells c.args.net.now) (g.E.Sink.tells c.args.log.now) (g.C.Clock.tells c.args.clock.now) in
    let new = situation_of (hands_of now.handler.taker now.first) (g.N.Dial.tells now.net) (g.E.Sink.tells now.log) (g.C.Clock.tells now.clock) in
    why-if g.T.Taker.takes c.gather-gathered.result it.reader.k (stage_in each it.pass old) (stage_in now.handler connects.0 new)
    (took-if g.T.Taker.takes c.products_stay.ensures.stays c.gather-gathered.result (order_view it.order) each now.handler it.pass connects.0 old new c.requires.counted connects.1)

pub returns-clause-collects : goal.returns-clause-collects
returns-clause-collects g c =
    let it = c.args.gatherer in
    let now = c.gather-gathered.new in
    let connects = c.gather-gathered.ensures.connects in
    let each = each_at c.args.asking it.reader.k c.args.taker in
    let old = situation_of (hands_of c.args.taker c.args.lent.now) (g.N.Dial.tells c.args.net.now) (g.E.Sink.tells c.args.log.now) (g.C.Clock.tells c.args.clock.now) in
    let new = situation_of (hands_of now.handler.taker now.first) (g.N.Dial.tells now.net) (g.E.Sink.tells now.log) (g.C.Clock.tells now.clock) in
    record {
      gathered = c.gather-gathered.result;
      left = now.handler;
      last = connects.0;
      connects =
          subst (λ (order : Order). Connects (EachHandles g.T.Taker.takes) c.gather-gathered.result (order_view order) (within each it.pass old) (within now.handler connects.0 new))
          c.requires.order connects.1;
      took =
          took-if g.T.Taker.takes c.products_stay.ensures.stays c.gather-gathered.result (order_view it.order) each now.handler it.pass connects.0 old new c.requires.counted connects.1;
      taker = refl;
      is_end = c.ended.ensures;
    }

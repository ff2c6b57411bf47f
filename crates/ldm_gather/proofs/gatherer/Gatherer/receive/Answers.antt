use Rattle.std.proofs.Common.{◌∙◌, refl, sym}
use Rattle.ldm_gather.specs.declared.end.GatherEnd.TheVariants as end
use Rattle.ldm_gather.specs.Orders.{asks_for, order_view}
use Rattle.ldm_gather.specs.Scene.{lent_of, moment_of, scene_of}
use Rattle.ldm_gather.proofs.Completing.{gathered}
use Rattle.ldm_gather.proofs.Ending.{asked, ran-out, unsent}
use Rattle.ldm_gather.proofs.gatherer.Gatherer.receive.Goals as goal

pub returns-then-is_err-clause-gathered : goal.returns-then-is_err-clause-gathered
returns-then-is_err-clause-gathered g c =
    let it = c.args.self in
    let old = lent_of (scene_of c.args.handler.now c.args.first.now c.args.second.now it.pass (g.E.Sink.tells c.args.log.now)) (g.K.Link.tells c.args.link.now) (g.C.Clock.tells c.args.clock.now) in (
      it.pass,
      gathered g.W.Handler.handles _ (asks_for (order_view it.order)) _ _
          (unsent g.W.Handler.handles (asks_for (order_view it.order)) c.send_all.result c.as_slice.result.now it.buffers.out.items old
          (g.K.Link.tells c.send_all.new.link) (sym c.is_err.ensures.value ∙ c.if-is_err.true) c.as_slice.ensures.value c.requires.open.owed c.send_all.ensures.sent),
    )

pub returns-in-Some-clause-gathered : goal.returns-in-Some-clause-gathered
returns-in-Some-clause-gathered g c =
    let it = c.args.self in
    let now = c.run-ended.new in
    let old = lent_of (scene_of c.args.handler.now c.args.first.now c.args.second.now it.pass (g.E.Sink.tells c.args.log.now)) (g.K.Link.tells c.args.link.now) (g.C.Clock.tells c.args.clock.now) in
    let new = lent_of (scene_of now.handler now.first now.second now.self.pass (g.E.Sink.tells now.log)) (g.K.Link.tells now.link) (g.C.Clock.tells now.clock) in (
      now.self.pass,
      gathered g.W.Handler.handles _ (asks_for (order_view it.order)) _ _
          (asked g.W.Handler.handles c.in-Some.end (asks_for (order_view it.order)) c.send_all.result c.as_slice.result.now it.buffers.out.items
          it.receiver now.self.receiver old new (g.K.Link.tells c.send_all.new.link) (sym c.is_err.ensures.value ∙ c.if-is_err.false) c.as_slice.ensures.value
          c.requires.open.owed c.send_all.ensures.sent c.requires.open.receiver c.in-Some.ensures.runs),
    )

pub returns-in-None-clause-gathered : goal.returns-in-None-clause-gathered
returns-in-None-clause-gathered g c =
    let it = c.args.self in
    let now = c.run-ended.new in
    let old = lent_of (scene_of c.args.handler.now c.args.first.now c.args.second.now it.pass (g.E.Sink.tells c.args.log.now)) (g.K.Link.tells c.args.link.now) (g.C.Clock.tells c.args.clock.now) in
    let mid = lent_of (scene_of now.handler now.first now.second now.self.pass (g.E.Sink.tells now.log)) (g.K.Link.tells now.link) (g.C.Clock.tells now.clock) in
    let new = record mid { scene = record mid.scene { pass = c.end.new.pass } } in (
      c.end.new.pass,
      gathered g.W.Handler.handles _ (asks_for (order_view it.order)) _ _
          (asked g.W.Handler.handles (end.Received c.end.result) (asks_for (order_view it.order)) c.send_all.result c.as_slice.result.now it.buffers.out.items
          it.receiver now.self.receiver old new (g.K.Link.tells c.send_all.new.link) (sym c.is_err.ensures.value ∙ c.if-is_err.false) c.as_slice.ensures.value
          c.requires.open.owed c.send_all.ensures.sent c.requires.open.receiver
          (ran-out g.W.Handler.handles c.end.result (moment_of it.receiver (record old { link = g.K.Link.tells c.send_all.new.link })) (moment_of now.self.receiver mid)
          c.end.new.pass c.in-None.ensures.runs c.in-None.ensures.live c.end.ensures.ends)),
    )

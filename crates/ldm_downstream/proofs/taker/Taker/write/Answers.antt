use Rattle.std.proofs.Common.{sym, ◌∙◌}
use Rattle.ldm_downstream.proofs.Written.{sends-failed, sends-all, writes-failed, writes-all}
use Rattle.ldm_downstream.proofs.taker.Taker.write.Goals as goal

pub returns-then-is_err-clause-writes : goal.returns-then-is_err-clause-writes
returns-then-is_err-clause-writes g c =
    sends-failed c.send_all.result c.as_slice.result.now c.args.self.now.out.items (g.K.Link.tells c.args.link.now) (g.K.Link.tells c.send_all.new.link) (g.E.Sink.tells c.args.log.now)
    (sym c.is_err.ensures.value ∙ c.if-is_err.true) c.as_slice.ensures.value c.send_all.ensures.sent

pub returns-then-is_err-2-clause-writes : goal.returns-then-is_err-2-clause-writes
returns-then-is_err-2-clause-writes g c =
    let link = g.K.Link.tells c.args.link.now in
    let sent_link = g.K.Link.tells c.send_all.new.link in
    let sent = sends-all c.send_all.result c.as_slice.result.now link sent_link (sym c.is_err.ensures.value ∙ c.if-is_err.false) c.send_all.ensures.sent in
    writes-failed c.write_all.result c.as_slice-2.result.now c.args.self.now.notes.items c.args.self.now.out.items link sent_link (g.E.Sink.tells c.args.log.now)
    (g.E.Sink.tells c.write_all.new.sink) (sym c.is_err-2.ensures.value ∙ c.if-is_err-2.true) c.as_slice-2.ensures.value
    (rw (← c.as_slice.ensures.value) sent) c.write_all.ensures.written

pub returns-clause-writes : goal.returns-clause-writes
returns-clause-writes g c =
    let link = g.K.Link.tells c.args.link.now in
    let sent_link = g.K.Link.tells c.send_all.new.link in
    let sent = sends-all c.send_all.result c.as_slice.result.now link sent_link (sym c.is_err.ensures.value ∙ c.if-is_err.false) c.send_all.ensures.sent in
    rw (← c.as_slice.ensures.value, ← c.as_slice-2.ensures.value)
    (writes-all c.write_all.result c.as_slice-2.result.now c.as_slice.result.now link sent_link (g.E.Sink.tells c.args.log.now)
    (g.E.Sink.tells c.write_all.new.sink) (sym c.is_err-2.ensures.value ∙ c.if-is_err-2.false) sent c.write_all.ensures.written)

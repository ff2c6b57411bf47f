use Rattle.std.proofs.Common.{◌≡◌, ◌∙◌, ◌≤◌, length, take, drop, None, refl, ap, arith, rules}
use Rattle.ldm_downstream.specs.Pieces.{Piece}
use Rattle.ldm_downstream.specs.ReceiverView.{moment}
use Rattle.ldm_gather.specs.Scene.{lent_of, moment_of, scene_of}
use Rattle.ldm_gather.proofs.Cursors.{pushes-quiet, quietly-keeps}
use Rattle.ldm_gather.proofs.Turning.{comes-of, pushes-live, take-into, taken-turns, untold}
use Rattle.ldm_gather.proofs.gatherer.Gatherer.turn.Goals as goal

pub returns-in-Some-clause-turns : goal.returns-in-Some-clause-turns
returns-in-Some-clause-turns g c =
    let scene = scene_of c.args.handler.now c.args.first.now c.args.second.now c.args.self.now.pass (g.E.Sink.tells c.args.log.now) in
    let n = c.in-Bytes.count in
    let into = c.recv.new.into in
    let came : n ≤ length into = c.in-Bytes.ensures.given.1 in
    let within : n ≤ c.args.self.now.buffers.piece.len = first_of (omega arith, search rules, grind arith) in
    let same : take n c.deref.result.now ≡ take n into =
    ap (take n) c.deref.ensures.value ∙ take-into n c.args.self.now.buffers.piece.len into (drop (length into) c.args.self.now.buffers.piece.items) within came in
    let piece : Piece = record { now = c.now-now.result; bytes = take n c.deref.result.now } in
    let comes = comes-of n into (take n c.deref.result.now) c.now-now.result c.args.self.now.receiver c.push-pushed.new.self scene c.push-pushed.new.pass
    (g.K.Link.tells c.args.link.now) (g.K.Link.tells c.recv.new.self) (g.C.Clock.tells c.args.clock.now) (g.C.Clock.tells c.now-now.new.self)
    c.args.self.now.buffers.out.items c.args.self.now.buffers.notes.items c.push-pushed.new.out.items c.push-pushed.new.notes.items
    c.in-Bytes.ensures.given same c.now-now.ensures c.requires.ready c.push-pushed.ensures.pushes in
    let old = moment_of c.args.self.now.receiver (lent_of scene (g.K.Link.tells c.args.link.now) (g.C.Clock.tells c.args.clock.now)) in
    let pushed = moment_of c.push-pushed.new.self (lent_of (record scene { pass = c.push-pushed.new.pass }) (g.K.Link.tells c.recv.new.self) (g.C.Clock.tells c.now-now.new.self)) in
    let new = record pushed { link = g.K.Link.tells c.tell.new.link; scene = record pushed.scene { log = g.E.Sink.tells c.tell.new.log } } in
    untold g.W.Handler.handles c.in-Some.fault piece c.push-pushed.new.out.items c.push-pushed.new.notes.items old pushed new comes c.in-Some.ensures.tells refl

pub handle-handled-requires-clause-has_cursor : goal.handle-handled-requires-clause-has_cursor
handle-handled-requires-clause-has_cursor g c =
    let piece : Piece = record { now = c.now-now.result; bytes = take c.in-Bytes.count c.deref.result.now } in
    let before = moment c.args.self.now.receiver.receiving c.args.self.now.pass c.args.self.now.buffers.out c.args.self.now.buffers.notes in
    let after = moment c.push-pushed.new.self.receiving c.push-pushed.new.pass c.push-pushed.new.out c.push-pushed.new.notes in
    quietly-keeps c.args.self.now.pass c.push-pushed.new.pass (g.W.Handler.cursor c.args.handler.now) None
    (pushes-quiet c.push-pushed.new.self.end piece c.args.self.now.receiver.hand c.push-pushed.new.self.hand before after
    (pushes-live piece c.args.self.now.receiver c.push-pushed.new.self before after c.requires.live c.push-pushed.ensures.pushes))
    c.requires.has_cursor

pub returns-clause-turns : goal.returns-clause-turns
returns-clause-turns g c =
    let scene = scene_of c.args.handler.now c.args.first.now c.args.second.now c.args.self.now.pass (g.E.Sink.tells c.args.log.now) in
    let n = c.in-Bytes.count in
    let into = c.recv.new.into in
    let came : n ≤ length into = c.in-Bytes.ensures.given.1 in
    let within : n ≤ c.args.self.now.buffers.piece.len = first_of (omega arith, search rules, grind arith) in
    let same : take n c.deref.result.now ≡ take n into =
    ap (take n) c.deref.ensures.value ∙ take-into n c.args.self.now.buffers.piece.len into (drop (length into) c.args.self.now.buffers.piece.items) within came in
    let piece : Piece = record { now = c.now-now.result; bytes = take n c.deref.result.now } in
    let comes = comes-of n into (take n c.deref.result.now) c.now-now.result c.args.self.now.receiver c.push-pushed.new.self scene c.push-pushed.new.pass
    (g.K.Link.tells c.args.link.now) (g.K.Link.tells c.recv.new.self) (g.C.Clock.tells c.args.clock.now) (g.C.Clock.tells c.now-now.new.self)
    c.args.self.now.buffers.out.items c.args.self.now.buffers.notes.items c.push-pushed.new.out.items c.push-pushed.new.notes.items
    c.in-Bytes.ensures.given same c.now-now.ensures c.requires.ready c.push-pushed.ensures.pushes in
    let before = moment c.args.self.now.receiver.receiving c.args.self.now.pass c.args.self.now.buffers.out c.args.self.now.buffers.notes in
    let after = moment c.push-pushed.new.self.receiving c.push-pushed.new.pass c.push-pushed.new.out c.push-pushed.new.notes in
    let over_is = c.over.ensures c.push-pushed.new.self.end c.push-pushed.ensures.answer in
    let old = moment_of c.args.self.now.receiver (lent_of scene (g.K.Link.tells c.args.link.now) (g.C.Clock.tells c.args.clock.now)) in
    let pushed = moment_of c.push-pushed.new.self (lent_of (record scene { pass = c.push-pushed.new.pass }) (g.K.Link.tells c.recv.new.self) (g.C.Clock.tells c.now-now.new.self)) in
    let told = record pushed { link = g.K.Link.tells c.tell.new.link; scene = record pushed.scene { log = g.E.Sink.tells c.tell.new.log } } in
    let new = record told {
      scene = scene_of c.handle-handled.new.self c.handle-handled.new.first c.handle-handled.new.second c.handle-handled.new.pass (g.E.Sink.tells c.handle-handled.new.log);
    } in
    rw (c.behind_piece.ensures, over_is)
    (taken-turns g.W.Handler.handles c.handle-handled.result c.push-pushed.new.self.end piece c.args.self.now.receiver.hand c.push-pushed.new.self.hand before after old new
    (pushes-live piece c.args.self.now.receiver c.push-pushed.new.self before after c.requires.live c.push-pushed.ensures.pushes)
    (record {
      out = c.push-pushed.new.out.items;
      notes = c.push-pushed.new.notes.items;
      pushed = pushed;
      told = told;
      comes = comes;
      tells = record { sent = c.in_default.ensures.tells.0; logged = c.in_default.ensures.tells.1; log_kept = c.in_default.ensures.log_kept; others = refl };
      handles_it = record { handled = c.handle-handled.ensures.handled; log_kept = c.handle-handled.ensures.log_kept; others = refl };
    })
    refl)

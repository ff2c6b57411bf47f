use Rattle.std.proofs.Common.{[], ◌∷◌, ap, sym, ◌∙◌}
use Rattle.ldm_downstream.specs.Pieces.{Piece}
use Rattle.ldm_downstream.specs.Received.{end_by_bytes}
use Rattle.ldm_downstream.specs.ReceiverView.{moment}
use Rattle.ldm_downstream.proofs.PieceEnds.{push-ends, takes-continues}
use Rattle.ldm_downstream.proofs.stream.Stream.push.Goals as goal

pub returns-in-Some-clause-pushes : goal.returns-in-Some-clause-pushes
returns-in-Some-clause-pushes g c =
    let piece : Piece = record { now = c.args.now; bytes = c.args.piece.now } in
    push-ends (piece ∷ []) c.args.self.now.hand (moment c.args.self.now.receiving c.args.pass.now c.args.out.now c.args.notes.now)
    (moment c.take_piece.new.self.receiving c.take_piece.new.pass c.take_piece.new.out c.take_piece.new.notes) c.give_up.new.self.receiving c.give_up.new.pass
    c.in-Some.end c.give_up.result c.in-Some.ensures.passes c.give_up.ensures.closes

pub returns-in-None-clause-pushes : goal.returns-in-None-clause-pushes
returns-in-None-clause-pushes g c =
    let piece : Piece = record { now = c.args.now; bytes = c.args.piece.now } in
    let t = c.in-None.ensures.passes in
    takes-continues c.args.self.now.hand c.take_piece.new.self.hand (piece ∷ []) (moment c.args.self.now.receiving c.args.pass.now c.args.out.now c.args.notes.now)
    (moment c.take_piece.new.self.receiving c.take_piece.new.pass c.take_piece.new.out c.take_piece.new.notes) t.takes
    (sym (ap end_by_bytes t.hand_is) ∙ t.goes_on) t.hand_is

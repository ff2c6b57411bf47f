use Rattle.std.proofs.Common.{◌≡◌, ◌-◌, take, leb, ap, sym, ◌∙◌}
use Rattle.std.proofs.lemmas.Bool.{false≢true}
use Rattle.ldm_session.specs.declared.limits.TheConstants.{LONGEST_STREAM}
use Rattle.ldm_downstream.specs.Pieces.{Piece}
use Rattle.ldm_downstream.specs.ReceiverView.{StreamView, moment}
use Rattle.ldm_downstream.proofs.Passing.{taken-within, pieces-limit, piece-passes, below-limit}
use Rattle.ldm_downstream.proofs.stream.Stream.take_piece.Goals as goal
use Rattle.ldm_downstream.proofs.stream.Stream.take_piece.Goals.{else-is_none-via-then-is_none+else-self-eq-LONGEST_STREAM, else-is_none-via-else-is_none}

pub returns-then-self-eq-LONGEST_STREAM-clause-passes : goal.returns-then-self-eq-LONGEST_STREAM-clause-passes
returns-then-self-eq-LONGEST_STREAM-clause-passes g c =
    let p = c.args.self.now.hand in
    let q = c.take_bytes-end.new.self.hand in
    let piece : Piece = record { now = c.args.now; bytes = c.args.piece.now } in
    let old = moment c.args.self.now.receiving c.args.pass.now c.args.out.now c.args.notes.now in
    let new = moment c.take_bytes-end.new.self.receiving c.take_bytes-end.new.pass c.take_bytes-end.new.out c.take_bytes-end.new.notes in
    let room : LONGEST_STREAM - c.self.inside.came ≡ LONGEST_STREAM - p.came = ap (λ (s : StreamView). LONGEST_STREAM - s.hand.came) c.self.view_is in
    let taken = taken-within p c.args.piece.now (LONGEST_STREAM - c.self.inside.came) c.min-taken.result room c.min-taken.ensures in
    let came : q.came ≡ LONGEST_STREAM = sym (ap (λ (s : StreamView). s.hand.came) c.self-2.view_is) ∙ c.if-self-eq-LONGEST_STREAM.true in
    pieces-limit piece p (take c.min-taken.result c.args.piece.now) old new taken c.take_bytes-end.result q c.if-is_none.ensures c.take_bytes-end.ensures.runs
    (ap (leb LONGEST_STREAM) came)

pub returns-clause-passes : goal.returns-clause-passes
returns-clause-passes g c =
    let p = c.args.self.now.hand in
    let q = c.take_bytes-end.new.self.hand in
    let piece : Piece = record { now = c.args.now; bytes = c.args.piece.now } in
    let old = moment c.args.self.now.receiving c.args.pass.now c.args.out.now c.args.notes.now in
    let new = moment c.take_bytes-end.new.self.receiving c.take_bytes-end.new.pass c.take_bytes-end.new.out c.take_bytes-end.new.notes in
    let room : LONGEST_STREAM - c.self.inside.came ≡ LONGEST_STREAM - p.came = ap (λ (s : StreamView). LONGEST_STREAM - s.hand.came) c.self.view_is in
    let taken = taken-within p c.args.piece.now (LONGEST_STREAM - c.self.inside.came) c.min-taken.result room c.min-taken.ensures in
    let came : c.self-2.inside.came ≡ q.came = ap (λ (s : StreamView). s.hand.came) c.self-2.view_is in
    elim c.else-is_none.branch [
      | else-is_none-via-then-is_none+else-self-eq-LONGEST_STREAM w ↦
          piece-passes piece p (take c.min-taken.result c.args.piece.now) old new taken c.take_bytes-end.result q c.take_bytes-end.ensures.runs
          (λ none. ap (leb LONGEST_STREAM) (sym came) ∙ below-limit LONGEST_STREAM c.self-2.inside.came c.self-2.invariant.most w.if-self-eq-LONGEST_STREAM.false)
      | else-is_none-via-else-is_none w ↦
          piece-passes piece p (take c.min-taken.result c.args.piece.now) old new taken c.take_bytes-end.result q c.take_bytes-end.ensures.runs
          (λ none. absurd (false≢true (sym none ∙ w.if-is_none.ensures)))
    ]

use Rattle.std.proofs.Common.{◌≡◌, ◌-◌, take, leb, ap, sym, ◌∙◌}
use Rattle.std.proofs.lemmas.Bool.{false≢true}
use Rattle.ldm_session.specs.declared.limits.TheConstants.{LONGEST_STREAM}
use Rattle.ldm_watch.specs.StreamView.{StreamView}
use Rattle.ldm_watch.specs.Taking.{standing}
use Rattle.ldm_watch.proofs.Pieces.{taken-within, pieces-limit, piece-passes, below-limit}
use Rattle.ldm_watch.proofs.stream.Stream.take_piece.Goals as goal
use Rattle.ldm_watch.proofs.stream.Stream.take_piece.Goals.{else-is_none-via-then-is_none+else-self-eq-LONGEST_STREAM, else-is_none-via-else-is_none}

pub returns-then-self-eq-LONGEST_STREAM : goal.returns-then-self-eq-LONGEST_STREAM
returns-then-self-eq-LONGEST_STREAM c =
    let p = c.args.self.now.hand in
    let q = c.take_bytes-stop.new.self.hand in
    let old = standing c.args.self.now.watching c.args.out.now c.args.lines.now in
    let new = standing c.take_bytes-stop.new.self.watching c.take_bytes-stop.new.out c.take_bytes-stop.new.lines in
    let room : LONGEST_STREAM - c.self.inside.came ≡ LONGEST_STREAM - p.came = ap (λ (s : StreamView). LONGEST_STREAM - s.hand.came) c.self.view_is in
    let taken = taken-within p c.args.piece.now (LONGEST_STREAM - c.self.inside.came) c.min-taken.result room c.min-taken.ensures in
    let came : q.came ≡ LONGEST_STREAM = sym (ap (λ (s : StreamView). s.hand.came) c.self-2.view_is) ∙ c.if-self-eq-LONGEST_STREAM.true in
    pieces-limit c.args.piece.now p (take c.min-taken.result c.args.piece.now) old new taken c.take_bytes-stop.result q c.if-is_none.ensures c.take_bytes-stop.ensures
    (ap (leb LONGEST_STREAM) came)

pub returns : goal.returns
returns c =
    let p = c.args.self.now.hand in
    let q = c.take_bytes-stop.new.self.hand in
    let old = standing c.args.self.now.watching c.args.out.now c.args.lines.now in
    let new = standing c.take_bytes-stop.new.self.watching c.take_bytes-stop.new.out c.take_bytes-stop.new.lines in
    let room : LONGEST_STREAM - c.self.inside.came ≡ LONGEST_STREAM - p.came = ap (λ (s : StreamView). LONGEST_STREAM - s.hand.came) c.self.view_is in
    let taken = taken-within p c.args.piece.now (LONGEST_STREAM - c.self.inside.came) c.min-taken.result room c.min-taken.ensures in
    let came : c.self-2.inside.came ≡ q.came = ap (λ (s : StreamView). s.hand.came) c.self-2.view_is in
    elim c.else-is_none.branch [
      | else-is_none-via-then-is_none+else-self-eq-LONGEST_STREAM w ↦
          piece-passes c.args.piece.now p (take c.min-taken.result c.args.piece.now) old new taken c.take_bytes-stop.result q c.take_bytes-stop.ensures
          (λ none. ap (leb LONGEST_STREAM) (sym came) ∙ below-limit LONGEST_STREAM c.self-2.inside.came c.self-2.invariant.most w.if-self-eq-LONGEST_STREAM.false)
      | else-is_none-via-else-is_none w ↦
          piece-passes c.args.piece.now p (take c.min-taken.result c.args.piece.now) old new taken c.take_bytes-stop.result q c.take_bytes-stop.ensures
          (λ none. absurd (false≢true (sym none ∙ w.if-is_none.ensures)))
    ]

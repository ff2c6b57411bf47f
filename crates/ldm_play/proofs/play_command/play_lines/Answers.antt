use Rattle.std.proofs.Common.{◌≡◌, ◌∙◌, ◌+◌, ◌-◌, ◌<◌, ◌≤◌, ℕ, false, List, [], ◌∷◌, ◌++◌, length, take, drop, refl, sym, ap, subst, append_assoc, arith, inl, inr}
use Rattle.std.proofs.lemmas.Bool.{cases_lt, false≢true}
use Rattle.std.proofs.lemmas.Result.{err_from_is_err_and}
use Rattle.std.proofs.lemmas.List.{append-nil, take_all, take_rest, length-append, length-take, length-drop}
use Rattle.ldm_script.specs.declared.line.TheConstants.{LONGEST_LINE}
use Rattle.ldm_play.specs.declared.player.LineFault.{LineFault}
use Rattle.ldm_play.specs.declared.player.LineFault.TheVariants as stop
use Rattle.ldm_play.specs.Lines.{known_lines}
use Rattle.ldm_play.specs.PendingView.{PendingView, fresh_line}
use Rattle.ldm_play.specs.Ending.{StopsAt}
use Rattle.ldm_play.specs.Step.{GoesOn}
use Rattle.ldm_script.proofs.SplitLemmas.{cut_at, lacks-none}
use Rattle.ldm_play.proofs.GoesOnLemmas.{line_ends, within_line, line_stops, line_too_long}
use Rattle.ldm_play.proofs.play_command.play_lines.Goals as goal

pub loop-at-init : goal.loop-at-init
loop-at-init g c = record {
  faults_kept = omega arith;
  number = omega arith;
  front = ([], refl, λ p script before h. subst (λ (x : List ℕ). GoesOn p x c.args.player.now c.args.pending.now before (g.K.Sink.tells c.args.sink.now)) (sym (append-nil script)) h);
}

pub returns-in_err-end_line-clause-played : goal.returns-in_err-end_line-clause-played
returns-in_err-end_line-clause-played g c = λ p script before h.
    let front = c.loop-at.invariant.front in
    let rest = c.loop-at.rest.now in
    let at = c.in-Some.at in
    let cut = cut_at 10 rest at c.in-Some.ensures in
    let on = front.2 p script before h in
    let whole : script ++ c.args.piece.now ≡ (script ++ front.0) ++ (take at rest ++ 10 ∷ drop (at + 1) rest) =
    ap (λ (x : List ℕ). script ++ x) (sym front.1 ∙ ap (λ (x : List ℕ). front.0 ++ x) cut.whole) ∙ sym (append_assoc script front.0 (take at rest ++ 10 ∷ drop (at + 1) rest)) in
    let why = err_from_is_err_and c.from_residual.result c.from_residual.ensures.1 in
    rw (why.1, why.2)
    (subst (λ (x : List ℕ). StopsAt c.in_err-end_line.field-0.0 p (known_lines false x) before (g.K.Sink.tells c.end_line.new.sink)) (sym whole)
    (line_stops p (script ++ front.0) c.loop-at.player c.loop-at.pending before (g.K.Sink.tells c.loop-at.sink) on c.in_err-end_line.field-0.0 (take at rest) (drop (at + 1) rest) (g.K.Sink.tells c.end_line.new.sink) cut.front (c.in_err-end_line.ensures.played _ on.stands)))

pub loop-at-preserved : goal.loop-at-preserved
loop-at-preserved g c =
    let front = c.loop-at.invariant.front in
    let rest = c.loop-at.rest.now in
    let at = c.in-Some.at in
    let end = take at rest ++ 10 ∷ [] in
    let cut = cut_at 10 rest at c.in-Some.ensures in
    let left = take_rest rest (at + 1) in
    let parts : (front.0 ++ end) ++ take (length rest - (at + 1)) (drop (at + 1) rest) ≡ c.args.piece.now =
    ap (λ (x : List ℕ). (front.0 ++ end) ++ x) left ∙ append_assoc front.0 end (drop (at + 1) rest) ∙ ap (λ (x : List ℕ). front.0 ++ x) (append_assoc (take at rest) (10 ∷ []) (drop (at + 1) rest) ∙ sym cut.whole) ∙ front.1 in
    record {
      faults_kept = omega (arith, c.loop-at.invariant.faults_kept, c.end_line.ensures.faults_kept);
      number = let next = ap (λ (v : PendingView). v.number) c.in_ok-end_line.ensures.next in omega (arith, next, c.loop-at.invariant.number, length-take (length rest - (at + 1)) (drop (at + 1) rest), length-drop (at + 1) rest, cut.within);
      front = (
        front.0 ++ end,
        parts,
        λ p script before h.
            let on = front.2 p script before h in
            let played = c.in_ok-end_line.ensures.played _ on.stands in
            let ends = line_ends p (script ++ front.0) c.loop-at.player c.loop-at.pending before (g.K.Sink.tells c.loop-at.sink) on (take at rest) c.end_line.new.player (g.K.Sink.tells c.end_line.new.sink) cut.front c.end_line.ensures.faults_kept played.0 played.1 played.2 played.3 in
            subst (λ (v : PendingView). GoesOn p (script ++ (front.0 ++ end)) c.end_line.new.player v before (g.K.Sink.tells c.end_line.new.sink)) (sym c.in_ok-end_line.ensures.next)
            (subst (λ (x : List ℕ). GoesOn p x c.end_line.new.player (fresh_line (c.loop-at.pending.number + 1)) before (g.K.Sink.tells c.end_line.new.sink)) (append_assoc script front.0 end) ends),
      );
    }

pub returns-clause-played : goal.returns-clause-played
returns-clause-played g c = λ p script before h.
    let front = c.loop-at.invariant.front in
    let rest = c.loop-at.rest.now in
    let pending = c.loop-at.pending in
    let line = pending.bytes ++ rest in
    let on = front.2 p script before h in
    let short : length line ≤ LONGEST_LINE = omega (arith, length-append pending.bytes rest, c.add.ensures.fits.0 c.if-not-add.false) in
    let all : c.add.new.self ≡ record pending { bytes = line } = c.add.ensures.bytes ∙ ap (λ (t : List ℕ). record pending { bytes = t }) (take_all LONGEST_LINE line short) in
    let whole : (script ++ front.0) ++ rest ≡ script ++ c.args.piece.now = append_assoc script front.0 rest ∙ ap (λ (x : List ℕ). script ++ x) front.1 in
    subst (λ (v : PendingView). GoesOn p (script ++ c.args.piece.now) c.loop-at.player v before (g.K.Sink.tells c.loop-at.sink)) (sym all)
    (subst (λ (x : List ℕ). GoesOn p x c.loop-at.player (record pending { bytes = line }) before (g.K.Sink.tells c.loop-at.sink)) whole
    (within_line p (script ++ front.0) c.loop-at.player pending before (g.K.Sink.tells c.loop-at.sink) on rest (lacks-none 10 rest c.in_default.ensures) short))

pub returns-then-not-add-clause-played : goal.returns-then-not-add-clause-played
returns-then-not-add-clause-played g c = λ p script before h.
    let front = c.loop-at.invariant.front in
    let rest = c.loop-at.rest.now in
    let pending = c.loop-at.pending in
    let line = pending.bytes ++ rest in
    let on = front.2 p script before h in
    let size = length-append pending.bytes rest in
    let long : LONGEST_LINE < length line =
    elim (cases_lt LONGEST_LINE (length line)) [
      | inl lt ↦ lt
      | inr le ↦ absurd (false≢true (sym c.if-not-add.true ∙ c.add.ensures.fits.1 (omega (arith, size))))
    ] in
    let number : c.number.result ≡ pending.number = c.number.ensures ∙ ap (λ (v : PendingView). v.number) c.add.ensures.bytes in
    let what : c.too_long.result ≡ stop.BadLine pending.number (LONGEST_LINE + 1) = c.too_long.ensures ∙ ap (λ (n : ℕ). stop.BadLine n (LONGEST_LINE + 1)) number in
    let whole : (script ++ front.0) ++ rest ≡ script ++ c.args.piece.now = append_assoc script front.0 rest ∙ ap (λ (x : List ℕ). script ++ x) front.1 in
    subst (λ (why : LineFault). StopsAt why p (known_lines false (script ++ c.args.piece.now)) before (g.K.Sink.tells c.loop-at.sink)) (sym what)
    (subst (λ (x : List ℕ). StopsAt (stop.BadLine pending.number (LONGEST_LINE + 1)) p (known_lines false x) before (g.K.Sink.tells c.loop-at.sink)) whole
    (line_too_long p (script ++ front.0) c.loop-at.player pending before (g.K.Sink.tells c.loop-at.sink) on rest (lacks-none 10 rest c.in_default.ensures) long))

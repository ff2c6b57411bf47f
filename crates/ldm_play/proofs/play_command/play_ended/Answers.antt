use Rattle.std.proofs.Common.{◌≡◌, ◌∙◌, ◌+◌, ◌<◌, ℕ, List, [], ◌∷◌, Result, true, eqb, ◌++◌, length, refl, sym, ap, subst, arith, inl, inr}
use Rattle.std.proofs.lemmas.Bool.{cases_lt, eqb-true, false≢true}
use Rattle.std.proofs.lemmas.List.{take_all, length-append}
use Rattle.ldm_outside.specs.Io.{SinkRecord}
use Rattle.ldm_script.specs.declared.line.TheConstants.{LONGEST_LINE}
use Rattle.ldm_script.specs.Resolve.{Playing}
use Rattle.ldm_play.specs.declared.player.LineFault.{LineFault}
use Rattle.ldm_play.specs.declared.player.LineFault.TheVariants as stop
use Rattle.ldm_play.specs.Play.{play_line}
use Rattle.ldm_play.specs.PlayerView.{PlayerView}
use Rattle.ldm_play.specs.PendingView.{PendingView}
use Rattle.ldm_play.specs.Step.{LineStops, LineGives}
use Rattle.ldm_play.proofs.PlayLineLemmas.{read_line-long, stops_at}
use Rattle.ldm_play.proofs.play_command.play_ended.Goals as goal

-- the same line under the same number
same_line : (result : Result (Unit {0}) LineFault) (p : Playing) (player : PlayerView) (old new : SinkRecord) (m n : ℕ) (line text : List ℕ) → m ≡ n → line ≡ text
    → LineGives result p (play_line m p line) player old new → LineGives result p (play_line n p text) player old new
same_line result p player old new m n line text number bytes gives =
    subst (λ (k : ℕ). LineGives result p (play_line k p text) player old new) number (subst (λ (t : List ℕ). LineGives result p (play_line m p t) player old new) bytes gives)

-- nothing in front
alone : (front end : List ℕ) → eqb (length front) 0 ≡ true → end ≡ front ++ end
alone [] end e = refl
alone (byte ∷ bytes) end e = absurd (let none : length (byte ∷ bytes) ≡ 0 = eqb-true _ _ e in omega arith)

pub returns-then-is_empty-clause-played : goal.returns-then-is_empty-clause-played
returns-then-is_empty-clause-played g c = λ p stands.
    let pending = c.args.pending.now in
    let line : c.args.end.now ≡ pending.bytes ++ c.args.end.now = alone pending.bytes c.args.end.now (sym c.is_empty.ensures ∙ c.if-is_empty.true) in
    same_line c.play_line.result p c.play_line.new.self (g.K.Sink.tells c.args.sink.now) (g.K.Sink.tells c.play_line.new.sink) c.number.result pending.number c.args.end.now (pending.bytes ++ c.args.end.now) c.number.ensures line
    (c.play_line.ensures.played p stands)

pub returns-then-not-add-clause-played : goal.returns-then-not-add-clause-played
returns-then-not-add-clause-played g c = λ p stands.
    let pending = c.args.pending.now in
    let line = pending.bytes ++ c.args.end.now in
    let size = length-append pending.bytes c.args.end.now in
    let long : LONGEST_LINE < length line =
    elim (cases_lt LONGEST_LINE (length line)) [
      | inl lt ↦ lt
      | inr le ↦ absurd (false≢true (sym c.if-not-add.true ∙ c.add.ensures.fits.1 (omega (arith, size))))
    ] in
    let number : c.number-then-not-add.result ≡ pending.number = c.number-then-not-add.ensures ∙ ap (λ (v : PendingView). v.number) c.add.ensures.bytes in
    let what : c.too_long.result ≡ stop.BadLine pending.number (LONGEST_LINE + 1) = c.too_long.ensures ∙ ap (λ (n : ℕ). stop.BadLine n (LONGEST_LINE + 1)) number in
    subst (λ (why : LineFault). LineStops why p (play_line pending.number p line) (g.K.Sink.tells c.args.sink.now) (g.K.Sink.tells c.args.sink.now)) (sym what)
    (stops_at pending.number p line (LONGEST_LINE + 1) (read_line-long line long), refl)

pub returns-clause-played : goal.returns-clause-played
returns-clause-played g c = λ p stands.
    let pending = c.args.pending.now in
    let line = pending.bytes ++ c.args.end.now in
    let all : c.as_slice.result.now ≡ line =
    c.as_slice.ensures.value ∙ ap (λ (v : PendingView). v.bytes) c.add.ensures.bytes ∙ take_all LONGEST_LINE line (omega (arith, length-append pending.bytes c.args.end.now, c.add.ensures.fits.0 c.if-not-add.false)) in
    let number : c.number-2.result ≡ pending.number = c.number-2.ensures ∙ ap (λ (v : PendingView). v.number) c.add.ensures.bytes in
    same_line c.play_line-2.result p c.play_line-2.new.self (g.K.Sink.tells c.args.sink.now) (g.K.Sink.tells c.play_line-2.new.sink) c.number-2.result pending.number c.as_slice.result.now line number all
    (c.play_line-2.ensures.played p stands)

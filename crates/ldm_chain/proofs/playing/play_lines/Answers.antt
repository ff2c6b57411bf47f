use Rattle.std.proofs.Common.{◌≡◌, ◌∙◌, ◌+◌, ◌-◌, ◌==◌, ℕ, false, List, [], ◌∷◌, length, take, drop, None, Result, Ok, Err, refl, sym, ap, subst, inl, inr, arith, eq-eqb}
use Rattle.memchr.specs.Find.{IsFirstByte, is_byte}
use Rattle.std.proofs.lemmas.Bool.{cases_lt, eqb-true, false≢true}
use Rattle.std.proofs.lemmas.Result.{err_from_is_err_and}
use Rattle.std.proofs.lemmas.List.{take_rest, length-take, length-drop}
use Rattle.ldm_script.specs.Lines.{lines_of}
use Rattle.ldm_script.specs.Resolve.{Playing}
use Rattle.ldm_script.proofs.SplitLemmas.{cut_at, lacks-none}
use Rattle.ldm_play.specs.Play.{play, play_line}
use Rattle.ldm_play.specs.PlayerView.{PlayerView}
use Rattle.ldm_chain.specs.declared.playing.BadLine.{BadLine}
use Rattle.ldm_chain.specs.Steps.{Plays}
use Rattle.ldm_chain.proofs.PlayedLemmas.{PlayedTo, lines_of-line, lines_of-plain, last_line-none, last_line-some, played-all, played-more, played-none, stopped-at}
use Rattle.ldm_chain.proofs.playing.play_lines.Goals as goal

pub loop-at-init : goal.loop-at-init
loop-at-init c = record {
  number = omega arith;
  played = λ p stands. played-none p c.args.text.now (record { book = c.args.book.now; last = c.args.last.now }) stands;
}

pub returns-in_err-play_line : goal.returns-in_err-play_line
returns-in_err-play_line c = λ p stands.
    let rest = c.loop-at.rest.now in
    let at = c.in-Some.at in
    let cut = cut_at 10 rest at c.in-Some.ensures in
    let first : lines_of rest ≡ take at rest ∷ lines_of (drop (at + 1) rest) = ap lines_of cut.whole ∙ lines_of-line (take at rest) (drop (at + 1) rest) cut.front in
    let so_far = c.loop-at.invariant.played p stands in
    let bad = c.in_err-play_line.field-0.0 in
    let why = err_from_is_err_and c.from_residual.result c.from_residual.ensures.1 in
    rw (why.1, why.2)
    (stopped-at p c.args.text.now c.loop-at.number rest (record { book = c.loop-at.book; last = c.loop-at.last }) so_far (take at rest) (lines_of (drop (at + 1) rest)) first
    (record { line = bad.line; column = bad.column }) (c.in_err-play_line.ensures so_far.now so_far.follows.stands))

pub loop-at-preserved : goal.loop-at-preserved
loop-at-preserved c =
    let rest = c.loop-at.rest.now in
    let at = c.in-Some.at in
    let cut = cut_at 10 rest at c.in-Some.ensures in
    let first : lines_of rest ≡ take at rest ∷ lines_of (drop (at + 1) rest) = ap lines_of cut.whole ∙ lines_of-line (take at rest) (drop (at + 1) rest) cut.front in
    let left = take_rest rest (at + 1) in
    let old : PlayerView = record { book = c.loop-at.book; last = c.loop-at.last } in
    let new : PlayerView = record { book = c.play_line.new.book; last = c.play_line.new.last } in
    record {
      number = omega (arith, c.loop-at.invariant.number, length-take (length rest - (at + 1)) (drop (at + 1) rest), length-drop (at + 1) rest, cut.within);
      played = λ p stands.
          let so_far = c.loop-at.invariant.played p stands in
          let one = c.in_ok-play_line.ensures so_far.now so_far.follows.stands in
          subst (λ (x : List ℕ). PlayedTo p c.args.text.now (c.loop-at.number + 1) x new) (sym left)
          (played-more p c.args.text.now c.loop-at.number rest old so_far (take at rest) (lines_of (drop (at + 1) rest)) first new (drop (at + 1) rest) refl one.0 one.1);
    }

-- nothing is left behind the last newline
no_line : (rest : List ℕ) → IsFirstByte (is_byte 10) rest None → length rest ≡ 0 → lines_of rest ≡ []
no_line rest none empty = lines_of-plain rest (lacks-none 10 rest none) ∙ last_line-none rest empty

-- the last line, which no newline ends
only_line : (rest : List ℕ) → IsFirstByte (is_byte 10) rest None → (length rest == 0) ≡ false → lines_of rest ≡ rest ∷ []
only_line rest none some =
    lines_of-plain rest (lacks-none 10 rest none)
    ∙ last_line-some rest (elim (cases_lt 0 (length rest)) [ inl more ↦ more | inr less ↦ absurd (false≢true (sym some ∙ eq-eqb (length rest) 0 (omega arith))) ])

-- the last line was played, or it is a bad one
last : (result : Result (Unit {0}) BadLine) (p : Playing) (text : List ℕ) (number : ℕ) (rest : List ℕ) (old new : PlayerView) (so_far : PlayedTo p text number rest old)
    → lines_of rest ≡ rest ∷ [] → Plays result so_far.now (play_line number so_far.now rest) new → Plays result p (play 1 p (lines_of text)) new
last (Ok done) p text number rest old new so_far only played =
    played-all p text (number + 1) [] new (played-more p text number rest old so_far rest [] only new [] refl played.0 played.1) refl
last (Err bad) p text number rest old new so_far only stops =
    stopped-at p text number rest old so_far rest [] only (record { line = bad.line; column = bad.column }) stops

pub returns : goal.returns
returns c = λ p stands.
    let rest = c.loop-at.rest.now in
    let so_far = c.loop-at.invariant.played p stands in
    last c.play_line-2.result p c.args.text.now c.loop-at.number rest (record { book = c.loop-at.book; last = c.loop-at.last })
    (record { book = c.play_line-2.new.book; last = c.play_line-2.new.last }) so_far
    (only_line rest c.in_default.ensures (sym c.is_empty.ensures ∙ c.if-is_empty.false))
    (c.play_line-2.ensures so_far.now so_far.follows.stands)

pub returns-then-is_empty : goal.returns-then-is_empty
returns-then-is_empty c = λ p stands.
    let rest = c.loop-at.rest.now in
    played-all p c.args.text.now c.loop-at.number rest (record { book = c.loop-at.book; last = c.loop-at.last }) (c.loop-at.invariant.played p stands)
    (no_line rest c.in_default.ensures (eqb-true (length rest) 0 (sym c.is_empty.ensures ∙ c.if-is_empty.true)))

-- Lines played one after another.
use Rattle.std.proofs.Common.{◌≡◌, ◌∙◌, ℕ, ◌+◌, ◌<◌, cond, List, [], ◌∷◌, ◌++◌, length, Option, Some, None, refl, sym, ap, subst, arith}
use Rattle.std.specs.Prelude.{set, slice_index_or, is_some}
use Rattle.ldm_calls.specs.Lines.{AnswersLine}
use Rattle.ldm_calls.specs.OnBook.{BookAnswers}
use Rattle.ldm_script.specs.declared.order.LastPlaces.{LastPlaces}
use Rattle.ldm_script.specs.Order.{Order}
use Rattle.ldm_script.specs.Lines.{Cut, last_line, lines_of}
use Rattle.ldm_script.specs.Resolve.{Playing, no_places, answer_order}
use Rattle.ldm_script.proofs.SplitLemmas.{Lacks}
use Rattle.ldm_script.proofs.CutLemmas.{cut-line, cut-plain}
use Rattle.ldm_play.specs.Play.{BadLine, Played, play_line, followed, play}
use Rattle.ldm_play.specs.PlayerView.{PlayerView, StandsForPlay}
use Rattle.ldm_play.proofs.PlayLineLemmas.{answers_order as order_answers}
use Rattle.ldm_chain.specs.Steps.{Follows}

-- the order of an actor was answered
pub answers_order : (p : Playing) (order : Order) (old new : PlayerView) (last : LastPlaces) (text : List ℕ)
    → AnswersLine (BookAnswers order.actor) order.asked old.book (slice_index_or old.last order.actor no_places) new.book last text
    → new.last ≡ set old.last order.actor last → StandsForPlay old p → Follows p (answer_order p order).playing new
answers_order p order old new last text line noted stands =
    let answers = order_answers p order old new last text line noted stands in
    record { stands = answers.stands; legal = answers.legal }

-- ---- lines

-- the lines of a text that begins with a whole line
pub lines_of-line : (line behind : List ℕ) → Lacks 10 line → lines_of (line ++ 10 ∷ behind) ≡ line ∷ lines_of behind
lines_of-line line behind lacks = ap (λ (c : Cut). c.lines ++ last_line c.unfinished) (cut-line [] line behind lacks)

-- the lines of a text without a newline
pub lines_of-plain : (text : List ℕ) → Lacks 10 text → lines_of text ≡ last_line text
lines_of-plain text lacks = ap (λ (c : Cut). c.lines ++ last_line c.unfinished) (cut-plain text lacks)

pub last_line-some : (text : List ℕ) → 0 < length text → last_line text ≡ text ∷ []
last_line-some [] some = absurd (omega arith)
last_line-some (byte ∷ bytes) some = refl

pub last_line-none : (text : List ℕ) → length text ≡ 0 → last_line text ≡ []
last_line-none [] none = refl
last_line-none (byte ∷ bytes) none = absurd (omega arith)

-- what was played, and what is played behind it, where the play goes on
abbrev onward : Played → Played → Played
onward first behind = record { text = first.text ++ behind.text; playing = behind.playing; stop = behind.stop }

followed-on : (first behind : Played) → first.stop ≡ None → followed first behind ≡ onward first behind
followed-on first behind h = ap (λ (o : Option BadLine). cond (is_some o) first (onward first behind)) h

followed-stopped : (first behind : Played) (bad : BadLine) → first.stop ≡ Some bad → followed first behind ≡ first
followed-stopped first behind bad h = ap (λ (o : Option BadLine). cond (is_some o) first (onward first behind)) h

-- A text was played up to what is left of it.
pub record PlayedTo (p : Playing) (text : List ℕ) (number : ℕ) (rest : List ℕ) (player : PlayerView) : Type 0 where
  pub now : Playing
  pub follows : Follows p now player
  pub stop : (play 1 p (lines_of text)).stop ≡ (play number now (lines_of rest)).stop
  pub playing : (play 1 p (lines_of text)).playing ≡ (play number now (lines_of rest)).playing

pub played-none : (p : Playing) (text : List ℕ) (player : PlayerView) → StandsForPlay player p → PlayedTo p text 1 text player
played-none p text player stands = record {
  now = p;
  follows = record { stands = stands; legal = λ arena slots legal. legal };
  stop = refl;
  playing = refl;
}

module _ (p : Playing) (text : List ℕ) (number : ℕ) (rest : List ℕ) (old : PlayerView) (so_far : PlayedTo p text number rest old) (line : List ℕ) (lines : List (List ℕ))
    (is : lines_of rest ≡ line ∷ lines) where
  abbrev one : Played
  one = play_line number so_far.now line

  abbrev others : Played
  others = play (number + 1) (play_line number so_far.now line).playing lines

  -- a line more
  pub played-more : (new : PlayerView) (behind : List ℕ) → lines_of behind ≡ lines → (play_line number so_far.now line).stop ≡ None
      → Follows so_far.now (play_line number so_far.now line).playing new → PlayedTo p text (number + 1) behind new
  played-more new behind left on follows =
      let step : play number so_far.now (lines_of rest) ≡ onward (play_line number so_far.now line) (play (number + 1) (play_line number so_far.now line).playing (lines_of behind)) =
      ap (λ (ls : List (List ℕ)). play number so_far.now ls) is
      ∙ followed-on (play_line number so_far.now line) (play (number + 1) (play_line number so_far.now line).playing lines) on
      ∙ ap (λ (ls : List (List ℕ)). onward (play_line number so_far.now line) (play (number + 1) (play_line number so_far.now line).playing ls)) (sym left) in
      record {
        now = (play_line number so_far.now line).playing;
        follows = record { stands = follows.stands; legal = λ arena slots legal. follows.legal arena slots (so_far.follows.legal arena slots legal) };
        stop = so_far.stop ∙ ap (λ (x : Played). x.stop) step;
        playing = so_far.playing ∙ ap (λ (x : Played). x.playing) step;
      }

  -- a line at which it stops
  pub stopped-at : (bad : BadLine) → (play_line number so_far.now line).stop ≡ Some bad → (play 1 p (lines_of text)).stop ≡ Some bad
  stopped-at bad stops =
      so_far.stop
      ∙ ap (λ (x : Played). x.stop) (ap (λ (ls : List (List ℕ)). play number so_far.now ls) is
      ∙ followed-stopped (play_line number so_far.now line) (play (number + 1) (play_line number so_far.now line).playing lines) bad stops)
      ∙ stops

-- nothing is left
pub played-all : (p : Playing) (text : List ℕ) (number : ℕ) (rest : List ℕ) (player : PlayerView) → PlayedTo p text number rest player → lines_of rest ≡ []
    → ((play 1 p (lines_of text)).stop ≡ None) × Follows p (play 1 p (lines_of text)).playing player
played-all p text number rest player so_far none = (
  so_far.stop ∙ ap (λ (ls : List (List ℕ)). (play number so_far.now ls).stop) none,
  subst (λ (q : Playing). Follows p q player) (sym (so_far.playing ∙ ap (λ (ls : List (List ℕ)). (play number so_far.now ls).playing) none)) so_far.follows,
)

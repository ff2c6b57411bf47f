-- Lines played one after another: for `play` of the lines of a script.
use Rattle.std.proofs.Common.{◌≡◌, ℕ, ◌+◌, cond, List, [], ◌∷◌, ◌++◌, length, Option, Result, Ok, Err, Some, None, refl, sym, ap, ◌∙◌, append_assoc, arith}
use Rattle.std.specs.Prelude.{is_some}
use Rattle.std.proofs.lemmas.List.{append-nil}
use Rattle.std.proofs.lemmas.Option.{none-some}
use Rattle.ldm_script.specs.Order.{Order}
use Rattle.ldm_script.specs.Grammar.{read_line}
use Rattle.ldm_script.specs.Resolve.{Playing}
use Rattle.ldm_play.specs.Play.{BadLine, Played, nothing_played, play_reading, play_line, followed, play}

-- what was played, and what is played behind it, where the play goes on
abbrev pub onward : Played → Played → Played
onward first behind = record { text = first.text ++ behind.text; playing = behind.playing; stop = behind.stop }

pub followed-on : (first behind : Played) → first.stop ≡ None → followed first behind ≡ onward first behind
followed-on first behind h = ap (λ (o : Option BadLine). cond (is_some o) first (onward first behind)) h

pub followed-stopped : (first behind : Played) (bad : BadLine) → first.stop ≡ Some bad → followed first behind ≡ first
followed-stopped first behind bad h = ap (λ (o : Option BadLine). cond (is_some o) first (onward first behind)) h

-- where the whole goes on, its first part does
pub first_on : (first behind : Played) → (followed first behind).stop ≡ None → (first.stop ≡ None) × (behind.stop ≡ None)
first_on first behind h = by_stop first.stop refl
  where
    by_stop : (o : Option BadLine) → first.stop ≡ o → (first.stop ≡ None) × (behind.stop ≡ None)
    by_stop None e = (e, sym (ap (λ (x : Played). x.stop) (followed-on first behind e)) ∙ h)
    by_stop (Some bad) e = absurd (none-some bad (sym h ∙ ap (λ (x : Played). x.stop) (followed-stopped first behind bad e) ∙ e))

onward-assoc : (a b c : Played) → onward a (onward b c) ≡ onward (onward a b) c
onward-assoc a b c = ap (λ (t : List ℕ). record { text = t; playing = c.playing; stop = c.stop }) (sym (append_assoc a.text b.text c.text))

-- more lines behind lines that are played
pub play-append : (lines : List (List ℕ)) (number : ℕ) (p : Playing) (more : List (List ℕ)) → (play number p lines).stop ≡ None
    → play number p (lines ++ more) ≡ onward (play number p lines) (play (number + length lines) (play number p lines).playing more)
play-append [] number p more h = let same : number ≡ number + length (let none : List (List ℕ) = [] in none) = omega arith in ap (λ (n : ℕ). play n p more) same
play-append (line ∷ lines) number p more h =
    let first = play_line number p line in
    let rest = play (number + 1) first.playing lines in
    let on = first_on first rest h in
    let one = followed-on first rest on.0 in
    let last : number + 1 + length lines ≡ number + length (line ∷ lines) = omega arith in
    followed-on first (play (number + 1) first.playing (lines ++ more)) on.0
    ∙ ap (onward first) (play-append lines (number + 1) first.playing more on.1 ∙ ap (λ (n : ℕ). onward rest (play n rest.playing more)) last)
    ∙ onward-assoc first rest (play (number + length (line ∷ lines)) rest.playing more)
    ∙ sym (ap (λ (x : Played). onward x (play (number + length (line ∷ lines)) x.playing more)) one)

module _ (lines : List (List ℕ)) (p : Playing) (line : List ℕ) (number : ℕ) (is : number ≡ 1 + length lines) (running : (play 1 p lines).stop ≡ None) where
  -- more behind lines that are played, of which the first has the next number
  pub play-behind : (more : List (List ℕ)) → play 1 p (lines ++ line ∷ more) ≡ onward (play 1 p lines) (play number (play 1 p lines).playing (line ∷ more))
  play-behind more = play-append lines 1 p (line ∷ more) running ∙ ap (λ (n : ℕ). onward (play 1 p lines) (play n (play 1 p lines).playing (line ∷ more))) (sym is)

  -- one line more
  pub play-line_more : (play_line number (play 1 p lines).playing line).stop ≡ None → play 1 p (lines ++ line ∷ []) ≡ onward (play 1 p lines) (play_line number (play 1 p lines).playing line)
  play-line_more on =
      let last = play_line number (play 1 p lines).playing line in
      play-behind [] ∙ ap (onward (play 1 p lines)) (followed-on last (nothing_played last.playing) on ∙ ap (λ (t : List ℕ). record { text = t; playing = last.playing; stop = None }) (append-nil last.text) ∙ ap (λ (o : Option BadLine). record { text = last.text; playing = last.playing; stop = o }) (sym on))

  -- a line at which the play stops
  pub play-stop : (more : List (List ℕ)) (bad : BadLine) → (play_line number (play 1 p lines).playing line).stop ≡ Some bad → play 1 p (lines ++ line ∷ more) ≡ onward (play 1 p lines) (play_line number (play 1 p lines).playing line)
  play-stop more bad stops =
      let last = play_line number (play 1 p lines).playing line in
      play-behind more ∙ ap (onward (play 1 p lines)) (followed-stopped last (play (number + 1) last.playing more) bad stops)

  -- a line at which the play does not stop, with more behind it
  pub play-line_on : (more : List (List ℕ)) → (play_line number (play 1 p lines).playing line).stop ≡ None
      → (play 1 p (lines ++ line ∷ more)).text ≡ (play 1 p lines).text ++ (play_line number (play 1 p lines).playing line).text ++ (play (number + 1) (play_line number (play 1 p lines).playing line).playing more).text
  play-line_on more on =
      let last = play_line number (play 1 p lines).playing line in
      ap (λ (x : Played). x.text) (play-behind more ∙ ap (onward (play 1 p lines)) (followed-on last (play (number + 1) last.playing more) on))
      ∙ sym (append_assoc (play 1 p lines).text last.text (play (number + 1) last.playing more).text)

-- a line at which the play stops writes nothing
pub stopped_text : (number : ℕ) (p : Playing) (line : List ℕ) (bad : BadLine) → (play_line number p line).stop ≡ Some bad → (play_line number p line).text ≡ []
unfolding play_line
stopped_text number p line bad h = by_reading (read_line 64 line) h
  where
    by_reading : (r : Result (Option Order) ℕ) → (play_reading number p r).stop ≡ Some bad → (play_reading number p r).text ≡ []
    by_reading (Ok None) h = absurd cc
    by_reading (Ok (Some order)) h = absurd cc
    by_reading (Err column) h = refl

-- and makes no call
pub stopped_playing : (number : ℕ) (p : Playing) (line : List ℕ) (bad : BadLine) → (play_line number p line).stop ≡ Some bad → (play_line number p line).playing ≡ p
unfolding play_line
stopped_playing number p line bad h = by_reading (read_line 64 line) h
  where
    by_reading : (r : Result (Option Order) ℕ) → (play_reading number p r).stop ≡ Some bad → (play_reading number p r).playing ≡ p
    by_reading (Ok None) h = absurd cc
    by_reading (Ok (Some order)) h = absurd cc
    by_reading (Err column) h = refl

-- A script that is played piece by piece: for `GoesOn`.
use Rattle.std.proofs.Common.{◌≡◌, ℕ, ◌+◌, ◌<◌, ◌≤◌, Bool, true, false, cond, eqb, List, [], ◌∷◌, ◌++◌, length, None, refl, sym, ap, subst, ◌∙◌, append_assoc, arith, length-append}
use Rattle.std.proofs.lemmas.Bool.{eqb-true, le-ltb, lt-ltb, true≢false}
use Rattle.std.proofs.lemmas.List.{append-nil}
use Rattle.ldm_outside.specs.Io.{SinkRecord, Takes, WritesFront}
use Rattle.ldm_outside.proofs.CallerLemmas.{Rose-later, Takes-nothing, Takes-same, Takes-then, WritesFront-behind}
use Rattle.ldm_script.specs.Resolve.{Playing}
use Rattle.ldm_script.specs.declared.line.TheConstants.{LONGEST_LINE}
use Rattle.ldm_play.specs.declared.player.LineFault.{LineFault}
use Rattle.ldm_play.specs.declared.player.LineFault.TheVariants as stop
use Rattle.ldm_script.specs.Lines.{Cut, cut, whole_lines, last_line}
use Rattle.ldm_play.specs.Lines.{too_long, known_lines}
use Rattle.ldm_play.specs.Play.{Played, play_line, play}
use Rattle.ldm_play.specs.PlayerView.{PlayerView, StandsForPlay}
use Rattle.ldm_play.specs.PendingView.{PendingView, fresh_line}
use Rattle.ldm_play.specs.Ending.{AnswersKnownLines, StopsAt}
use Rattle.ldm_play.specs.Legal.{StaysLegal}
use Rattle.ldm_play.specs.Step.{GoesOn, LineStops, AnswersScript}
use Rattle.ldm_script.proofs.SplitLemmas.{Lacks}
use Rattle.ldm_play.proofs.PlayLineLemmas.{read_line-long, stops_at}
use Rattle.ldm_script.proofs.CutLemmas.{cut-line, cut-within}
use Rattle.ldm_play.proofs.PlayLemmas.{onward, play-line_more, play-stop, play-line_on, stopped_text, stopped_playing}

-- the lines that are known where what is unfinished is not too long yet
pub known_lines-short : (script : List ℕ) → length (cut script).unfinished ≤ LONGEST_LINE → known_lines false script ≡ whole_lines script
known_lines-short script short =
    ap (λ (b : Bool). whole_lines script ++ cond b ((cut script).unfinished ∷ []) []) (le-ltb LONGEST_LINE (length (cut script).unfinished) short) ∙ append-nil (whole_lines script)

-- a script of which nothing was read yet
pub GoesOn-nothing : (p : Playing) (player : PlayerView) (pending : PendingView) (sink : SinkRecord) → pending ≡ fresh_line 1 → StandsForPlay player p → GoesOn p [] player pending sink sink
GoesOn-nothing p player pending sink fresh stands = record {
  running = refl;
  stands = stands;
  legal = λ arena slots legal. legal;
  number = let same = ap (λ (l : PendingView). l.number) fresh in omega arith;
  unfinished = sym (ap (λ (l : PendingView). l.bytes) fresh);
  short = let none = ap (λ (l : PendingView). length l.bytes) fresh in omega arith;
  written = Takes-nothing sink sink refl;
  faults_kept = omega arith;
}

-- a script that goes on, by its lines
goes_on_by : (p : Playing) (script : List ℕ) (player : PlayerView) (pending : PendingView) (old new : SinkRecord) (c : Cut) → cut script ≡ c → (play 1 p c.lines).stop ≡ None → StandsForPlay player (play 1 p c.lines).playing → StaysLegal p (play 1 p c.lines).playing
    → pending.number ≡ 1 + length c.lines → c.unfinished ≡ pending.bytes → length pending.bytes ≤ LONGEST_LINE → Takes old (play 1 p c.lines).text new → old.faults ≤ new.faults → GoesOn p script player pending old new
goes_on_by p script player pending old new c is running stands legal number rest short written faults_kept =
    let lines : c.lines ≡ whole_lines script = ap (λ (x : Cut). x.lines) (sym is) in
    record {
      running = subst (λ (ls : List (List ℕ)). (play 1 p ls).stop ≡ None) lines running;
      stands = subst (λ (ls : List (List ℕ)). StandsForPlay player (play 1 p ls).playing) lines stands;
      legal = subst (λ (ls : List (List ℕ)). StaysLegal p (play 1 p ls).playing) lines legal;
      number = subst (λ (ls : List (List ℕ)). pending.number ≡ 1 + length ls) lines number;
      unfinished = ap (λ (x : Cut). x.unfinished) is ∙ rest;
      short = short;
      written = subst (λ (ls : List (List ℕ)). Takes old (play 1 p ls).text new) lines written;
      faults_kept = faults_kept;
    }

module _ (p : Playing) (script : List ℕ) (player : PlayerView) (pending : PendingView) (before now : SinkRecord) (on : GoesOn p script player pending before now) where
  -- the lines that are known are answered
  pub answers_known_lines : AnswersKnownLines p script before now
  answers_known_lines =
      let known = known_lines-short script (let same = ap length on.unfinished in let short = on.short in omega arith) in
      record {
        running = subst (λ (ls : List (List ℕ)). (play 1 p ls).stop ≡ None) (sym known) on.running;
        written = subst (λ (ls : List (List ℕ)). Takes before (play 1 p ls).text now) (sym known) on.written;
        legal = subst (λ (ls : List (List ℕ)). StaysLegal p (play 1 p ls).playing) (sym known) on.legal;
      }

  -- the play that the next line is played on
  abbrev here : Playing
  here = (play 1 p (whole_lines script)).playing

  -- the calls so far, and those behind them
  legal_then : (later : Playing) → StaysLegal here later → StaysLegal p later
  legal_then later then = λ arena slots legal. then arena slots (on.legal arena slots legal)

  -- the end of a line came, and the line was played
  pub line_ends : (end : List ℕ) (played : PlayerView) (after : SinkRecord) → Lacks 10 end → now.faults ≤ after.faults
      → (play_line pending.number here (pending.bytes ++ end)).stop ≡ None
      → StandsForPlay played (play_line pending.number here (pending.bytes ++ end)).playing
      → Takes now (play_line pending.number here (pending.bytes ++ end)).text after
      → StaysLegal here (play_line pending.number here (pending.bytes ++ end)).playing
      → GoesOn p (script ++ (end ++ 10 ∷ [])) played (fresh_line (pending.number + 1)) before after
  line_ends end played after lacks later running stands written legal =
      let line = pending.bytes ++ end in
      let lines = whole_lines script in
      let c-is : cut (script ++ (end ++ 10 ∷ [])) ≡ record { lines = lines ++ line ∷ []; unfinished = [] } =
      cut-line script end [] lacks ∙ ap (λ (u : List ℕ). record { lines = lines ++ (u ++ end) ∷ []; unfinished = [] }) on.unfinished in
      let more = play-line_more lines p line pending.number on.number on.running running in
      goes_on_by p (script ++ (end ++ 10 ∷ [])) played (fresh_line (pending.number + 1)) before after (record { lines = lines ++ line ∷ []; unfinished = [] }) c-is
      (ap (λ (x : Played). x.stop) more ∙ running)
      (subst (λ (x : Played). StandsForPlay played x.playing) (sym more) stands)
      (subst (λ (x : Played). StaysLegal p x.playing) (sym more) (legal_then (play_line pending.number here line).playing legal))
      (let so_far = on.number in omega (arith, length-append lines (line ∷ [])))
      refl (omega arith)
      (subst (λ (x : Played). Takes before x.text after) (sym more) (Takes-then before now after (play 1 p lines).text (play_line pending.number here line).text on.written written))
      (let kept = on.faults_kept in omega arith)

  -- the end of a line did not come
  pub within_line : (more : List ℕ) → Lacks 10 more → length (pending.bytes ++ more) ≤ LONGEST_LINE → GoesOn p (script ++ more) player (record pending { bytes = pending.bytes ++ more }) before now
  within_line more lacks short =
      goes_on_by p (script ++ more) player (record pending { bytes = pending.bytes ++ more }) before now (record { lines = whole_lines script; unfinished = (cut script).unfinished ++ more }) (cut-within script more lacks)
      on.running on.stands on.legal on.number (ap (λ (u : List ℕ). u ++ more) on.unfinished) short on.written on.faults_kept

  -- the lines that are known where a line ends in what came
  pub known-line : (end behind : List ℕ) → Lacks 10 end → (rest : List (List ℕ)) × (known_lines false (script ++ (end ++ 10 ∷ behind)) ≡ whole_lines script ++ (pending.bytes ++ end) ∷ rest)
  known-line end behind lacks =
      let all = script ++ (end ++ 10 ∷ behind) in
      let c-is = cut-line script end behind lacks in (
        (cut behind).lines ++ too_long (cut all).unfinished,
        ap (λ (c : Cut). c.lines ++ too_long (cut all).unfinished) c-is
            ∙ ap (λ (u : List ℕ). (whole_lines script ++ (u ++ end) ∷ (cut behind).lines) ++ too_long (cut all).unfinished) on.unfinished
            ∙ append_assoc (whole_lines script) ((pending.bytes ++ end) ∷ (cut behind).lines) (too_long (cut all).unfinished),
      )

  -- the play stops at a line behind the whole ones
  stops_behind : (why : LineFault) (line : List ℕ) (rest : List (List ℕ)) (after : SinkRecord) → LineStops why here (play_line pending.number here line) now after → StopsAt why p (whole_lines script ++ line ∷ rest) before after
  stops_behind (stop.BadLine bad column) line rest after stops =
      let lines = whole_lines script in
      let whole = play-stop lines p line pending.number on.number on.running rest (record { line = bad; column = column }) stops.0 in
      let text : (play 1 p (lines ++ line ∷ rest)).text ≡ (play 1 p lines).text =
      ap (λ (x : Played). x.text) whole ∙ ap (λ (t : List ℕ). (play 1 p lines).text ++ t) (stopped_text pending.number here line (record { line = bad; column = column }) stops.0) ∙ append-nil (play 1 p lines).text in (
        ap (λ (x : Played). x.stop) whole ∙ stops.0,
        subst (λ (t : List ℕ). Takes before t after) (sym text) (Takes-same before now after (play 1 p lines).text on.written stops.1),
        subst (StaysLegal p) (sym (ap (λ (x : Played). x.playing) whole ∙ stopped_playing pending.number here line (record { line = bad; column = column }) stops.0)) on.legal,
      )
  stops_behind stop.SinkFault line rest after stops =
      let last = play_line pending.number here line in
      let text = play-line_on (whole_lines script) p line pending.number on.number on.running rest stops.0 in (
        Rose-later before.faults now.faults after.faults on.faults_kept stops.1,
        subst (λ (t : List ℕ). WritesFront before t after) (sym text)
            (WritesFront-behind before now after (play 1 p (whole_lines script)).text last.text (play (pending.number + 1) last.playing rest).text on.written stops.2),
        record {
          first = whole_lines script ++ line ∷ [];
          rest = rest;
          are = append_assoc (whole_lines script) (line ∷ []) rest;
          written = subst (λ (t : List ℕ). WritesFront before t after) (sym (play-line_on (whole_lines script) p line pending.number on.number on.running [] stops.0))
              (WritesFront-behind before now after (play 1 p (whole_lines script)).text last.text [] on.written stops.2);
          legal = subst (λ (x : Played). StaysLegal p x.playing) (sym (play-line_more (whole_lines script) p line pending.number on.number on.running stops.0)) (legal_then last.playing stops.3);
        },
      )

  -- a line at which the play stops
  pub line_stops : (why : LineFault) (end behind : List ℕ) (after : SinkRecord) → Lacks 10 end
      → LineStops why here (play_line pending.number here (pending.bytes ++ end)) now after
      → StopsAt why p (known_lines false (script ++ (end ++ 10 ∷ behind))) before after
  line_stops why end behind after lacks stops =
      let known = known-line end behind lacks in
      subst (λ (ls : List (List ℕ)). StopsAt why p ls before after) (sym known.1) (stops_behind why (pending.bytes ++ end) known.0 after stops)

  -- a line that is too long already
  pub line_too_long : (more : List ℕ) → Lacks 10 more → LONGEST_LINE < length (pending.bytes ++ more) → StopsAt (stop.BadLine pending.number (LONGEST_LINE + 1)) p (known_lines false (script ++ more)) before now
  line_too_long more lacks long =
      let line = pending.bytes ++ more in
      let c-is : cut (script ++ more) ≡ record { lines = whole_lines script; unfinished = line } =
      cut-within script more lacks ∙ ap (λ (u : List ℕ). record { lines = whole_lines script; unfinished = u ++ more }) on.unfinished in
      let known : known_lines false (script ++ more) ≡ whole_lines script ++ line ∷ [] =
      ap (λ (c : Cut). c.lines ++ too_long c.unfinished) c-is ∙ ap (λ (b : Bool). whole_lines script ++ cond b (line ∷ []) []) (lt-ltb LONGEST_LINE (length line) long) in
      subst (λ (ls : List (List ℕ)). StopsAt (stop.BadLine pending.number (LONGEST_LINE + 1)) p ls before now) (sym known)
      (stops_behind (stop.BadLine pending.number (LONGEST_LINE + 1)) line [] now (stops_at pending.number here line (LONGEST_LINE + 1) (read_line-long line long), refl))

  -- the script ended behind a line
  pub nothing_left : eqb (length pending.bytes) 0 ≡ true → AnswersScript p script player before now
  nothing_left none =
      let known : known_lines true script ≡ whole_lines script =
      ap (λ (u : List ℕ). whole_lines script ++ last_line u) (on.unfinished ∙ no_bytes pending.bytes none) ∙ append-nil (whole_lines script) in
      record {
        running = subst (λ (ls : List (List ℕ)). (play 1 p ls).stop ≡ None) (sym known) on.running;
        written = subst (λ (ls : List (List ℕ)). Takes before (play 1 p ls).text now) (sym known) on.written;
        legal = subst (λ (ls : List (List ℕ)). StaysLegal p (play 1 p ls).playing) (sym known) on.legal;
        stands = subst (λ (ls : List (List ℕ)). StandsForPlay player (play 1 p ls).playing) (sym known) on.stands;
      }
    where
      no_bytes : (text : List ℕ) → eqb (length text) 0 ≡ true → text ≡ []
      no_bytes [] h = refl
      no_bytes (byte ∷ bytes) h = absurd (let none : length (byte ∷ bytes) ≡ 0 = eqb-true _ _ h in omega arith)

  -- the script ended within a line, which counts
  last-known : eqb (length pending.bytes) 0 ≡ false → known_lines true script ≡ whole_lines script ++ pending.bytes ∷ []
  last-known some = ap (λ (u : List ℕ). whole_lines script ++ last_line u) on.unfinished ∙ ap (λ (ls : List (List ℕ)). whole_lines script ++ ls) (one_line pending.bytes some)
    where
      one_line : (text : List ℕ) → eqb (length text) 0 ≡ false → last_line text ≡ text ∷ []
      one_line [] h = absurd (true≢false h)
      one_line (byte ∷ bytes) h = refl

  -- the play of the lines of the script
  last_more : eqb (length pending.bytes) 0 ≡ false → (play_line pending.number here pending.bytes).stop ≡ None
      → play 1 p (known_lines true script) ≡ onward (play 1 p (whole_lines script)) (play_line pending.number here pending.bytes)
  last_more some running =
      ap (λ (ls : List (List ℕ)). play 1 p ls) (last-known some) ∙ play-line_more (whole_lines script) p pending.bytes pending.number on.number on.running running

  pub last_ends : (played : PlayerView) (after : SinkRecord) → eqb (length pending.bytes) 0 ≡ false
      → (play_line pending.number here pending.bytes).stop ≡ None
      → StandsForPlay played (play_line pending.number here pending.bytes).playing
      → Takes now (play_line pending.number here pending.bytes).text after
      → StaysLegal here (play_line pending.number here pending.bytes).playing
      → AnswersScript p script played before after
  last_ends played after some running stands written legal =
      let lines = whole_lines script in
      let more = last_more some running in
      record {
        running = ap (λ (x : Played). x.stop) more ∙ running;
        written = subst (λ (x : Played). Takes before x.text after) (sym more) (Takes-then before now after (play 1 p lines).text (play_line pending.number here pending.bytes).text on.written written);
        legal = subst (λ (x : Played). StaysLegal p x.playing) (sym more) (legal_then (play_line pending.number here pending.bytes).playing legal);
        stands = subst (λ (x : Played). StandsForPlay played x.playing) (sym more) stands;
      }

  pub last_stops : (why : LineFault) (after : SinkRecord) → eqb (length pending.bytes) 0 ≡ false
      → LineStops why here (play_line pending.number here pending.bytes) now after
      → StopsAt why p (known_lines true script) before after
  last_stops why after some stops =
      subst (λ (ls : List (List ℕ)). StopsAt why p ls before after) (sym (last-known some)) (stops_behind why pending.bytes [] after stops)

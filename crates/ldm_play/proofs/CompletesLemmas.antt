-- A play that nothing hinders comes to the end of its script: for `Completes`.
use Rattle.std.proofs.Common.{◌≡◌, ℕ, ◌+◌, ◌<◌, ◌⊎◌, Bool, true, false, List, [], ◌∷◌, ◌++◌, length, Some, None, Ok, Err, Result, inl, inr, refl, sym, ap, ◌∙◌, append_assoc, arith, length-append}
use Rattle.std.proofs.lemmas.Bool.{cases_lt}
use Rattle.std.proofs.lemmas.List.{append-nil}
use Rattle.std.proofs.lemmas.Option.{none-some}
use Rattle.ldm_outside.specs.Io.{Gives}
use Rattle.ldm_status.specs.Streams.{StreamsRecord, AtEnd}
use Rattle.ldm_status.proofs.SourceLemmas.{parts, whole_at_end}
use Rattle.ldm_script.specs.Resolve.{Playing, new_play}
use Rattle.ldm_book.specs.declared.fault.CreateFault.{CreateFault}
use Rattle.ldm_book.specs.declared.fault.CreateFault.TheVariants as fault
use Rattle.ldm_play.specs.declared.play_command.ScriptEnd.{ScriptEnd}
use Rattle.ldm_play.specs.declared.play_command.ScriptEnd.TheVariants as script_end
use Rattle.ldm_play.specs.declared.play_command.TheConstants.{SCRIPT_LIMIT}
use Rattle.ldm_play.specs.declared.player.LineFault.TheVariants as stop
use Rattle.ldm_script.specs.declared.line.TheConstants.{LONGEST_LINE}
use Rattle.ldm_status.specs.declared.status.Status.TheVariants as status
use Rattle.ldm_script.specs.Lines.{Cut, cut, whole_lines, lines_of, last_line}
use Rattle.ldm_play.specs.Lines.{known_lines}
use Rattle.ldm_play.specs.Play.{BadLine, Played, play_line, play}
use Rattle.ldm_play.specs.Ending.{Size, ScriptEnds, PlaysScript, PlayEnds}
use Rattle.ldm_play.specs.OnBook.{RunsFreely}
use Rattle.ldm_status.specs.Status.{code_of, Reports}
use Rattle.ldm_play.specs.Statuses.{status_of_script, status_of_play}
use Rattle.ldm_play.specs.Complete.{Unhindered}
use Rattle.ldm_script.proofs.CutLemmas.{both, joined, cut-append}
use Rattle.ldm_play.proofs.PlayLineLemmas.{read_line-long, stops_at}
use Rattle.ldm_play.proofs.GoesOnLemmas.{known_lines-short}
use Rattle.ldm_play.proofs.PlayLemmas.{first_on, followed-on, play-append}

-- where a play does not stop, it does not stop at its first lines
before_on : (lines : List (List ℕ)) (number : ℕ) (p : Playing) (more : List (List ℕ)) → (play number p (lines ++ more)).stop ≡ None → (play number p lines).stop ≡ None
before_on [] number p more h = refl
before_on (line ∷ lines) number p more h =
    let first = play_line number p line in
    let on = first_on first (play (number + 1) first.playing (lines ++ more)) h in
    ap (λ (x : Played). x.stop) (followed-on first (play (number + 1) first.playing lines) on.0) ∙ before_on lines (number + 1) first.playing more on.1

-- nor at a line behind them
line_on : (lines : List (List ℕ)) (p : Playing) (line : List ℕ) (more : List (List ℕ)) → (play 1 p (lines ++ line ∷ more)).stop ≡ None → (play_line (1 + length lines) (play 1 p lines).playing line).stop ≡ None
line_on lines p line more h =
    let number = 1 + length lines in
    let last = play_line number (play 1 p lines).playing line in
    let behind : (play number (play 1 p lines).playing (line ∷ more)).stop ≡ None =
    sym (ap (λ (x : Played). x.stop) (play-append lines 1 p (line ∷ more) (before_on lines 1 p (line ∷ more) h))) ∙ h in
    (first_on last (play (number + 1) last.playing more) behind).0

-- the play stops at a line that is too long
long_stops : (number : ℕ) (p : Playing) (line : List ℕ) → LONGEST_LINE < length line → (play_line number p line).stop ≡ None → ⊥
long_stops number p line long on = none-some (record { line = number; column = LONGEST_LINE + 1 }) (sym on ∙ stops_at number p line (LONGEST_LINE + 1) (read_line-long line long))

-- a line that is not empty counts, though no newline ends it
last_line-some : (text : List ℕ) → 0 < length text → last_line text ≡ text ∷ []
last_line-some [] some = absurd (omega (arith, some))
last_line-some (byte ∷ bytes) some = refl

abbrev lines_by : Cut → List (List ℕ)
lines_by c = c.lines ++ last_line c.unfinished

-- whatever follows what is unfinished, it stands at the front of a line
behind_both : (first : Cut) (lines : List (List ℕ)) (rest : List ℕ) → 0 < length first.unfinished
    → (end : List ℕ) × (more : List (List ℕ)) × (lines_by (both first (record { lines = lines; unfinished = rest })) ≡ first.lines ++ (first.unfinished ++ end) ∷ more)
behind_both first [] rest some = (
  rest,
  [],
  ap (λ (ls : List (List ℕ)). ls ++ last_line (first.unfinished ++ rest)) (append-nil first.lines)
      ∙ ap (λ (ls : List (List ℕ)). first.lines ++ ls) (last_line-some (first.unfinished ++ rest) (omega (arith, some, length-append first.unfinished rest))),
)
behind_both first (line ∷ lines) rest some = (line, lines ++ last_line rest, append_assoc first.lines ((first.unfinished ++ line) ∷ lines) (last_line rest))

-- the whole lines of a script stand before all that follows
whole_before : (script rest : List ℕ) → (more : List (List ℕ)) × (lines_of (script ++ rest) ≡ whole_lines script ++ more)
whole_before script rest =
    let second = joined (cut script).unfinished (cut rest).lines (cut rest).unfinished in (
      second.lines ++ last_line second.unfinished,
      ap lines_by (cut-append script rest) ∙ append_assoc (whole_lines script) second.lines (last_line second.unfinished),
    )

-- where the play of a script does not stop, it does not stop at the lines that are known before its end
known_on : (p : Playing) (script rest : List ℕ) → (play 1 p (lines_of (script ++ rest))).stop ≡ None → (play 1 p (known_lines false script)).stop ≡ None
known_on p script rest on = elim (cases_lt LONGEST_LINE (length (cut script).unfinished)) [
  | inl long ↦
      let unfinished = (cut script).unfinished in
      let behind = behind_both (cut script) (cut rest).lines (cut rest).unfinished (omega (arith, long)) in
      let at_line = line_on (whole_lines script) p (unfinished ++ behind.0) behind.1
      (sym (ap (λ (ls : List (List ℕ)). (play 1 p ls).stop) (ap lines_by (cut-append script rest) ∙ behind.2)) ∙ on) in
      absurd (long_stops (1 + length (whole_lines script)) (play 1 p (whole_lines script)).playing (unfinished ++ behind.0) (omega (arith, long, length-append unfinished behind.0)) at_line)
  | inr short ↦
      let before = whole_before script rest in
      ap (λ (ls : List (List ℕ)). (play 1 p ls).stop) (known_lines-short script short)
      ∙ before_on (whole_lines script) 1 p before.0 (sym (ap (λ (ls : List (List ℕ)). (play 1 p ls).stop) before.1) ∙ on)
]

-- a play that nothing hinders
module _ (p : Playing) (old new : StreamsRecord) (free : RunsFreely p old new) where
  part : (taken : List ℕ) → Gives old.source taken new.source → (rest : List ℕ) × (new.source.left ≡ Some rest) × (free.script ≡ taken ++ rest)
  part taken gives = parts free.script taken old.source new.source free.told gives

  -- no more is taken than there is
  short_taken : (taken : List ℕ) → Gives old.source taken new.source → length taken < SCRIPT_LIMIT
  short_taken taken gives =
      let q = part taken gives in
      omega (arith, free.short, ap length q.2, length-append taken q.0)

  -- the play stops at no line outside the grammar
  no_bad_line : (bad : BadLine) (ended : Bool) (taken : List ℕ) → Gives old.source taken new.source → (ended ≡ true → AtEnd old.source new.source) → (play 1 p (known_lines ended taken)).stop ≡ Some bad → ⊥
  no_bad_line bad true taken gives at_end stops =
      let whole = whole_at_end free.script taken old.source new.source free.told gives (at_end refl) in
      none-some bad (sym free.good_lines ∙ ap (λ (t : List ℕ). (play 1 p (lines_of t)).stop) whole ∙ stops)
  no_bad_line bad false taken gives at_end stops =
      let q = part taken gives in
      none-some bad (sym (known_on p taken q.0 (sym (ap (λ (t : List ℕ). (play 1 p (lines_of t)).stop) q.2) ∙ free.good_lines)) ∙ stops)

  by_ending : (ending : ScriptEnd) (taken : List ℕ) → Gives old.source taken new.source → ScriptEnds ending p taken old new → ending ≡ script_end.Done
  by_ending script_end.Done taken gives ends = refl
  by_ending script_end.StreamLimit taken gives ends = absurd (omega (arith, short_taken taken gives, ends.0))
  by_ending script_end.SourceFault taken gives ends = absurd (free.source_works ends.1)
  by_ending (script_end.Stopped (stop.BadLine line column)) taken gives ends = absurd (no_bad_line (record { line = line; column = column }) ends.0 taken gives ends.1 ends.2.0)
  by_ending (script_end.Stopped stop.SinkFault) taken gives ends = absurd (free.sink_works ends.2.0)

  -- it comes to the end of its script
  pub script_done : (ending : ScriptEnd) → PlaysScript ending p old new → ending ≡ script_end.Done
  script_done ending plays = by_ending ending plays.script plays.taken plays.ends

module _ (size : Size) (old new : StreamsRecord) (free : Unhindered size old new) where
  runs_freely : RunsFreely (new_play size.arena size.slots) old new
  runs_freely = record {
    script = free.script;
    told = free.told;
    short = free.short;
    good_lines = free.good_lines;
    source_works = free.source_works;
    sink_works = free.sink_works;
  }

  comes_to_end : (ending : Result ScriptEnd CreateFault) → PlayEnds ending size old new → (status_of_play ending ≡ status.Done) ⊎ (status_of_play ending ≡ status.NoMemory)
  comes_to_end (Ok ending) ends = inl (ap status_of_script (script_done (new_play size.arena size.slots) old new runs_freely ending ends.2))
  comes_to_end (Err (fault.BadArena arena)) ends = absurd (ends.0.1 free.good_arena)
  comes_to_end (Err (fault.BadSlots slots)) ends = absurd (ends.0.2 free.good_slots)
  comes_to_end (Err fault.OutOfMemory) ends = inr refl

  pub completes : (ending : Result ScriptEnd CreateFault) (code : ℕ) → PlayEnds ending size old new → Reports (status_of_play ending) code old.log new.log → (code ≡ 0) ⊎ (code ≡ 71)
  completes ending code ends reports = elim reports [
    | inl told ↦ elim (comes_to_end ending ends) [ inl done ↦ inl (told.0 ∙ ap code_of done) | inr no_memory ↦ inr (told.0 ∙ ap code_of no_memory) ]
    | inr failed ↦ absurd (free.log_works failed.1)
  ]

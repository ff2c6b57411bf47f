-- What a play writes obeys the law of the queue.
use Rattle.std.proofs.Common.{◌≡◌, ℕ, Bool, true, false, cond, List, [], ◌∷◌, ◌++◌, length, Ok, Err, Result, inl, inr, refl, sym, ap, ◌∙◌, append_assoc, arith}
use Rattle.std.specs.Prelude.{nat_lt}
use Rattle.std.proofs.lemmas.Bool.{ltb-true}
use Rattle.std.proofs.lemmas.List.{append-nil}
use Rattle.ldm_outside.specs.Count.{Rose}
use Rattle.ldm_outside.specs.Io.{SinkRecord, Gives, Takes, WritesFront}
use Rattle.ldm_model.specs.declared.event.Entry.{Entry}
use Rattle.ldm_model.specs.History.{IsLegal}
use Rattle.ldm_status.specs.Streams.{StreamsRecord}
use Rattle.ldm_book.specs.declared.fault.CreateFault.{CreateFault}
use Rattle.ldm_script.specs.Lines.{cut, whole_lines, lines_of, last_line}
use Rattle.ldm_script.specs.Resolve.{Playing, new_play}
use Rattle.ldm_script.specs.declared.line.TheConstants.{LONGEST_LINE}
use Rattle.ldm_model.specs.Lawful.{IsLawful}
use Rattle.ldm_play.specs.declared.play_command.ScriptEnd.{ScriptEnd}
use Rattle.ldm_play.specs.declared.play_command.ScriptEnd.TheVariants as script_end
use Rattle.ldm_play.specs.declared.player.LineFault.{LineFault}
use Rattle.ldm_play.specs.declared.player.LineFault.TheVariants as stop
use Rattle.ldm_play.specs.Ending.{Size, AnswersKnownLines, StopsAt, PlaysScript, PlayEnds}
use Rattle.ldm_play.specs.Law.{WritesLawfulFrom, ObeysPlayLaw}
use Rattle.ldm_play.specs.Legal.{IsLegalPlay, StaysLegal}
use Rattle.ldm_play.specs.Lines.{known_lines}
use Rattle.ldm_play.specs.Play.{play}

-- all that a sink took is a front of it
whole_front : (old new : SinkRecord) (text : List ℕ) → Takes old text new → WritesFront old text new
whole_front old new text takes = (text, [], append-nil text, takes)

-- what is too long already stands at the front of the last line
too_long_within : (unfinished : List ℕ) (b : Bool) → nat_lt LONGEST_LINE (length unfinished) ≡ b
    → (rest : List (List ℕ)) × (cond b (unfinished ∷ []) [] ++ rest ≡ last_line unfinished)
too_long_within [] true long = absurd (let lt = ltb-true LONGEST_LINE 0 long in omega (arith, lt))
too_long_within (byte ∷ bytes) true long = ([], refl)
too_long_within unfinished false short = (last_line unfinished, refl)

-- the lines that are known are the first of all
known_within : (ended : Bool) (script : List ℕ) → (rest : List (List ℕ)) × (known_lines ended script ++ rest ≡ lines_of script)
known_within true script = ([], append-nil (lines_of script))
known_within false script =
    let unfinished = (cut script).unfinished in
    let long = nat_lt LONGEST_LINE (length unfinished) in
    let last = too_long_within unfinished long refl in
    (last.0, append_assoc (whole_lines script) (cond long (unfinished ∷ []) []) last.0 ∙ ap (λ (ls : List (List ℕ)). whole_lines script ++ ls) last.1)

module _ (lawful : (arena slots : ℕ) (history : List Entry) → IsLegal arena slots history → IsLawful arena slots history) (size : Size) where
  module _ (p : Playing) (legal : IsLegalPlay size.arena size.slots p) (old new : StreamsRecord) where
    module _ (script : List ℕ) (taken : Gives old.source script new.source) where
      writes : (lines rest : List (List ℕ)) → lines ++ rest ≡ lines_of script → StaysLegal p (play 1 p lines).playing
          → WritesFront old.sink (play 1 p lines).text new.sink → (¬ (Rose old.sink.faults new.sink.faults) → Takes old.sink (play 1 p lines).text new.sink) → WritesLawfulFrom size p old new
      writes lines rest first stays front whole =
          record {
            script = script;
            taken = taken;
            lines = lines;
            rest = rest;
            first = first;
            lawful = lawful size.arena size.slots (play 1 p lines).playing.history (stays size.arena size.slots legal).legal;
            front = front;
            whole = whole;
          }

      answers : AnswersKnownLines p script old.sink new.sink → WritesLawfulFrom size p old new
      answers known =
          let within = known_within false script in
          writes (known_lines false script) within.0 within.1 known.legal (whole_front old.sink new.sink (play 1 p (known_lines false script)).text known.written) (λ works. known.written)

      stops : (why : LineFault) (ended : Bool) → StopsAt why p (known_lines ended script) old.sink new.sink → WritesLawfulFrom size p old new
      stops (stop.BadLine line column) ended at =
          let within = known_within ended script in
          writes (known_lines ended script) within.0 within.1 at.2 (whole_front old.sink new.sink (play 1 p (known_lines ended script)).text at.1) (λ works. at.1)
      stops stop.SinkFault ended at =
          let within = known_within ended script in
          let part = at.2 in
          writes part.first (part.rest ++ within.0) (sym (append_assoc part.first part.rest within.0) ∙ ap (λ (ls : List (List ℕ)). ls ++ within.0) part.are ∙ within.1) part.legal part.written (λ works. absurd (works at.0))

    pub plays : (ending : ScriptEnd) → PlaysScript ending p old new → WritesLawfulFrom size p old new
    plays script_end.Done played =
        writes played.script played.taken (lines_of played.script) [] (append-nil (lines_of played.script)) played.ends.4
        (whole_front old.sink new.sink (play 1 p (lines_of played.script)).text played.ends.3) (λ works. played.ends.3)
    plays script_end.StreamLimit played = answers played.script played.taken played.ends.1
    plays script_end.SourceFault played = answers played.script played.taken played.ends.2
    plays (script_end.Stopped why) played = stops played.script played.taken why played.ends.0 played.ends.2

  pub obeys : (old new : StreamsRecord) (ending : Result ScriptEnd CreateFault) → PlayEnds ending size old new → ObeysPlayLaw size old new
  obeys old new (Ok ending) ends = inr (plays (new_play size.arena size.slots) (record { legal = tt; state = refl }) old new ending ends.2)
  obeys old new (Err fault) ends = inl ends.1

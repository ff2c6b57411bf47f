-- A message is gathered, and all that is gathered is sent.
use Rattle.std.proofs.Common.{◌≡◌, ◌∙◌, ℕ, List, [], ◌∷◌, ◌++◌, refl, sym, ap, append-nil}
use Rattle.ldm_outside.specs.Clock.{ClockRecord, Answers}
use Rattle.ldm_outside.specs.Link.{LinkRecord, IsNotClosed}
use Rattle.ldm_relay.specs.Sent.{Sent}
use Rattle.ldm_relay.specs.Spelling.{written, record_of}
use Rattle.ldm_shared.specs.Passes.{PassView}
use Rattle.ldm_shared.proofs.Made.{calls_none}
use Rattle.ldm_session.specs.Gathering as gathering
use Rattle.ldm_sender.specs.Deeds.{Deed, no_deed, records_of}
use Rattle.ldm_sender.specs.Does.{SendingMoment, moment_of}
use Rattle.ldm_sender.proofs.Doing.{Toward, toward_then, keeps_link, some_sent, exchanged_nothing}

-- a message is owed, and then the clock answers
abbrev pub message_deed : Sent → List ℕ → Deed
message_deed message instants = record { entries = []; bytes = records_of (message ∷ []); instants = instants }

-- It is gathered, and the clock has answered.
pub gathers : (pass : PassView) (link : LinkRecord) (clock clock' : ClockRecord) (out out' : List ℕ) (message : Sent)
    (at : ℕ) → IsNotClosed link
    → out' ≡ out ++ record_of (written message) → Answers at clock clock'
    → Toward [] (moment_of pass link clock out)
    (moment_of pass link clock' out') no_deed (message_deed message (at ∷ []))
gathers pass link clock clock' out out' message at unclosed appended answered = record {
  made = [];
  calls = calls_none pass;
  entries = refl;
  sent = [];
  exchanged = exchanged_nothing link;
  bytes = append-nil out' ∙ appended ∙ ap (λ (x : List ℕ). out ++ x) (sym (append-nil (record_of (written message))));
  asked = at ∷ [];
  answered = answered;
  instants = refl;
  link = keeps_link link unclosed;
}

-- All that is gathered is sent.
pub then_sent : (pass : PassView) (clock : ClockRecord) (gathered left : List ℕ) (old : SendingMoment)
    (link link' : LinkRecord) (all : Deed)
    → Toward [] old (moment_of pass link clock gathered) no_deed all → IsNotClosed link
    → gathering.MovesOn gathered link left link'
    → Toward [] old (moment_of pass link' clock left) no_deed all
then_sent pass clock gathered left old link link' all toward unclosed moves =
    toward_then [] [] old (moment_of pass link clock gathered)
    (moment_of pass link' clock left) no_deed no_deed all toward
    (some_sent pass clock gathered left link link' no_deed unclosed moves)

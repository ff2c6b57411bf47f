-- The end of the queue: all is sent, and the gate is asked.
use Rattle.std.proofs.Common.{◌≡◌, ◌∙◌, ℕ, ◌≤◌, false, List, [], ◌∷◌, ◌++◌, refl, sym, ap, subst, arith, append_assoc}
use Rattle.std.proofs.Common.{append-nil}
use Rattle.ldm_model.specs.declared.event.Entry.{Entry}
use Rattle.ldm_outside.specs.declared.gate.Go.{Go}
use Rattle.ldm_outside.specs.declared.gate.Go.TheVariants as go
use Rattle.ldm_outside.specs.Clock.{ClockRecord, Answers}
use Rattle.ldm_outside.specs.Gate.{GateRecord, Idles}
use Rattle.ldm_outside.specs.Io.{SinkRecord, Takes}
use Rattle.ldm_outside.specs.Link.{LinkRecord, IsNotClosed}
use Rattle.ldm_outside.proofs.CallerLemmas.{Takes-nothing}
use Rattle.ldm_relay.specs.Sent as sent
use Rattle.ldm_relay.specs.Spelling.{written, record_of}
use Rattle.ldm_shared.specs.Passes.{PassView}
use Rattle.ldm_shared.proofs.Made.{calls_none}
use Rattle.ldm_session.specs.Gaps.{gap_log}
use Rattle.ldm_session.specs.Gathering as gathering
use Rattle.ldm_session.proofs.CallerLemmas.{Exchanged-sent}
use Rattle.ldm_sender.specs.declared.end.SendEnd.TheVariants as end
use Rattle.ldm_sender.specs.Calls.{MayBeUnmade}
use Rattle.ldm_sender.specs.Deeds.{Deed, no_deed, records_of}
use Rattle.ldm_sender.specs.Does.{SendingMoment, moment_of, Does, Breaks}
use Rattle.ldm_session.specs.Part.{IsPart}
use Rattle.ldm_sender.specs.Acts.{Acts, BreaksAct, situation_of}
use Rattle.ldm_sender.specs.Idling.{quiet_act, alive_act, stop_act}
use Rattle.ldm_sender.proofs.Doing.{Toward, toward_then, all_done, send_failed, some_sent, keeps_link, keeps_link_sent}
use Rattle.ldm_sender.proofs.Doing.{exchanged_nothing}
use Rattle.ldm_sender.proofs.Fronts.{all_such}
use Rattle.ldm_sender.proofs.Messaging.{gathers, message_deed}

none_before : {A : Type 0} → (part rest : List A) → part ++ rest ≡ [] → part ≡ []
none_before [] rest is = refl
none_before (x ∷ part) rest is = absurd cc

-- nothing is logged
pub no_lines : (host : List ℕ) (log : SinkRecord) → Takes log (gap_log host []) log
no_lines host log = Takes-nothing log log refl

no_lines_of : (host : List ℕ) (log : SinkRecord) (called : List Entry) → IsPart false called []
    → Takes log (gap_log host called) log
no_lines_of host log called part =
    let P : List Entry → Type 0 = λ entries. Takes log (gap_log host entries) log in
    subst P (sym (none_before called part.0 part.1)) (no_lines host log)

-- the link failed before the gate was asked
pub fails_to_wait : (host : List ℕ) (pass : PassView) (clock : ClockRecord) (out left : List ℕ)
    (link link' : LinkRecord) (log : SinkRecord) (gate : GateRecord) → IsNotClosed link
    → link.faults ≤ link'.faults → gathering.Breaks out link link'
    → BreaksAct end.LinkFault host [] (situation_of (moment_of pass link clock out) log gate)
    (situation_of (moment_of pass link' clock left) log gate) stop_act
fails_to_wait host pass clock out left link link' log gate unclosed faults failed =
    let breaks = send_failed pass clock out left link link' stop_act.deed unclosed faults failed in
    record {
      breaks = breaks;
      unmade = all_such MayBeUnmade breaks.called [] breaks.called_part tt;
      logged = no_lines_of host log breaks.called breaks.called_part;
      goes = [];
      idled = refl;
      goes_part = (go.Stop ∷ [], refl, (refl, tt));
      beside = record { log = omega arith; stops = omega arith };
    }

-- all is sent
pub waits : (pass : PassView) (clock : ClockRecord) (out left : List ℕ) (link link' : LinkRecord) (all : Deed)
    → IsNotClosed link → gathering.MovesOn out link left link'
    → Toward [] (moment_of pass link clock out) (moment_of pass link' clock left) all all
waits pass clock out left link link' all unclosed moves = some_sent pass clock out left link link' all unclosed moves

-- the clock answered, and that was all
pub answers_last : (pass : PassView) (clock clock' : ClockRecord) (out : List ℕ) (link : LinkRecord) (at : ℕ)
    (instants bytes : List ℕ) → IsNotClosed link → Answers at clock clock'
    → Toward [] (moment_of pass link clock out) (moment_of pass link clock' out)
    (record { entries = []; bytes = bytes; instants = instants })
    (record { entries = []; bytes = bytes; instants = at ∷ instants })
answers_last pass clock clock' out link at instants bytes unclosed answered = record {
  made = [];
  calls = calls_none pass;
  entries = refl;
  sent = [];
  exchanged = exchanged_nothing link;
  bytes = refl;
  asked = at ∷ [];
  answered = answered;
  instants = refl;
  link = keeps_link link unclosed;
}

-- the gate was asked once
pub asked_gate : (host : List ℕ) (old new : SendingMoment) (log : SinkRecord) (gate gate' : GateRecord) (answer : Go)
    (deed : Deed) → deed.entries ≡ [] → Does [] old new deed → Idles answer gate gate'
    → gate.stops ≤ gate'.stops
    → Acts host [] (situation_of old log gate) (situation_of new log gate') (record { deed = deed; goes = answer ∷ [] })
asked_gate host old new log gate gate' answer deed none does idles stops =
    let P : List Entry → Type 0 = λ entries. Takes log (gap_log host entries) log in
    record {
      does = does;
      logged = subst P (sym none) (no_lines host log);
      idled = (gate', idles, refl);
      beside = record { log = omega arith; stops = stops };
    }

-- ---- the ends of waiting

pub went_on : (answer : Go) (old new : GateRecord) → (answer ≡ go.Stop → ⊥) → Idles answer old new → Idles go.On old new
went_on go.On old new not idles = idles
went_on go.Stop old new not idles = absurd (not refl)

-- the gate said to stop
pub waits_stop : (host : List ℕ) (pass : PassView) (clock : ClockRecord) (out left : List ℕ) (link link' : LinkRecord)
    (log : SinkRecord) (gate gate' : GateRecord) → IsNotClosed link
    → gathering.MovesOn out link left link' → Idles go.Stop gate gate' → gate.stops ≤ gate'.stops
    → Acts host [] (situation_of (moment_of pass link clock out) log gate)
    (situation_of (moment_of pass link' clock left) log gate') stop_act
waits_stop host pass clock out left link link' log gate gate' unclosed moves idles stops =
    let old = moment_of pass link clock out in
    let new = moment_of pass link' clock left in
    asked_gate host old new log gate gate' go.Stop no_deed refl
    (all_done [] old new no_deed (waits pass clock out left link link' no_deed unclosed moves)) idles stops

-- all is sent, and then the clock answers
waits_asks : (pass : PassView) (clock clock' : ClockRecord) (out left : List ℕ) (link link' : LinkRecord) (now : ℕ)
    (instants bytes : List ℕ) → IsNotClosed link → IsNotClosed link'
    → gathering.MovesOn out link left link' → Answers now clock clock'
    → Toward [] (moment_of pass link clock out) (moment_of pass link' clock' left)
    (record { entries = []; bytes = bytes; instants = instants })
    (record { entries = []; bytes = bytes; instants = now ∷ instants })
waits_asks pass clock clock' out left link link' now instants bytes unclosed still moves answered =
    let all : Deed = record { entries = []; bytes = bytes; instants = now ∷ instants } in
    let rest : Deed = record { entries = []; bytes = bytes; instants = instants } in
    toward_then [] [] (moment_of pass link clock out) (moment_of pass link' clock left)
    (moment_of pass link' clock' left) rest all all
    (waits pass clock out left link link' all unclosed moves)
    (answers_last pass clock clock' left link' now instants bytes still answered)

-- no message was due
pub waits_quiet : (host : List ℕ) (pass : PassView) (clock clock' : ClockRecord) (out left : List ℕ)
    (link link' : LinkRecord) (log : SinkRecord) (gate gate' : GateRecord) (now : ℕ)
    → IsNotClosed link → IsNotClosed link' → gathering.MovesOn out link left link' → Idles go.On gate gate'
    → gate.stops ≤ gate'.stops → Answers now clock clock'
    → Acts host [] (situation_of (moment_of pass link clock out) log gate)
    (situation_of (moment_of pass link' clock' left) log gate') (quiet_act now)
waits_quiet host pass clock clock' out left link link' log gate gate' now unclosed still moves idles stops answered =
    let old = moment_of pass link clock out in
    let new = moment_of pass link' clock' left in
    let deed = (quiet_act now).deed in
    asked_gate host old new log gate gate' go.On deed refl
    (all_done [] old new deed
    (waits_asks pass clock clock' out left link link' now [] [] unclosed still moves answered)) idles stops

-- a message was due
pub waits_alive : (host : List ℕ) (pass : PassView) (clock clock' clock'' : ClockRecord) (out left out' : List ℕ)
    (link link' : LinkRecord) (log : SinkRecord) (gate gate' : GateRecord) (next now at : ℕ)
    → IsNotClosed link → IsNotClosed link' → gathering.MovesOn out link left link' → Idles go.On gate gate'
    → gate.stops ≤ gate'.stops → Answers now clock clock'
    → out' ≡ left ++ record_of (written (sent.Isalive next)) → Answers at clock' clock''
    → Acts host [] (situation_of (moment_of pass link clock out) log gate)
    (situation_of (moment_of pass link' clock'' out') log gate') (alive_act next now at)
waits_alive host pass clock clock' clock'' out left out' link link' log gate gate' next now at unclosed still moves
    idles stops answered appended later =
    let old = moment_of pass link clock out in
    let mid = moment_of pass link' clock' left in
    let new = moment_of pass link' clock'' out' in
    let deed = (alive_act next now at).deed in
    let message = message_deed (sent.Isalive next) (at ∷ []) in
    let asked = waits_asks pass clock clock' out left link link' now (at ∷ []) deed.bytes unclosed still moves answered
    in
    let gathered = gathers pass link' clock' clock'' left out' (sent.Isalive next) at still appended later in
    asked_gate host old new log gate gate' go.On deed refl
    (all_done [] old new deed (toward_then [] [] old mid new no_deed message deed asked gathered)) idles stops

-- there was no memory for it
pub waits_short : (host : List ℕ) (pass : PassView) (clock clock' : ClockRecord) (out left out' : List ℕ)
    (link link' : LinkRecord) (log : SinkRecord) (gate gate' : GateRecord) (next now : ℕ)
    → IsNotClosed link → gathering.MovesOn out link left link' → left ≡ [] → Idles go.On gate gate'
    → gate.stops ≤ gate'.stops → Answers now clock clock'
    → (breaks : BreaksAct end.OutOfMemory host [] (situation_of (moment_of pass link clock out) log gate)
    (situation_of (moment_of pass link' clock' out') log gate') (alive_act next now 0)) × (breaks.breaks.sent ≡ out)
waits_short host pass clock clock' out left out' link link' log gate gate' next now unclosed moves empty idles stops
    answered =
    let old = moment_of pass link clock out in
    let new = moment_of pass link' clock' out' in
    let deed = (alive_act next now 0).deed in
    let breaks : Breaks [] old new deed = record {
      called = [];
      calls = calls_none pass;
      called_part = ([], refl);
      sent = moves.sent;
      exchanged = Exchanged-sent link link' moves.sent moves.is_sent;
      sent_part = (
        left ++ deed.bytes,
        sym (append_assoc moves.sent left deed.bytes)
            ∙ ap (λ (x : List ℕ). x ++ deed.bytes) (sym moves.all),
      );
      instants = now ∷ [];
      answered = answered;
      instants_part = (0 ∷ [], refl);
      link = keeps_link_sent link link' moves.sent unclosed moves.is_sent;
    } in
    let broke : BreaksAct end.OutOfMemory host [] (situation_of old log gate) (situation_of new log gate')
    (alive_act next now 0) = record {
      breaks = breaks;
      unmade = ([], refl, tt);
      logged = no_lines host log;
      goes = go.On ∷ [];
      idled = (gate', idles, refl);
      goes_part = ([], refl, tt);
      beside = record { log = omega arith; stops = stops };
    } in
    (broke, sym (moves.all ∙ ap (λ (x : List ℕ). moves.sent ++ x) empty ∙ append-nil moves.sent))

-- only the message is gathered still
pub message_left : (left out' : List ℕ) (next : ℕ) → out' ≡ left ++ record_of (written (sent.Isalive next)) → left ≡ []
    → out' ≡ records_of (sent.Isalive next ∷ [])
message_left left out' next appended empty =
    let message = record_of (written (sent.Isalive next)) in
    appended ∙ ap (λ (x : List ℕ). x ++ message) empty ∙ sym (append-nil message)

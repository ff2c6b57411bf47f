-- How a session begins: the calls that open its cursor, and the answer to the request.
use Rattle.std.proofs.Common.{◌≡◌, ◌∙◌, ℕ, List, [], Bool, true, false, Option, Some, None, refl, sym, ap, subst}
use Rattle.std.proofs.Common.{append-nil}
use Rattle.ldm_class.specs.Classes.{resumed}
use Rattle.ldm_model.specs.declared.event.Reply.TheVariants as reply
use Rattle.ldm_model.specs.declared.event.Entry.{Entry}
use Rattle.ldm_outside.specs.Count.{Rose}
use Rattle.ldm_outside.specs.Clock.{ClockRecord}
use Rattle.ldm_outside.specs.Gate.{GateRecord}
use Rattle.ldm_outside.specs.Io.{SinkRecord}
use Rattle.ldm_outside.specs.Link.{LinkRecord, IsNotClosed}
use Rattle.ldm_outside.proofs.CallerLemmas.{Rose-later}
use Rattle.ldm_relay.specs.declared.message.ClassAnswer.{ClassAnswer}
use Rattle.ldm_shared.specs.Passes.{PassView, Calls}
use Rattle.ldm_session.specs.Gaps.{gap_log}
use Rattle.ldm_session.proofs.CallerLemmas.{AnsweredAll-nothing}
use Rattle.ldm_sender.specs.declared.end.SendEnd.{SendEnd}
use Rattle.ldm_sender.specs.declared.end.SendEnd.TheVariants as end
use Rattle.ldm_sender.specs.Asked.{Asked}
use Rattle.ldm_sender.specs.Opening.{Answered, Denied, Reclassed, Busy, Opened, class_answer_of, closing_entries}
use Rattle.ldm_sender.specs.Opening.{opening_calls, opening_entries}
use Rattle.ldm_sender.specs.Answering.{answer_deed}
use Rattle.ldm_sender.specs.Stopping.{StopsSending}
use Rattle.ldm_sender.specs.Deeds.{Deed, and_then}
use Rattle.ldm_sender.specs.Calls.{MayBeUnmade}
use Rattle.ldm_sender.specs.Does.{SendingMoment, moment_of, Does, Breaks, KeepsLink, Each}
use Rattle.ldm_sender.specs.Acts.{Situation, situation_of, Act, then_act, ungated, Acts, BreaksAct, EndsAct, IsStop}
use Rattle.ldm_sender.specs.Acts.{is_whole}
use Rattle.ldm_sender.specs.Ending.{IsEndOf, StopsTurns, session_of}
use Rattle.ldm_sender.proofs.Acting.{acts_of, acts_break, acts_end, breaks_act_of, breaks_act_before}
use Rattle.ldm_sender.proofs.Doing.{does_then, keeps_link, exchanged_nothing}
use Rattle.ldm_sender.proofs.Steps.{none_in_front}

-- ---- the calls that open a cursor tell no loss

opened_silent : (host : List ℕ) (actor : ℕ) (asked : Asked) (named : Option (List ℕ)) (missed : Bool) (k : ℕ)
    → gap_log host (opening_calls actor asked named missed (reply.Opened k)) ≡ []
opened_silent host actor asked None missed k = refl
opened_silent host actor asked (Some signature) false k = refl
opened_silent host actor asked (Some signature) true k = refl

busy_silent : (host : List ℕ) (actor : ℕ) (asked : Asked) (named : Option (List ℕ)) (missed : Bool)
    → gap_log host (opening_calls actor asked named missed reply.AllBusy) ≡ []
busy_silent host actor asked None missed = refl
busy_silent host actor asked (Some signature) false = refl
busy_silent host actor asked (Some signature) true = refl

pub opening_silent : (host : List ℕ) (actor : ℕ) (asked : Asked) (answered : Answered)
    → gap_log host (opening_entries actor asked answered) ≡ []
opening_silent host actor asked (Denied rule) = refl
opening_silent host actor asked (Reclassed class) = refl
opening_silent host actor asked (Busy missed) = busy_silent host actor asked (resumed asked.class.specs.items) missed
opening_silent host actor asked (Opened missed k) =
    opened_silent host actor asked (resumed asked.class.specs.items) missed k

-- ---- and may be left out where they open none

busy_unmade : (actor : ℕ) (asked : Asked) (named : Option (List ℕ)) (missed : Bool)
    → Each MayBeUnmade (opening_calls actor asked named missed reply.AllBusy)
busy_unmade actor asked None missed = (tt, tt)
busy_unmade actor asked (Some signature) false = (tt, tt)
busy_unmade actor asked (Some signature) true = (tt, (tt, tt))

pub opening_unmade : (actor : ℕ) (asked : Asked) (answered : Answered) → closing_entries actor answered ≡ []
    → Each MayBeUnmade (opening_entries actor asked answered)
opening_unmade actor asked (Denied rule) none = tt
opening_unmade actor asked (Reclassed class) none = tt
opening_unmade actor asked (Busy missed) none = busy_unmade actor asked (resumed asked.class.specs.items) missed
opening_unmade actor asked (Opened missed k) none = absurd (cc none)

-- ---- how the request was answered

-- these calls were made
abbrev pub calls_deed : List Entry → Deed
calls_deed entries = record { entries = entries; bytes = []; instants = [] }

pub opening_done : (first pass : PassView) (link : LinkRecord) (clock : ClockRecord) (entries : List Entry)
    → IsNotClosed link → Calls first pass entries
    → Does [] (moment_of first link clock []) (moment_of pass link clock []) (calls_deed entries)
opening_done first pass link clock entries unclosed calls = record {
  calls = calls;
  sent = [];
  gathered = refl;
  exchanged = exchanged_nothing link;
  answered = AnsweredAll-nothing clock;
  link = keeps_link link unclosed;
}

-- what it comes to that these calls are made and the request is answered
abbrev pub answering : List Entry → ℕ → ClassAnswer → ℕ → Deed
answering entries xid answer at = and_then (calls_deed entries) (answer_deed xid answer at)

-- that a session begins
abbrev pub beginning : ℕ → Asked → Answered → ℕ → Act
beginning actor asked answered at =
    ungated (answering (opening_entries actor asked answered) asked.xid (class_answer_of answered) at)

pub beginning_done : (asked : Asked) (answered : Answered) (at : ℕ) (first pass : PassView) (link link' : LinkRecord)
    (clock clock' : ClockRecord) (out' : List ℕ) (log : SinkRecord) (gate : GateRecord)
    → IsNotClosed link → Calls first pass (opening_entries first.actor asked answered)
    → Does [] (moment_of pass link clock []) (moment_of pass link' clock' out')
    (answer_deed asked.xid (class_answer_of answered) at)
    → Acts asked.host [] (situation_of (moment_of first link clock []) log gate)
    (situation_of (moment_of pass link' clock' out') log gate) (beginning first.actor asked answered at)
beginning_done asked answered at first pass link link' clock clock' out' log gate unclosed calls answers =
    let entries = opening_entries first.actor asked answered in
    let old = moment_of first link clock [] in
    let new = moment_of pass link' clock' out' in
    let deed = answering entries asked.xid (class_answer_of answered) at in
    let does = does_then [] [] old (moment_of pass link clock []) new (calls_deed entries)
    (answer_deed asked.xid (class_answer_of answered) at)
    (opening_done first pass link clock entries unclosed calls) answers in
    let silent : gap_log asked.host deed.entries ≡ [] = ap (gap_log asked.host)
    (append-nil entries) ∙ opening_silent asked.host first.actor asked answered in
    acts_of asked.host [] old new log gate deed silent does

-- ---- with turns behind it

-- the session began, and went on up to an end
pub beginning_then : (why : SendEnd) (asked : Asked) (answered : Answered) (at : ℕ) (first : PassView) (came : List ℕ)
    (old mid new : Situation) (course : ℕ → Act) → old.moment.pass ≡ first
    → mid.moment.pass.actor ≡ first.actor → Acts asked.host [] old mid (beginning first.actor asked answered at)
    → EndsAct (is_whole why) why asked.host came mid new (course mid.moment.pass.actor)
    → EndsAct (is_whole why) why asked.host came old new (then_act (beginning first.actor asked answered at)
    (course first.actor))
beginning_then why asked answered at first came old mid new course same by began ended =
    acts_end (is_whole why) why asked.host [] came old mid new (beginning first.actor asked answered at)
    (course first.actor) began
    (subst (λ (a : ℕ). EndsAct (is_whole why) why asked.host came mid new (course a)) by ended)

-- the turns ended for a cause
pub end_of_turns : (why : SendEnd) (answered : Answered) (old mid new : Situation)
    → KeepsLink old.moment.link mid.moment.link → mid.log ≡ old.log → mid.gate ≡ old.gate
    → StopsTurns why mid new → IsEndOf why answered new.moment.pass (session_of old) (session_of new)
end_of_turns end.Stopped answered old mid new keeps log gate cause =
    subst (λ (g : GateRecord). Rose g.stops new.gate.stops) gate cause
end_of_turns end.Reclassed answered old mid new keeps log gate cause = absurd cause
end_of_turns (end.Denied rule) answered old mid new keeps log gate cause = absurd cause
end_of_turns (end.PeerEnd place) answered old mid new keeps log gate cause =
    Rose-later old.moment.link.ends mid.moment.link.ends new.moment.link.ends keeps.ends cause
end_of_turns end.LinkFault answered old mid new keeps log gate cause =
    Rose-later old.moment.link.faults mid.moment.link.faults new.moment.link.faults keeps.faults cause
end_of_turns end.LogFault answered old mid new keeps log gate cause =
    subst (λ (l : SinkRecord). Rose l.faults new.log.faults) log cause
end_of_turns (end.BadReply place) answered old mid new keeps log gate cause = tt
end_of_turns end.AllBusy answered old mid new keeps log gate cause = absurd cause
end_of_turns end.Worn answered old mid new keeps log gate cause = cause
end_of_turns end.OutOfMemory answered old mid new keeps log gate cause = tt

-- ---- where the answer broke off

-- the ends at which a message was not gathered or sent
abbrev pub IsCut : SendEnd → Type 0
IsCut end.LinkFault = Unit {0}
IsCut end.Worn = Unit {0}
IsCut end.OutOfMemory = Unit {0}
IsCut _ = ⊥

pub stops_cut : (why : SendEnd) (old new : SendingMoment) → StopsSending why old new → IsCut why
stops_cut end.Stopped old new stops = absurd stops
stops_cut end.Reclassed old new stops = absurd stops
stops_cut (end.Denied rule) old new stops = absurd stops
stops_cut (end.PeerEnd place) old new stops = absurd stops
stops_cut end.LinkFault old new stops = tt
stops_cut end.LogFault old new stops = absurd stops
stops_cut (end.BadReply place) old new stops = absurd stops
stops_cut end.AllBusy old new stops = absurd stops
stops_cut end.Worn old new stops = tt
stops_cut end.OutOfMemory old new stops = tt

pub cut_is : (why : SendEnd) → IsCut why → is_whole why ≡ false
cut_is end.Stopped cut = absurd cut
cut_is end.Reclassed cut = absurd cut
cut_is (end.Denied rule) cut = absurd cut
cut_is (end.PeerEnd place) cut = absurd cut
cut_is end.LinkFault cut = refl
cut_is end.LogFault cut = absurd cut
cut_is (end.BadReply place) cut = absurd cut
cut_is end.AllBusy cut = absurd cut
cut_is end.Worn cut = refl
cut_is end.OutOfMemory cut = refl

cut_cause : (why : SendEnd) (answered : Answered) (old : Situation) (mid : SendingMoment) (new : Situation)
    → old.moment.link ≡ mid.link → StopsSending why mid new.moment
    → IsEndOf why answered new.moment.pass (session_of old) (session_of new)
cut_cause end.Stopped answered old mid new same stops = absurd stops
cut_cause end.Reclassed answered old mid new same stops = absurd stops
cut_cause (end.Denied rule) answered old mid new same stops = absurd stops
cut_cause (end.PeerEnd place) answered old mid new same stops = absurd stops
cut_cause end.LinkFault answered old mid new same stops =
    subst (λ (l : LinkRecord). Rose l.faults new.moment.link.faults) (sym same) stops
cut_cause end.LogFault answered old mid new same stops = absurd stops
cut_cause (end.BadReply place) answered old mid new same stops = absurd stops
cut_cause end.AllBusy answered old mid new same stops = absurd stops
cut_cause end.Worn answered old mid new same stops = stops
cut_cause end.OutOfMemory answered old mid new same stops = tt

-- what it comes to, whatever was to come behind that may be left out
pub record AnswerBroke (why : SendEnd) (asked : Asked) (answered : Answered) (at : ℕ)
    (old new : Situation) : Type 0 where
  pub cut : IsCut why
  pub breaks : (behind : Act) → Each MayBeUnmade behind.deed.entries → Each IsStop behind.goes
      → BreaksAct why asked.host [] old new (then_act (beginning old.moment.pass.actor asked answered at) behind)
  pub cause : IsEndOf why answered new.moment.pass (session_of old) (session_of new)

pub answer_broke : (why : SendEnd) (asked : Asked) (answered : Answered) (at : ℕ) (first pass : PassView)
    (link link' : LinkRecord) (clock clock' : ClockRecord) (out' : List ℕ) (log : SinkRecord)
    (gate : GateRecord) → IsNotClosed link → Calls first pass (opening_entries first.actor asked answered)
    → Breaks [] (moment_of pass link clock []) (moment_of pass link' clock' out')
    (answer_deed asked.xid (class_answer_of answered) at)
    → StopsSending why (moment_of pass link clock []) (moment_of pass link' clock' out')
    → AnswerBroke why asked answered at (situation_of (moment_of first link clock []) log gate)
    (situation_of (moment_of pass link' clock' out') log gate)
answer_broke why asked answered at first pass link link' clock clock' out' log gate unclosed calls breaks stops =
    let entries = opening_entries first.actor asked answered in
    let old_moment = moment_of first link clock [] in
    let mid_moment = moment_of pass link clock [] in
    let new_moment = moment_of pass link' clock' out' in
    let old = situation_of old_moment log gate in
    let mid = situation_of mid_moment log gate in
    let new = situation_of new_moment log gate in
    let answers = answer_deed asked.xid (class_answer_of answered) at in
    let opened = acts_of asked.host [] old_moment mid_moment log gate (calls_deed entries)
    (opening_silent asked.host first.actor asked answered)
    (opening_done first pass link clock entries unclosed calls) in
    let silent : gap_log asked.host breaks.called ≡ [] =
    ap (gap_log asked.host) (none_in_front breaks.called breaks.called_part.0 breaks.called_part.1) in
    let broke = acts_break why asked.host [] [] old mid new (ungated (calls_deed entries)) (ungated answers) opened
    (breaks_act_of why asked.host [] mid_moment new_moment log gate answers breaks silent tt) in
    record {
      cut = stops_cut why mid_moment new_moment stops;
      breaks = λ behind minor stops. breaks_act_before why asked.host [] old new
          (beginning first.actor asked answered at) behind broke minor stops;
      cause = cut_cause why answered old mid_moment new refl stops;
    }

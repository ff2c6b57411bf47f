-- A whole feeding, put together of its parts, and what was heard of the peer.
use Rattle.std.proofs.Common.{◌≡◌, ℕ, List, [], ◌++◌, Bool, refl, subst}
use Rattle.ldm_model.specs.declared.event.Event.TheVariants.{Close}
use Rattle.ldm_model.specs.declared.event.Reply.TheVariants as reply
use Rattle.ldm_outside.specs.Io.{SinkRecord}
use Rattle.ldm_outside.specs.Gate.{GateRecord}
use Rattle.ldm_outside.specs.Clock.{ClockRecord}
use Rattle.ldm_outside.specs.Link.{LinkRecord, IsNotClosed}
use Rattle.ldm_outside.specs.Session.{SessionRecord, KeepsFaults}
use Rattle.ldm_shared.specs.Passes.{PassView, Makes, Calls, Grows, FindsWorn}
use Rattle.ldm_session.specs.declared.replies.Replies.{Replies}
use Rattle.ldm_session.specs.Hearing.{Heard}
use Rattle.ldm_session.specs.Owed.{Said, records_given}
use Rattle.ldm_sender.specs.declared.end.SendEnd.{SendEnd}
use Rattle.ldm_sender.specs.declared.end.SendEnd.TheVariants as end
use Rattle.ldm_sender.specs.Asked.{Asked}
use Rattle.ldm_sender.specs.Opening.{Answered, Opened, IsAnswerTo, class_answer_of, opening_entries}
use Rattle.ldm_sender.specs.Answering.{answer_deed}
use Rattle.ldm_sender.specs.Stopping.{StopsSending}
use Rattle.ldm_sender.specs.Does.{moment_of, Does, Breaks}
use Rattle.ldm_sender.specs.Acts.{Situation, situation_of}
use Rattle.ldm_sender.specs.Ending.{AwaitsNone, IsEndOf, IsLeft, session_of}
use Rattle.ldm_sender.proofs.Opened.{IsCut, stops_cut}
use Rattle.ldm_sender.proofs.Sent.{answer_broke_sent, turns_sent, unsent}
use Rattle.ldm_sender.proofs.Sent as sender
use Rattle.ldm_sender.proofs.Settling.{after, begins}
use Rattle.ldm_sender.proofs.Steps.{RowsStay}
use Rattle.ldm_sender.proofs.Unturned.{IsQuit, Unturned}
use Rattle.ldm_upstream.specs.Turn.{feeding_kind}
use Rattle.ldm_upstream.specs.Feeding.{codes_of, stands}
use Rattle.ldm_upstream.specs.Heard.{SaysLast}
use Rattle.ldm_upstream.specs.Course.{EndsTurns}
use Rattle.ldm_upstream.specs.Feeds.{Feeds, HasFed, HearsNone}
use Rattle.ldm_upstream.proofs.Stepping.{any_behind}
use Rattle.ldm_upstream.proofs.Turning.{feeding_lawful}

-- no reply came
nothing_said : (given : List ℕ) → Said given [] (records_given given)
nothing_said given = record { replies = []; records_are = refl; each = tt }

says_none : (why : SendEnd) → AwaitsNone why → (next : ℕ) (given : List ℕ) → SaysLast why next given []
says_none why none next given = record {
  behind = records_given given;
  said = nothing_said given;
  is_behind = any_behind why none next given (records_given given);
}

cut_awaits : (why : SendEnd) → IsCut why → AwaitsNone why
cut_awaits (end.PeerEnd place) cut = absurd cut
cut_awaits (end.BadReply place) cut = absurd cut
cut_awaits end.Stopped cut = tt
cut_awaits end.Reclassed cut = tt
cut_awaits (end.Denied rule) cut = tt
cut_awaits end.LinkFault cut = tt
cut_awaits end.LogFault cut = tt
cut_awaits end.AllBusy cut = tt
cut_awaits end.Worn cut = tt
cut_awaits end.OutOfMemory cut = tt

-- the answer broke off
pub cut_says : (why : SendEnd) → IsCut why → (next : ℕ) (given : List ℕ) → SaysLast why next given []
cut_says why cut = says_none why (cut_awaits why cut)

quit_awaits : (why : SendEnd) → IsQuit why → AwaitsNone why
quit_awaits (end.PeerEnd place) quits = absurd quits
quit_awaits (end.BadReply place) quits = absurd quits
quit_awaits end.Stopped quits = tt
quit_awaits end.Reclassed quits = tt
quit_awaits (end.Denied rule) quits = tt
quit_awaits end.LinkFault quits = tt
quit_awaits end.LogFault quits = tt
quit_awaits end.AllBusy quits = tt
quit_awaits end.Worn quits = tt
quit_awaits end.OutOfMemory quits = tt

-- where nothing was given nothing was heard
hears_nothing : (why : SendEnd) → HearsNone why []
hears_nothing end.Reclassed = refl
hears_nothing (end.Denied rule) = refl
hears_nothing end.AllBusy = refl
hears_nothing _ = tt

pub unfed : (why : SendEnd) (asked : Asked) (ahead : List ℕ) (old new : PassView) (before after : SessionRecord)
    → Unturned why asked old new before after
    → Feeds why asked ahead old new before after × KeepsFaults before after
unfed why asked ahead old new before after unturned =
    let sent = unsent feeding_kind feeding_lawful asked why old new before after unturned in (
      record {
        given = [];
        sends = sent.0;
        unheard = hears_nothing why;
        says = says_none why (quit_awaits why unturned.quits) 1 (ahead ++ []);
      },
      sent.1,
    )

-- an end behind a cursor that was opened is none before the first turn
hears_none : (why : SendEnd) (missed : Bool) (k : ℕ) (came : List ℕ) (final : PassView) (before after : SessionRecord)
    → IsEndOf why (Opened missed k) final before after
    → HearsNone why came
hears_none end.Reclassed missed k came final before after cause = absurd (cc cause.1)
hears_none (end.Denied rule) missed k came final before after cause = absurd (cc cause)
hears_none end.AllBusy missed k came final before after cause = absurd (cc cause.1)
hears_none end.Stopped missed k came final before after cause = tt
hears_none (end.PeerEnd at) missed k came final before after cause = tt
hears_none (end.BadReply at) missed k came final before after cause = tt
hears_none end.LinkFault missed k came final before after cause = tt
hears_none end.LogFault missed k came final before after cause = tt
hears_none end.Worn missed k came final before after cause = tt
hears_none end.OutOfMemory missed k came final before after cause = tt

-- the cursor was opened, the peer was told so, and turns were made until they ended
pub turns_fed : (why : SendEnd) (asked : Asked) (missed : Bool) (k at : ℕ) (first pass : PassView)
    (link mid_link : LinkRecord) (clock mid_clock : ClockRecord) (mid_out : List ℕ) (log : SinkRecord)
    (gate : GateRecord) (new : Situation) (replies : Replies) (ahead : List ℕ) → IsNotClosed link
    → IsAnswerTo asked (Opened missed k) → Makes first pass (opening_entries first.actor asked (Opened missed k))
    → Does [] (moment_of pass link clock []) (moment_of pass mid_link mid_clock mid_out)
    (answer_deed asked.xid (class_answer_of (Opened missed k)) at)
    → EndsTurns why asked k (record { next = 1; sent_at = at })
    (situation_of (moment_of pass mid_link mid_clock mid_out) log gate) new replies → Heard ahead [] replies
    → HasFed why asked ahead (Opened missed k) (begins first link clock log gate) new
turns_fed why asked missed k at first pass link mid_link clock mid_clock mid_out log gate new replies ahead unclosed
    answer makes answers turns heard = record {
      came = turns.came;
      sends =
          turns_sent feeding_kind feeding_lawful asked why missed k at first pass link mid_link clock mid_clock mid_out log
          gate new turns.course turns.came unclosed answer makes answers turns.ends;
      says = turns.heard ahead [] heard;
    }

-- the answer broke off
pub answer_broke_fed : (why : SendEnd) (asked : Asked) (ahead : List ℕ) (answered : Answered) (at : ℕ)
    (first pass : PassView) (link link' : LinkRecord) (clock clock' : ClockRecord) (out' : List ℕ) (log : SinkRecord)
    (gate : GateRecord) → IsNotClosed link → IsAnswerTo asked answered
    → Calls first pass (opening_entries first.actor asked answered)
    → Breaks [] (moment_of pass link clock []) (moment_of pass link' clock' out')
    (answer_deed asked.xid (class_answer_of answered) at)
    → StopsSending why (moment_of pass link clock []) (moment_of pass link' clock' out')
    → HasFed why asked ahead answered (begins first link clock log gate)
    (situation_of (moment_of pass link' clock' out') log gate)
answer_broke_fed why asked ahead answered at first pass link link' clock clock' out' log gate unclosed answer calls
    breaks stops = record {
      came = [];
      sends =
          answer_broke_sent feeding_kind feeding_lawful asked why answered at first pass link link' clock clock' out' log
          gate unclosed answer calls breaks stops;
      says = says_none why
          (cut_awaits why (stops_cut why (moment_of pass link clock []) (moment_of pass link' clock' out') stops)) 1
          (ahead ++ []);
    }

-- ---- the cursor is closed, and the link or not

module _ (law : RowsStay) (asked : Asked) (ahead : List ℕ) (missed : Bool) (k : ℕ) (first final : PassView)
    (link : LinkRecord) (clock : ClockRecord) (log : SinkRecord) (gate : GateRecord) where
  abbrev began : Situation
  began = begins first link clock log gate

  abbrev ComesTo : SendEnd → SessionRecord → Type 0
  ComesTo why then = Feeds why asked ahead first final (session_of began) then × KeepsFaults (session_of began) then

  -- what was heard stands in what was sent
  comes_to : (why : SendEnd) (came : List ℕ) (then : SessionRecord)
      → (sent : sender.ComesTo feeding_kind feeding_lawful asked law first final link clock log gate why came then)
      → sent.0.sending.answered ≡ Opened missed k
      → SaysLast why (stands sent.0.sending).next (ahead ++ came) (codes_of sent.0.sending) → ComesTo why then
  comes_to why came then sent is says = (
    record {
      given = came;
      sends = sent.0;
      unheard = hears_none why missed k came final (session_of began) then
          (subst (λ (a : Answered). IsEndOf why a final (session_of began) then) is sent.0.cause);
      says = says;
    },
    sent.1,
  )

  -- it was closed
  pub closes : (why : SendEnd) (new : Situation) (closed : Bool) → (why ≡ end.Worn → ⊥)
      → HasFed why asked ahead (Opened missed k) began new → new.moment.pass.actor ≡ first.actor
      → Grows new.moment.pass final (Close k) reply.Closed → IsLeft why (record new.moment.link { closed = closed })
      → ComesTo why (after new closed)
  closes why new closed not_worn fed same grows left =
      comes_to why fed.came (after new closed)
      (sender.closes feeding_kind feeding_lawful asked law first final link clock log gate why fed.came missed k new closed
      not_worn fed.sends same grows left) fed.sends.is_answered fed.says

  -- the queue has had all its calls
  pub worn : (why : SendEnd) (new : Situation) → why ≡ end.Worn → new.moment.pass ≡ final → IsNotClosed new.moment.link
      → HasFed why asked ahead (Opened missed k) began new → ComesTo why (session_of new)
  worn why new is same unclosed fed =
      comes_to why fed.came (session_of new)
      (sender.worn_sent feeding_kind feeding_lawful asked law first final link clock log gate why fed.came
      (Opened missed k) new is same unclosed fed.sends) fed.sends.is_answered fed.says

  pub worn_at_close : (why : SendEnd) (new : Situation) (turns : ℕ) → IsNotClosed new.moment.link
      → HasFed why asked ahead (Opened missed k) began new → FindsWorn new.moment.pass final turns
      → ComesTo end.Worn (session_of new)
  worn_at_close why new turns unclosed fed found =
      comes_to end.Worn fed.came (session_of new)
      (sender.worn_closes feeding_kind feeding_lawful asked law first final link clock log gate why fed.came
      (Opened missed k) new turns unclosed fed.sends found) fed.sends.is_answered
      (record { behind = fed.says.behind; said = fed.says.said; is_behind = tt })

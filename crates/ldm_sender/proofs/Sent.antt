-- A whole session, put together of its parts: how the request was answered, the turns, the end, and the cursor closed.
use Rattle.std.proofs.Common.{◌≡◌, ◌∙◌, ℕ, List, [], ◌++◌, Bool, refl, sym, ap, subst, append_assoc}
use Rattle.std.proofs.Common.{append-nil}
use Rattle.ldm_model.specs.declared.event.Event.TheVariants.{Close}
use Rattle.ldm_model.specs.declared.event.Reply.TheVariants as reply
use Rattle.ldm_model.specs.declared.event.Entry.{Entry}
use Rattle.ldm_outside.specs.Io.{SinkRecord}
use Rattle.ldm_outside.specs.Gate.{GateRecord}
use Rattle.ldm_outside.specs.Clock.{ClockRecord}
use Rattle.ldm_outside.specs.Link.{LinkRecord, IsNotClosed}
use Rattle.ldm_outside.specs.Session.{SessionRecord, KeepsFaults}
use Rattle.ldm_relay.specs.Sent as sent
use Rattle.ldm_relay.specs.Spelling.{record_of, written}
use Rattle.ldm_shared.specs.Passes.{PassView, Makes, Calls, Grows, FindsWorn}
use Rattle.ldm_shared.proofs.Made.{calls_none, calls_some}
use Rattle.ldm_sender.specs.declared.end.SendEnd.{SendEnd}
use Rattle.ldm_sender.specs.declared.end.SendEnd.TheVariants as end
use Rattle.ldm_sender.specs.Asked.{Asked}
use Rattle.ldm_sender.specs.Opening.{Answered, Denied, Reclassed, Busy, Opened, IsAnswerTo, class_answer_of}
use Rattle.ldm_sender.specs.Opening.{opening_entries, place_of}
use Rattle.ldm_sender.specs.Answering.{answer_deed}
use Rattle.ldm_sender.specs.Stopping.{StopsSending}
use Rattle.ldm_sender.specs.Deeds.{records_of}
use Rattle.ldm_sender.specs.Does.{moment_of, Does, Breaks}
use Rattle.ldm_sender.specs.Acts.{Situation, situation_of, Act, then_act, EndsAct, is_whole, IsAllSent}
use Rattle.ldm_sender.specs.Ending.{session_of, closing_of, IsLeft, IsEndOf}
use Rattle.ldm_sender.specs.Turn.{Kind}
use Rattle.ldm_sender.specs.Turns.{messages_of_turns, entries_of_turns}
use Rattle.ldm_sender.specs.Sending.{Sending, Last, GoesOn, MayTurn, begun, stands, last_entries, last_messages}
use Rattle.ldm_sender.specs.Sending.{given_of}
use Rattle.ldm_sender.specs.Course.{Course, IsLastOf, EndsTurns, course_act}
use Rattle.ldm_sender.specs.Sends.{Sends, HasSent, sending_act}
use Rattle.ldm_sender.proofs.Acting.{deed_is, act_is, breaks_same, ends_same}
use Rattle.ldm_sender.proofs.Opened.{answer_broke, beginning, beginning_done, beginning_then, cut_is}
use Rattle.ldm_sender.proofs.Opened.{end_of_turns}
use Rattle.ldm_sender.proofs.Settling.{Settles, after, begins, cause_closed, cause_moves, closing_calls, settles, worn_act}
use Rattle.ldm_sender.proofs.Steps.{RowsStay, records-append, then_act-none}
use Rattle.ldm_sender.proofs.Stepping.{cut_last, with_pass}
use Rattle.ldm_sender.proofs.Turning.{IsLawful, no_rows, rows_stay}
use Rattle.ldm_sender.proofs.Unturned.{IsQuit, Unturned}

-- a session, by its turns
abbrev pub sending_by : {P H : Type 0} → Answered → ℕ → Course P H → Sending P H
sending_by answered at course =
    record { answered = answered; answered_at = at; turns = course.turns; last = course.last }

-- its turns
abbrev pub course_of : {P H : Type 0} → Sending P H → Course P H
course_of sending = record { turns = sending.turns; last = sending.last }

-- the request was answered, and no turn was made
abbrev pub answer_only : {P H : Type 0} → Answered → ℕ → Sending P H
answer_only answered at = record { answered = answered; answered_at = at; turns = []; last = GoesOn }

pub may_turn : (P H : Type 0) (answered : Answered) → MayTurn {P = P} {H = H} answered [] GoesOn
may_turn P H (Denied rule) = (refl, refl)
may_turn P H (Reclassed class) = (refl, refl)
may_turn P H (Busy missed) = (refl, refl)
may_turn P H (Opened missed k) = tt

pub quit_last : {P : Type 0} → (why : SendEnd) → IsQuit why → (last : Last P) → IsLastOf why last
quit_last (end.Denied rule) quits last = tt
quit_last end.Reclassed quits last = tt
quit_last end.AllBusy quits last = tt
quit_last end.LinkFault quits last = tt
quit_last end.Worn quits last = tt
quit_last end.OutOfMemory quits last = tt
quit_last end.Stopped quits last = absurd quits
quit_last (end.PeerEnd place) quits last = absurd quits
quit_last end.LogFault quits last = absurd quits
quit_last (end.BadReply place) quits last = absurd quits

module _ {P H : Type 0} (kind : Kind P H) (lawful : IsLawful kind) (asked : Asked) where
  -- a session is its opening, its answer, its turns and its end
  pub sending_is : (actor k : ℕ) (sending : Sending P H) → place_of sending.answered ≡ k
      → then_act (beginning actor asked sending.answered sending.answered_at)
      (course_act kind actor k (begun sending) (course_of sending)) ≡ sending_act kind actor asked sending
  sending_is actor k sending place =
      let opening = opening_entries actor asked sending.answered in
      let answer = class_answer_of sending.answered in
      let first = record_of (written (sent.FeedmeReply asked.xid answer)) in
      let messages = messages_of_turns kind (begun sending) sending.turns in
      let last = last_messages kind (stands kind sending).next sending.last in
      let behind = λ (n : ℕ). entries_of_turns kind actor n sending.turns in
      let last_ones = λ (n : ℕ). last_entries kind actor n sending.last in
      act_is _ _ _ _
      (deed_is _ _ _ _ _ _
      (ap (λ (es : List Entry). es ++ (behind k ++ last_ones k)) (append-nil opening)
      ∙ sym (append_assoc opening (behind k) (last_ones k))
      ∙ ap (λ (n : ℕ). opening ++ behind n ++ last_ones n) (sym place))
      (ap (λ (x : List ℕ). x ++ (records_of messages ++ records_of last)) (append-nil first)
      ∙ ap (λ (x : List ℕ). first ++ x) (sym (records-append messages last))
      ∙ ap (λ (x : List ℕ). record_of x ++ records_of (messages ++ last)) (lawful.answers asked.xid answer)) refl)
      refl

  -- ---- with a cursor

  -- the cursor was opened, the peer was told so, and turns were made until they ended
  abbrev pub turns_sent : (why : SendEnd) (missed : Bool) (k at : ℕ) (first pass : PassView) (link mid_link : LinkRecord)
      (clock mid_clock : ClockRecord) (mid_out : List ℕ) (log : SinkRecord) (gate : GateRecord) (new : Situation)
      (course : Course P H) (came : List ℕ) → IsNotClosed link → IsAnswerTo asked (Opened missed k)
      → Makes first pass (opening_entries first.actor asked (Opened missed k))
      → Does [] (moment_of pass link clock []) (moment_of pass mid_link mid_clock mid_out)
      (answer_deed asked.xid (class_answer_of (Opened missed k)) at)
      → EndsTurns kind why asked k (record { next = 1; sent_at = at }) course came
      (situation_of (moment_of pass mid_link mid_clock mid_out) log gate) new
      → HasSent kind why asked came (Opened missed k) (begins first link clock log gate) new
  turns_sent why missed k at first pass link mid_link clock mid_clock mid_out log gate new course came unclosed answer
      makes answers turns =
      let answered = Opened missed k in
      let sending : Sending P H = sending_by answered at course in
      let old = begins first link clock log gate in
      let mid = situation_of (moment_of pass mid_link mid_clock mid_out) log gate in
      let began = beginning_done asked answered at first pass link mid_link clock mid_clock mid_out log gate unclosed
      (calls_some first pass (opening_entries first.actor asked answered) makes) answers in
      record {
        sending = sending;
        is_answered = refl;
        is_sending = record { answered = answer; turns = turns.are_turns; last = turns.is_last; opened = tt };
        ends =
            ends_same (is_whole why) why asked.host came old new _ _ (sending_is first.actor k sending refl)
            (beginning_then why asked answered at first came old mid new
            (λ (a : ℕ). course_act kind a k (begun sending) course) refl
            (ap (λ (p : PassView). p.actor) makes.same) began turns.ends);
        all_sent = turns.all_sent;
        rows = turns.rows;
        last = turns.last_of_end;
        cause = end_of_turns why answered old mid new began.does.link refl refl turns.cause;
      }

  -- ---- without turns

  -- the answer broke off
  abbrev pub answer_broke_sent : (why : SendEnd) (answered : Answered) (at : ℕ) (first pass : PassView)
      (link link' : LinkRecord) (clock clock' : ClockRecord) (out' : List ℕ) (log : SinkRecord) (gate : GateRecord)
      → IsNotClosed link → IsAnswerTo asked answered → Calls first pass (opening_entries first.actor asked answered)
      → Breaks [] (moment_of pass link clock []) (moment_of pass link' clock' out')
      (answer_deed asked.xid (class_answer_of answered) at)
      → StopsSending why (moment_of pass link clock []) (moment_of pass link' clock' out')
      → HasSent kind why asked [] answered (begins first link clock log gate)
      (situation_of (moment_of pass link' clock' out') log gate)
  answer_broke_sent why answered at first pass link link' clock clock' out' log gate unclosed answer calls breaks
      stops =
      let sending : Sending P H = answer_only answered at in
      let old = begins first link clock log gate in
      let new = situation_of (moment_of pass link' clock' out') log gate in
      let broke = answer_broke why asked answered at first pass link link' clock clock' out' log gate unclosed calls
      breaks stops in
      let place = place_of answered in
      let behind = course_act kind first.actor place (begun sending) (course_of sending) in
      let act = sending_act kind first.actor asked sending in
      let part = cut_is why broke.cut in
      record {
        sending = sending;
        is_answered = refl;
        is_sending = record { answered = answer; turns = tt; last = tt; opened = may_turn P H answered };
        ends =
            subst (λ (b : Bool). EndsAct b why asked.host [] old new act) (sym part)
            (breaks_same why asked.host [] old new (then_act (beginning first.actor asked answered at) behind) act
            (sending_is first.actor place sending refl) (broke.breaks behind tt tt));
        all_sent = subst (λ (b : Bool). IsAllSent b out') (sym part) tt;
        rows = no_rows kind pass;
        last = cut_last why broke.cut GoesOn;
        cause = broke.cause;
      }

  -- no turn was made, and no cursor is to be closed
  abbrev pub unsent : (why : SendEnd) (old new : PassView) (before after : SessionRecord)
      → (unturned : Unturned why asked old new before after)
      → Sends kind why asked [] old new before after × KeepsFaults before after
  unsent why old new before after unturned =
      let sending : Sending P H = answer_only unturned.answered unturned.at in
      let closing = closing_of old.actor why unturned.answered in
      let only : beginning old.actor asked unturned.answered unturned.at ≡ sending_act kind old.actor asked sending =
      sym (then_act-none (beginning old.actor asked unturned.answered unturned.at))
      ∙ sending_is old.actor (place_of unturned.answered) sending refl in
      let settled = subst (λ (act : Act). Settles why asked.host act closing [] old new before after) only
      unturned.settles in (
        record {
          sending = sending;
          is_sending = record { answered = unturned.is; turns = tt; last = tt; opened = may_turn P H unturned.answered };
          called = settled.called;
          called_part = settled.called_part;
          made = settled.made;
          rows = no_rows kind new;
          sent = settled.sent;
          sent_part = settled.sent_part;
          exchanged = settled.exchanged;
          left = settled.left;
          instants = settled.instants;
          instants_part = settled.instants_part;
          answered = settled.answered;
          goes = settled.goes;
          goes_part = settled.goes_part;
          idled = settled.idled;
          logged = settled.logged;
          last = quit_last why unturned.quits GoesOn;
          cause = unturned.cause;
        },
        settled.counts,
      )

  -- ---- the cursor is closed, where one was opened, and the link or not

  module _ (law : RowsStay) (first final : PassView) (link : LinkRecord) (clock : ClockRecord) (log : SinkRecord)
      (gate : GateRecord) where
    abbrev pub began : Situation
    began = begins first link clock log gate

    abbrev pub ComesTo : SendEnd → List ℕ → SessionRecord → Type 0
    ComesTo why given then = Sends kind why asked given first final (session_of began) then
        × KeepsFaults (session_of began) then

    abbrev pub sends : (why : SendEnd) (given : List ℕ) (answered : Answered) (new : Situation) (closed : Bool)
        → HasSent kind why asked given answered began new
        → Calls new.moment.pass final (closing_of first.actor why answered)
        → IsLeft why (record new.moment.link { closed = closed })
        → IsEndOf why answered final (session_of began) (session_of new) → ComesTo why given (after new closed)
    sends why given answered new closed had closing left cause =
        let act = sending_act kind first.actor asked had.sending in
        let closes = subst (λ (a : Answered). Calls new.moment.pass final (closing_of first.actor why a))
        (sym had.is_answered) closing in
        let here = subst (λ (a : Answered). IsEndOf why a final (session_of began) (session_of new)) (sym had.is_answered)
        cause in
        let settled = settles why asked.host given act (closing_of first.actor why had.sending.answered) began
        new final closed refl had.ends had.all_sent closes left in (
          record {
            sending = had.sending;
            is_sending = had.is_sending;
            called = settled.called;
            called_part = settled.called_part;
            made = settled.made;
            rows = rows_stay kind lawful law new.moment.pass final _ (given_of had.sending) closes had.rows;
            sent = settled.sent;
            sent_part = settled.sent_part;
            exchanged = settled.exchanged;
            left = settled.left;
            instants = settled.instants;
            instants_part = settled.instants_part;
            answered = settled.answered;
            goes = settled.goes;
            goes_part = settled.goes_part;
            idled = settled.idled;
            logged = settled.logged;
            last = had.last;
            cause = cause_closed why had.sending.answered final (session_of began) new closed here;
          },
          settled.counts,
        )

    -- it was closed
    abbrev pub closes : (why : SendEnd) (given : List ℕ) (missed : Bool) (k : ℕ) (new : Situation) (closed : Bool)
        → (why ≡ end.Worn → ⊥) → HasSent kind why asked given (Opened missed k) began new
        → new.moment.pass.actor ≡ first.actor → Grows new.moment.pass final (Close k) reply.Closed
        → IsLeft why (record new.moment.link { closed = closed }) → ComesTo why given (after new closed)
    closes why given missed k new closed not_worn had same grows left =
        let cause = cause_moves why had.sending.answered new.moment.pass final (session_of began) (session_of new)
        not_worn had.cause in
        sends why given (Opened missed k) new closed had
        (closing_calls why first new.moment.pass final missed k not_worn same grows) left
        (subst (λ (a : Answered). IsEndOf why a final (session_of began) (session_of new)) had.is_answered cause)

    -- the queue was found to have had all its calls, when the cursor was to be closed
    abbrev pub worn_at_close : (why : SendEnd) (given : List ℕ) (answered : Answered) (new : Situation) (turns : ℕ)
        → HasSent kind why asked given answered began new → FindsWorn new.moment.pass final turns
        → HasSent kind end.Worn asked given answered began (with_pass new final)
    worn_at_close why given answered new turns had worn =
        let m = new.moment in
        let calls = calls_some m.pass final [] worn.makes in
        record {
          sending = had.sending;
          is_answered = had.is_answered;
          is_sending = had.is_sending;
          ends =
              worn_act (is_whole why) why asked.host given began m.pass final m.link m.clock m.out new.log new.gate
              (sending_act kind first.actor asked had.sending) calls had.ends;
          all_sent = tt;
          rows = rows_stay kind lawful law m.pass final [] (given_of had.sending) calls had.rows;
          last = tt;
          cause = worn.long ∙ worn.turns_are;
        }

    -- it had had them before
    abbrev pub worn_sent : (why : SendEnd) (given : List ℕ) (answered : Answered) (new : Situation) → why ≡ end.Worn
        → new.moment.pass ≡ final → IsNotClosed new.moment.link → HasSent kind why asked given answered began new
        → ComesTo why given (session_of new)
    worn_sent why given answered new is same unclosed had =
        let P : SendEnd → Type 0 = λ w. Calls new.moment.pass final (closing_of first.actor w answered) in
        let Q : SendEnd → Type 0 = λ w. IsLeft w new.moment.link in
        let R : PassView → Type 0 = λ p. IsEndOf why had.sending.answered p (session_of began) (session_of new) in
        let none = subst (λ (p : PassView). Calls new.moment.pass p []) same (calls_none new.moment.pass) in
        sends why given answered new new.moment.link.closed had (subst P (sym is) none) (subst Q (sym is) unclosed)
        (subst (λ (a : Answered). IsEndOf why a final (session_of began) (session_of new)) had.is_answered
        (subst R same had.cause))

    -- the queue was found to have had them when the cursor was to be closed
    abbrev pub worn_closes : (why : SendEnd) (given : List ℕ) (answered : Answered) (new : Situation) (turns : ℕ)
        → IsNotClosed new.moment.link → HasSent kind why asked given answered began new
        → FindsWorn new.moment.pass final turns → ComesTo end.Worn given (session_of new)
    worn_closes why given answered new turns unclosed had worn =
        worn_sent end.Worn given answered (with_pass new final) refl refl unclosed
        (worn_at_close why given answered new turns had worn)

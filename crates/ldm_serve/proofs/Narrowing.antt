-- A request for a class of which a part is left to the host: what a feeding and a session of notices come to then.
use Rattle.std.proofs.Common.{◌≡◌, ◌∙◌, ℕ, false, List, [], ◌∷◌, ◌++◌, Option, Some, None, refl, ap, subst, append-nil}
use Rattle.std.specs.Option.{option_map}
use Rattle.ldm_types.specs.declared.class.ClassSpec.{ClassSpec}
use Rattle.ldm_class.specs.Access.{reduce}
use Rattle.ldm_class.specs.Rules.{rules_for}
use Rattle.ldm_class.specs.declared.answers.Reduced.TheVariants.{Fewer}
use Rattle.ldm_model.specs.declared.event.Entry.{Entry}
use Rattle.ldm_outside.specs.declared.gate.Go.{Go}
use Rattle.ldm_outside.specs.Io.{Takes}
use Rattle.ldm_relay.specs.Sent.{Sent}
use Rattle.ldm_relay.specs.Sent as sent
use Rattle.ldm_relay.specs.declared.message.ClassAnswer.TheVariants as class_answer
use Rattle.ldm_relay.specs.declared.message.Feedme.{Feedme}
use Rattle.ldm_relay.specs.declared.message.Notifyme.{Notifyme}
use Rattle.ldm_session.specs.Exchange.{Exchanged, AnsweredAll, IdledAll}
use Rattle.ldm_session.specs.Gaps.{gap_log}
use Rattle.ldm_shared.specs.Passes.{Calls}
use Rattle.ldm_sender.specs.declared.end.SendEnd.TheVariants as send
use Rattle.ldm_sender.specs.Asked.{asked_of}
use Rattle.ldm_sender.specs.Ending.{closing_of}
use Rattle.ldm_sender.specs.Opening.{Answered, Reclassed, IsAnswerTo}
use Rattle.ldm_relay.specs.Spelling.{records_of}
use Rattle.ldm_upstream.specs.Feeding as feeding
use Rattle.ldm_upstream.specs.Feeds.{Feeds}
use Rattle.ldm_upstream.specs.Turn as feed_turn
use Rattle.ldm_notify.specs.declared.end.NoteEnd.TheVariants as notified
use Rattle.ldm_notify.specs.Notifying as notifying
use Rattle.ldm_notify.specs.Notifies.{Notifies}
use Rattle.ldm_notify.specs.Turn as notify_turn
use Rattle.ldm_serve.specs.Client.{Client}
use Rattle.ldm_serve.specs.Connection.{ServingMoment}
use Rattle.ldm_serve.specs.Becoming.{Narrows}

written_none : (written : Option (List ℕ)) → option_map (λ (before : List ℕ). before ++ []) written ≡ written
written_none None = refl
written_none (Some before) = ap (λ (x : List ℕ). Some x) (append-nil before)

-- It was answered so, and nothing else was done.
narrows : (client : Client) (class : ClassSpec) (told : ClassSpec → List Sent) (old new : ServingMoment) (fewer : ClassSpec) (at : ℕ)
    → reduce (rules_for false client.rules) client.host class ≡ Fewer fewer
    → (made : List Entry) → Calls old.pass new.pass made → made ≡ []
    → (bytes : List ℕ) (given : List ℕ) → Exchanged old.outside.link bytes given new.outside.link → bytes ≡ records_of (told fewer) → given ≡ []
    → (instants : List ℕ) → AnsweredAll instants old.outside.clock new.outside.clock → instants ≡ at ∷ []
    → (lines : List ℕ) → Takes old.outside.log lines new.outside.log → lines ≡ []
    → (goes : List Go) → IdledAll goes old.outside.gate new.outside.gate → goes ≡ []
    → Narrows client class told old new
narrows client class told old new fewer at part made calls none_made bytes given exchanged bytes_are none_given instants answered instants_are lines takes no_lines goes idled no_goes = record {
  fewer = fewer;
  part = part;
  at = at;
  calls = subst (λ (entries : List Entry). Calls old.pass new.pass entries) none_made calls;
  exchanged = subst (λ (sent : List ℕ). Exchanged old.outside.link sent [] new.outside.link) bytes_are
      (subst (λ (more : List ℕ). Exchanged old.outside.link bytes more new.outside.link) none_given exchanged);
  clock = subst (λ (moments : List ℕ). AnsweredAll moments old.outside.clock new.outside.clock) instants_are answered;
  log = subst (λ (text : List ℕ). Takes old.outside.log text new.outside.log) no_lines takes ∙ written_none old.outside.log.written;
  gate = subst (λ (answers : List Go). IdledAll answers old.outside.gate new.outside.gate) no_goes idled;
}

-- ---- feedings

-- the feeding that tells that part
abbrev narrow_feeding : ClassSpec → ℕ → feeding.Feeding
narrow_feeding fewer at = record { answered = Reclassed fewer; answered_at = at; turns = []; last = feeding.GoesOn }

narrow_feeding-is : (fewer : ClassSpec) (fed : feeding.Feeding) → fed.answered ≡ Reclassed fewer → feeding.MayTurn fed.answered fed.turns fed.last
    → fed ≡ narrow_feeding fewer fed.answered_at
narrow_feeding-is fewer fed answered may =
    let make : Answered → List feed_turn.Turn → feeding.Last → feeding.Feeding = λ answer turns last. record { answered = answer; answered_at = fed.answered_at; turns = turns; last = last } in
    let none = subst (λ (answer : Answered). feeding.MayTurn answer fed.turns fed.last) answered may in
    ap (λ (answer : Answered). make answer fed.turns fed.last) answered
    ∙ ap (λ (turns : List feed_turn.Turn). make (Reclassed fewer) turns fed.last) none.0
    ∙ ap (λ (last : feeding.Last). make (Reclassed fewer) [] last) none.1

pub feeding-narrows : (client : Client) (ask : Feedme) (ahead : List ℕ) (old new : ServingMoment)
    → Feeds send.Reclassed (asked_of client.host client.rules ask) ahead old.pass new.pass old.outside new.outside
    → Narrows client ask.class (λ fewer. sent.FeedmeReply ask.xid (class_answer.Reclass fewer) ∷ []) old new
feeding-narrows client ask ahead old new feeds =
    let asked = asked_of client.host client.rules ask in
    let actor = old.pass.actor in
    let fed = feeds.feeding in
    let fewer = feeds.cause.0 in
    let at = fed.answered_at in
    let is = narrow_feeding-is fewer fed feeds.cause.1 feeds.is_feeding.opened in
    let part = subst (λ (answer : Answered). IsAnswerTo asked answer) feeds.cause.1 feeds.is_feeding.answered in
    let none_called : feeds.called ≡ [] = feeds.called_part ∙ ap (λ (f : feeding.Feeding). feeding.entries_of actor asked f) is in
    let none_made : feeds.called ++ closing_of actor send.Reclassed fed.answered ≡ [] =
    ap (λ (called : List Entry). called ++ closing_of actor send.Reclassed fed.answered) none_called
    ∙ ap (λ (answer : Answered). closing_of actor send.Reclassed answer) feeds.cause.1 in
    narrows client ask.class (λ fewer. sent.FeedmeReply ask.xid (class_answer.Reclass fewer) ∷ []) old new fewer at part
    (feeds.called ++ closing_of actor send.Reclassed fed.answered) feeds.made none_made
    feeds.sent feeds.given feeds.exchanged (feeds.sent_part ∙ ap (λ (f : feeding.Feeding). feeding.bytes_of asked f) is) feeds.unheard
    feeds.instants feeds.answered (feeds.instants_part ∙ ap (λ (f : feeding.Feeding). feeding.instants_of f) is)
    (gap_log asked.host feeds.called) feeds.logged (ap (λ (called : List Entry). gap_log asked.host called) none_called)
    feeds.goes feeds.idled (feeds.goes_part ∙ ap (λ (f : feeding.Feeding). feeding.goes_of f) is)

-- ---- sessions of notices

-- the session that tells that part
abbrev narrow_notifying : ClassSpec → ℕ → notifying.Notifying
narrow_notifying fewer at = record { answered = Reclassed fewer; answered_at = at; turns = []; last = notifying.GoesOn }

narrow_notifying-is : (fewer : ClassSpec) (told : notifying.Notifying) → told.answered ≡ Reclassed fewer → notifying.MayTurn told.answered told.turns told.last
    → told ≡ narrow_notifying fewer told.answered_at
narrow_notifying-is fewer told answered may =
    let make : Answered → List notify_turn.Turn → notifying.Last → notifying.Notifying = λ answer turns last. record { answered = answer; answered_at = told.answered_at; turns = turns; last = last } in
    let none = subst (λ (answer : Answered). notifying.MayTurn answer told.turns told.last) answered may in
    ap (λ (answer : Answered). make answer told.turns told.last) answered
    ∙ ap (λ (turns : List notify_turn.Turn). make (Reclassed fewer) turns told.last) none.0
    ∙ ap (λ (last : notifying.Last). make (Reclassed fewer) [] last) none.1

pub notifying-narrows : (client : Client) (ask : Notifyme) (old new : ServingMoment)
    → Notifies notified.Reclassed (notifying.asked_of client.host client.rules ask) old.pass new.pass old.outside new.outside
    → Narrows client ask.class (λ fewer. sent.NotifymeReply ask.xid (class_answer.Reclass fewer) ∷ []) old new
notifying-narrows client ask old new notifies =
    let asked = notifying.asked_of client.host client.rules ask in
    let actor = old.pass.actor in
    let told = notifies.notifying in
    let fewer = notifies.cause.0 in
    let at = told.answered_at in
    let is = narrow_notifying-is fewer told notifies.cause.1 notifies.is_notifying.opened in
    let part = subst (λ (answer : Answered). IsAnswerTo asked answer) notifies.cause.1 notifies.is_notifying.answered in
    let none_called : notifies.called ≡ [] = notifies.called_part ∙ ap (λ (n : notifying.Notifying). notifying.entries_of actor asked n) is in
    let none_made : notifies.called ++ closing_of actor send.Reclassed told.answered ≡ [] =
    ap (λ (called : List Entry). called ++ closing_of actor send.Reclassed told.answered) none_called
    ∙ ap (λ (answer : Answered). closing_of actor send.Reclassed answer) notifies.cause.1 in
    narrows client ask.class (λ fewer. sent.NotifymeReply ask.xid (class_answer.Reclass fewer) ∷ []) old new fewer at part
    (notifies.called ++ closing_of actor send.Reclassed told.answered) notifies.made none_made
    notifies.sent [] notifies.exchanged (notifies.sent_part ∙ ap (λ (n : notifying.Notifying). notifying.bytes_of asked n) is) refl
    notifies.instants notifies.answered (notifies.instants_part ∙ ap (λ (n : notifying.Notifying). notifying.instants_of n) is)
    (gap_log asked.host notifies.called) notifies.logged (ap (λ (called : List Entry). gap_log asked.host called) none_called)
    notifies.goes notifies.idled (notifies.goes_part ∙ ap (λ (n : notifying.Notifying). notifying.goes_of n) is)

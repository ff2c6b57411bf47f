-- What a call that sends comes to at its end, whatever it sent: once its cursor is closed, and the link or not.
use Rattle.std.proofs.Common.{◌≡◌, ◌∙◌, ℕ, List, [], ◌∷◌, ◌++◌, Bool, true, false, Option, refl, sym, ap, subst}
use Rattle.std.proofs.Common.{append-nil}
use Rattle.ldm_model.specs.declared.event.Event.TheVariants.{Close}
use Rattle.ldm_model.specs.declared.event.Reply.TheVariants as reply
use Rattle.ldm_model.specs.declared.event.Entry.{Entry}
use Rattle.ldm_outside.specs.declared.gate.Go.{Go}
use Rattle.ldm_outside.specs.Io.{SinkRecord, WritesFront}
use Rattle.ldm_outside.specs.Gate.{GateRecord}
use Rattle.ldm_outside.specs.Clock.{ClockRecord}
use Rattle.ldm_outside.specs.Link.{LinkRecord, IsNotClosed}
use Rattle.ldm_outside.specs.Session.{SessionRecord, KeepsFaults}
use Rattle.ldm_shared.specs.Passes.{PassView, Calls, Grows}
use Rattle.ldm_shared.proofs.Made.{calls_some, calls_trans}
use Rattle.ldm_shared.specs.Reader.{HasCursor}
use Rattle.ldm_session.proofs.CallerLemmas.{Exchanged-still}
use Rattle.ldm_session.specs.Exchange.{Exchanged, AnsweredAll, IdledAll}
use Rattle.ldm_session.specs.Gaps.{gap_log}
use Rattle.ldm_sender.specs.declared.end.SendEnd.{SendEnd}
use Rattle.ldm_sender.specs.declared.end.SendEnd.TheVariants as end
use Rattle.ldm_sender.specs.Opening.{Answered, Opened, closing_entries}
use Rattle.ldm_sender.specs.Calls.{MayBeUnmade}
use Rattle.ldm_sender.specs.Does.{moment_of, IsAllBut}
use Rattle.ldm_session.specs.Part.{IsPart}
use Rattle.ldm_sender.specs.Acts.{Situation, situation_of, Act, BreaksAct, EndsAct, IsStop, Logged, is_whole, IsAllSent}
use Rattle.ldm_sender.specs.Stopping.{KeepsCursor}
use Rattle.ldm_sender.specs.Ending.{session_of, closing_of, IsLeft, IsEndOf}
use Rattle.ldm_sender.proofs.Acting.{logged_takes}
use Rattle.ldm_sender.proofs.Fronts.{all_there}

-- what the outside tells once the link was closed, or not
abbrev pub after : Situation → Bool → SessionRecord
after new closed =
    record {
      link = record new.moment.link { closed = closed };
      log = new.log;
      clock = new.moment.clock;
      gate =
          new.gate;
    }

-- the situation in which a session begins
abbrev pub begins : PassView → LinkRecord → ClockRecord → SinkRecord → GateRecord → Situation
begins first link clock log gate = situation_of (moment_of first link clock []) log gate

-- ---- fronts

pub part_same : {A : Type 0} → (whole : Bool) → (xs : List A) → IsPart whole xs xs
part_same true xs = refl
part_same false xs = ([], append-nil xs)

-- ---- the cursor

pub keeps_cursor : (why : SendEnd) (pass : PassView) (k : ℕ) (held : Option ℕ) → HasCursor pass k held
    → KeepsCursor why pass k
keeps_cursor end.Worn pass k held has = tt
keeps_cursor end.Stopped pass k held has = (held, has)
keeps_cursor end.Reclassed pass k held has = (held, has)
keeps_cursor (end.Denied rule) pass k held has = (held, has)
keeps_cursor (end.PeerEnd at) pass k held has = (held, has)
keeps_cursor end.LinkFault pass k held has = (held, has)
keeps_cursor end.LogFault pass k held has = (held, has)
keeps_cursor (end.BadReply at) pass k held has = (held, has)
keeps_cursor end.AllBusy pass k held has = (held, has)
keeps_cursor end.OutOfMemory pass k held has = (held, has)

closing_is : (why : SendEnd) (actor : ℕ) (answered : Answered) → (why ≡ end.Worn → ⊥)
    → closing_of actor why answered ≡ closing_entries actor answered
closing_is end.Stopped actor answered not_worn = refl
closing_is end.Reclassed actor answered not_worn = refl
closing_is (end.Denied rule) actor answered not_worn = refl
closing_is (end.PeerEnd place) actor answered not_worn = refl
closing_is end.LinkFault actor answered not_worn = refl
closing_is end.LogFault actor answered not_worn = refl
closing_is (end.BadReply place) actor answered not_worn = refl
closing_is end.AllBusy actor answered not_worn = refl
closing_is end.Worn actor answered not_worn = absurd (not_worn refl)
closing_is end.OutOfMemory actor answered not_worn = refl

-- the call that closes the cursor
pub closing_calls : (why : SendEnd) (first pass final : PassView) (missed : Bool) (k : ℕ) → (why ≡ end.Worn → ⊥)
    → pass.actor ≡ first.actor → Grows pass final (Close k) reply.Closed
    → Calls pass final (closing_of first.actor why (Opened missed k))
closing_calls why first pass final missed k not_worn by grows =
    subst (λ (es : List Entry). Calls pass final es) (sym (closing_is why first.actor (Opened missed k) not_worn))
    (subst (λ (a : ℕ). Calls pass final (record { actor = a; event = Close k; reply = reply.Closed } ∷ [])) by
    (calls_some pass final _ grows.makes))

-- ---- the link

pub left_open : (why : SendEnd) (link : LinkRecord) → (why ≡ end.Stopped → ⊥) → IsNotClosed link → IsLeft why link
left_open end.Stopped link not_stopped unclosed = absurd (not_stopped refl)
left_open end.Reclassed link not_stopped unclosed = unclosed
left_open (end.Denied rule) link not_stopped unclosed = unclosed
left_open (end.PeerEnd place) link not_stopped unclosed = unclosed
left_open end.LinkFault link not_stopped unclosed = unclosed
left_open end.LogFault link not_stopped unclosed = unclosed
left_open (end.BadReply place) link not_stopped unclosed = unclosed
left_open end.AllBusy link not_stopped unclosed = unclosed
left_open end.Worn link not_stopped unclosed = unclosed
left_open end.OutOfMemory link not_stopped unclosed = unclosed

pub left_closed : (why : SendEnd) (link : LinkRecord) → why ≡ end.Stopped → IsLeft why (record link { closed = true })
left_closed why link is = subst (λ (e : SendEnd). IsLeft e (record link { closed = true })) (sym is) refl

-- ---- why it ended

pub cause_closed : (why : SendEnd) (answered : Answered) (final : PassView) (before : SessionRecord) (new : Situation)
    (closed : Bool) → IsEndOf why answered final before (session_of new)
    → IsEndOf why answered final before (after new closed)
cause_closed end.Stopped answered final before new closed cause = cause
cause_closed end.Reclassed answered final before new closed cause = cause
cause_closed (end.Denied rule) answered final before new closed cause = cause
cause_closed (end.PeerEnd place) answered final before new closed cause = cause
cause_closed end.LinkFault answered final before new closed cause = cause
cause_closed end.LogFault answered final before new closed cause = cause
cause_closed (end.BadReply place) answered final before new closed cause = cause
cause_closed end.AllBusy answered final before new closed cause = cause
cause_closed end.Worn answered final before new closed cause = cause
cause_closed end.OutOfMemory answered final before new closed cause = cause

pub cause_moves : (why : SendEnd) (answered : Answered) (pass final : PassView) (before now : SessionRecord)
    → (why ≡ end.Worn → ⊥) → IsEndOf why answered pass before now → IsEndOf why answered final before now
cause_moves end.Stopped answered pass final before now not_worn cause = cause
cause_moves end.Reclassed answered pass final before now not_worn cause = cause
cause_moves (end.Denied rule) answered pass final before now not_worn cause = cause
cause_moves (end.PeerEnd place) answered pass final before now not_worn cause = cause
cause_moves end.LinkFault answered pass final before now not_worn cause = cause
cause_moves end.LogFault answered pass final before now not_worn cause = cause
cause_moves (end.BadReply place) answered pass final before now not_worn cause = cause
cause_moves end.AllBusy answered pass final before now not_worn cause = cause
cause_moves end.Worn answered pass final before now not_worn cause = absurd (not_worn refl)
cause_moves end.OutOfMemory answered pass final before now not_worn cause = cause

-- ---- all of it

-- An act was done up to an end, and these calls close the cursor: all of it where the end is a whole one, and else of
-- each part a front.
pub record Settles (why : SendEnd) (host : List ℕ) (act : Act) (closing : List Entry) (given : List ℕ)
    (old new : PassView) (before after : SessionRecord) : Type 0 where
  pub called : List Entry
  pub called_part : IsAllBut (is_whole why) MayBeUnmade called act.deed.entries
  pub made : Calls old new (called ++ closing)
  pub sent : List ℕ
  pub sent_part : IsPart (is_whole why) sent act.deed.bytes
  pub exchanged : Exchanged before.link sent given after.link
  pub left : IsLeft why after.link
  pub instants : List ℕ
  pub instants_part : IsPart (is_whole why) instants act.deed.instants
  pub answered : AnsweredAll instants before.clock after.clock
  pub goes : List Go
  pub goes_part : IsAllBut (is_whole why) IsStop goes act.goes
  pub idled : IdledAll goes before.gate after.gate
  pub logged : Logged why before.log (gap_log host called) after.log
  pub counts : KeepsFaults before after

settles_whole : (why : SendEnd) (host came : List ℕ) (act : Act) (closing : List Entry) (old new : Situation)
    (final : PassView) (closed : Bool) → old.moment.out ≡ [] → is_whole why ≡ true
    → EndsAct (is_whole why) why host came old new act → IsAllSent (is_whole why) new.moment.out
    → Calls new.moment.pass final closing
    → IsLeft why (record new.moment.link { closed = closed })
    → Settles why host act closing came old.moment.pass final (session_of old) (after new closed)
settles_whole why host came act closing old new final closed none is ends all_sent calls left =
    let acts = subst (λ (b : Bool). EndsAct b why host came old new act) is ends in
    let empty = subst (λ (b : Bool). IsAllSent b new.moment.out) is all_sent in
    let link = record new.moment.link { closed = closed } in
    let sent : acts.does.sent ≡ act.deed.bytes =
    sym (append-nil acts.does.sent) ∙ ap (λ (x : List ℕ). acts.does.sent ++ x)
    (sym empty) ∙ sym acts.does.gathered ∙ ap (λ (x : List ℕ). x ++ act.deed.bytes) none in
    let P : Bool → Type 0 = λ b. IsPart b acts.does.sent act.deed.bytes in
    record {
      called = act.deed.entries;
      called_part = all_there MayBeUnmade (is_whole why) act.deed.entries;
      made = calls_trans old.moment.pass new.moment.pass final act.deed.entries closing acts.does.calls calls;
      sent = acts.does.sent;
      sent_part = subst P (sym is) sent;
      exchanged = Exchanged-still old.moment.link new.moment.link link acts.does.sent came acts.does.exchanged refl
          refl;
      left = left;
      instants = act.deed.instants;
      instants_part = part_same (is_whole why) act.deed.instants;
      answered = acts.does.answered;
      goes = act.goes;
      goes_part = all_there IsStop (is_whole why) act.goes;
      idled = acts.idled;
      logged = logged_takes why old.log new.log (gap_log host act.deed.entries) acts.logged;
      counts = record {
        link = acts.does.link.faults;
        ends = acts.does.link.ends;
        log = acts.beside.log;
        stops =
            acts.beside.stops;
      };
    }

settles_broken : (why : SendEnd) (host came : List ℕ) (act : Act) (closing : List Entry) (old new : Situation)
    (final : PassView) (closed : Bool) → old.moment.out ≡ [] → is_whole why ≡ false
    → EndsAct (is_whole why) why host came old new act → IsAllSent (is_whole why) new.moment.out
    → Calls new.moment.pass final closing
    → IsLeft why (record new.moment.link { closed = closed })
    → Settles why host act closing came old.moment.pass final (session_of old) (after new closed)
settles_broken why host came act closing old new final closed none is ends all_sent calls left =
    let broke = subst (λ (b : Bool). EndsAct b why host came old new act) is ends in
    let breaks = broke.breaks in
    let link = record new.moment.link { closed = closed } in
    let sent = subst (λ (x : List ℕ). IsPart false breaks.sent (x ++ act.deed.bytes)) none breaks.sent_part in
    let P : Bool → Type 0 = λ b. IsAllBut b MayBeUnmade breaks.called act.deed.entries in
    let Q : Bool → Type 0 = λ b. IsPart b breaks.sent act.deed.bytes in
    let R : Bool → Type 0 = λ b. IsPart b breaks.instants act.deed.instants in
    let T : Bool → Type 0 = λ b. IsAllBut b IsStop broke.goes act.goes in
    record {
      called = breaks.called;
      called_part = subst P (sym is) broke.unmade;
      made = calls_trans old.moment.pass new.moment.pass final breaks.called closing breaks.calls calls;
      sent = breaks.sent;
      sent_part = subst Q (sym is) sent;
      exchanged = Exchanged-still old.moment.link new.moment.link link breaks.sent came breaks.exchanged refl refl;
      left = left;
      instants = breaks.instants;
      instants_part = subst R (sym is) breaks.instants_part;
      answered = breaks.answered;
      goes = broke.goes;
      goes_part = subst T (sym is) broke.goes_part;
      idled = broke.idled;
      logged = broke.logged;
      counts = record {
        link = breaks.link.faults;
        ends = breaks.link.ends;
        log = broke.beside.log;
        stops =
            broke.beside.stops;
      };
    }

settles_by : (whole : Bool) (why : SendEnd) (host came : List ℕ) (act : Act) (closing : List Entry)
    (old new : Situation) (final : PassView) (closed : Bool) → old.moment.out ≡ [] → is_whole why ≡ whole
    → EndsAct (is_whole why) why host came old new act → IsAllSent (is_whole why) new.moment.out
    → Calls new.moment.pass final closing
    → IsLeft why (record new.moment.link { closed = closed })
    → Settles why host act closing came old.moment.pass final (session_of old) (after new closed)
settles_by true = settles_whole
settles_by false = settles_broken

pub settles : (why : SendEnd) (host came : List ℕ) (act : Act) (closing : List Entry) (old new : Situation)
    (final : PassView) (closed : Bool) → old.moment.out ≡ []
    → EndsAct (is_whole why) why host came old new act → IsAllSent (is_whole why) new.moment.out
    → Calls new.moment.pass final closing
    → IsLeft why (record new.moment.link { closed = closed })
    → Settles why host act closing came old.moment.pass final (session_of old) (after new closed)
settles why host came act closing old new final closed none =
    settles_by (is_whole why) why host came act closing old new final closed none refl

-- ---- the queue was found to have had all its calls

logged_worn : (why : SendEnd) (old new : SinkRecord) (lines : List ℕ) → Logged why old lines new
    → Logged end.Worn old lines new
logged_worn end.Stopped old new lines logged = (lines, [], append-nil lines, logged)
logged_worn end.Reclassed old new lines logged = (lines, [], append-nil lines, logged)
logged_worn (end.Denied rule) old new lines logged = (lines, [], append-nil lines, logged)
logged_worn (end.PeerEnd place) old new lines logged = (lines, [], append-nil lines, logged)
logged_worn end.LinkFault old new lines logged = (lines, [], append-nil lines, logged)
logged_worn end.LogFault old new lines logged = logged
logged_worn (end.BadReply place) old new lines logged = (lines, [], append-nil lines, logged)
logged_worn end.AllBusy old new lines logged = (lines, [], append-nil lines, logged)
logged_worn end.Worn old new lines logged = logged
logged_worn end.OutOfMemory old new lines logged = (lines, [], append-nil lines, logged)

pub worn_act : (whole : Bool) (why : SendEnd) (host came : List ℕ) (old : Situation) (pass final : PassView)
    (link : LinkRecord) (clock : ClockRecord) (out : List ℕ) (log : SinkRecord) (gate : GateRecord) (act : Act)
    → Calls pass final [] → EndsAct whole why host came old (situation_of (moment_of pass link clock out) log gate) act
    → BreaksAct end.Worn host came old (situation_of (moment_of final link clock out) log gate) act
worn_act true why host came old pass final link clock out log gate act none ends = record {
  breaks = record {
    called = act.deed.entries ++ [];
    calls = calls_trans old.moment.pass pass final act.deed.entries [] ends.does.calls none;
    called_part = ([], append-nil (act.deed.entries ++ []) ∙ append-nil act.deed.entries);
    sent = ends.does.sent;
    exchanged = ends.does.exchanged;
    sent_part = (out, sym ends.does.gathered);
    instants = act.deed.instants;
    answered = ends.does.answered;
    instants_part = ([], append-nil act.deed.instants);
    link = ends.does.link;
  };
  unmade = ([], append-nil (act.deed.entries ++ []) ∙ append-nil act.deed.entries, tt);
  logged =
      subst (λ (es : List Entry). WritesFront old.log (gap_log host es) log) (sym (append-nil act.deed.entries))
      (gap_log host act.deed.entries, [], append-nil (gap_log host act.deed.entries), ends.logged);
  goes = act.goes;
  idled = ends.idled;
  goes_part = ([], append-nil act.goes, tt);
  beside = record { log = ends.beside.log; stops = ends.beside.stops };
}
worn_act false why host came old pass final link clock out log gate act none ends = record {
  breaks = record {
    called = ends.breaks.called;
    calls = subst (λ (es : List Entry). Calls old.moment.pass final es) (append-nil ends.breaks.called)
        (calls_trans old.moment.pass pass final ends.breaks.called [] ends.breaks.calls none);
    called_part = ends.breaks.called_part;
    sent = ends.breaks.sent;
    exchanged = ends.breaks.exchanged;
    sent_part = ends.breaks.sent_part;
    instants = ends.breaks.instants;
    answered = ends.breaks.answered;
    instants_part = ends.breaks.instants_part;
    link = ends.breaks.link;
  };
  unmade = ends.unmade;
  logged = logged_worn why old.log log (gap_log host ends.breaks.called) ends.logged;
  goes = ends.goes;
  idled = ends.idled;
  goes_part = ends.goes_part;
  beside = record { log = ends.beside.log; stops = ends.beside.stops };
}

-- A feeding that came to a receiver, by how its request was answered.
use Rattle.std.proofs.Common.{◌≡◌, ℕ, ◌+◌, ◌≤◌, Bool, true, false, List, [], ◌∷◌, ◌++◌, length, Option, Some, None, inl, inr, refl, ap, sym, subst, ◌∙◌, append_assoc, arith}
use Rattle.std.specs.Prelude.{◌⊎◌, IsSome, if◌then◌else◌}
use Rattle.std.specs.Int.{to_be_bytes, w32}
use Rattle.std.specs.List.{flat_map}
use Rattle.std.proofs.lemmas.List.{append-nil, append_cancel_left, length-append}
use Rattle.ldm_types.specs.declared.class.ClassSpec.{ClassSpec}
use Rattle.ldm_types.specs.declared.feed.Feed.{Feed}
use Rattle.ldm_types.specs.declared.limits.TheConstants.{LARGEST_ARENA}
use Rattle.ldm_model.specs.declared.event.Start.{Start}
use Rattle.ldm_model.specs.declared.event.Start.TheVariants as start
use Rattle.ldm_model.specs.State.{State, empty}
use Rattle.ldm_model.specs.History.{IsLegal, IsLegalFrom}
use Rattle.ldm_model.specs.Open.{open_cursor}
use Rattle.ldm_model.proofs.Appended.{IsLegalFrom-append}
use Rattle.ldm_model.specs.declared.event.Event.TheVariants.{OpenCursor}
use Rattle.ldm_model.specs.declared.event.Reply.{Reply}
use Rattle.ldm_model.specs.declared.event.Reply.TheVariants.{AllBusy}
use Rattle.ldm_model.specs.declared.event.Reply.TheVariants as reply
use Rattle.ldm_model.specs.declared.event.Entry.{Entry}
use Rattle.ldm_class.specs.Access.{reduce}
use Rattle.ldm_class.specs.Classes.{bad_place, resumed}
use Rattle.ldm_class.specs.declared.answers.Reduced.TheVariants as reduced
use Rattle.ldm_outside.specs.Link.{LinkRecord, bytes_sent}
use Rattle.ldm_outside.specs.Session.{SessionRecord}
use Rattle.ldm_relay.specs.declared.message.ClassAnswer.TheVariants as class_answer
use Rattle.ldm_relay.specs.Fits.{ClassAnswerFits}
use Rattle.ldm_relay.specs.Sent.{Sent}
use Rattle.ldm_relay.specs.Sent as sent
use Rattle.ldm_relay.specs.Spelling.{record_of, written}
use Rattle.ldm_shared.specs.Passes.{Calls, PassView, Makes}
use Rattle.ldm_session.specs.Exchange.{PassesMore}
use Rattle.ldm_session.specs.Owed.{Code, Said}
use Rattle.ldm_intake.specs.declared.end.RecvEnd.{RecvEnd}
use Rattle.ldm_intake.specs.declared.end.RecvEnd.TheVariants as receive
use Rattle.ldm_intake.specs.Answered.{asks_again, by_answer, number_of_request, reclassed}
use Rattle.ldm_class.specs.Asking.{same_class}
use Rattle.ldm_intake.specs.Receiving.{Receiving}
use Rattle.ldm_intake.specs.Step.{Declined}
use Rattle.ldm_sender.specs.declared.end.SendEnd.{SendEnd}
use Rattle.ldm_sender.specs.declared.end.SendEnd.TheVariants as feed
use Rattle.ldm_sender.specs.Acts.{is_whole}
use Rattle.ldm_sender.specs.Asked.{Asked}
use Rattle.ldm_sender.specs.Calls.{MayBeUnmade}
use Rattle.ldm_session.specs.Part.{IsPart}
use Rattle.ldm_sender.specs.Ending.{closing_of}
use Rattle.ldm_sender.specs.Opening.{Answered, Busy, Denied, IsAnswerTo, Opened, Reclassed, class_answer_of, feeds_of, from_instant, opening_calls, opening_entries, place_of}
use Rattle.ldm_upstream.specs.Turn.{Given, Turn}
use Rattle.ldm_upstream.specs.Feeding.{Feeding, GoesOn, Last, MayTurn, Unanswered, begun, bytes_of, codes_of, entries_of, given_of, last_entries, last_messages, stands}
use Rattle.ldm_upstream.specs.Turns.{entries_of_turns, messages_of_turns}
use Rattle.ldm_upstream.specs.Feeds.{DecidesFirst, Feeds, HasDecided}
use Rattle.ldm_downstream.specs.Pieces.{joined}
use Rattle.ldm_between_ends.specs.Passing.{Carries, CarriesAll, IsGranted, IsPassing, Passing}
use Rattle.ldm_between_ends.specs.Ungranted.{EndsBy, IsUngranted, IsUnopened}
use Rattle.ldm_between_ends.specs.OnePass.{IsOnlyPass, state_of}
use Rattle.ldm_between_ends.proofs.FedFew.{missing-of}
use Rattle.ldm_between_ends.proofs.OnePass.{fed-opened, seen-by, seen-legal}
use Rattle.ldm_chain.specs.Causes.{AreAllTaken, HadNoCursor}
use Rattle.ldm_chain.specs.MirrorView.{MirrorView, told_by_mirror}
use Rattle.ldm_chain.specs.Reflecting.{pieces_at}
use Rattle.ldm_chain.proofs.Cursors.{busy-taken, missed-same}
use Rattle.ldm_chain.proofs.FedWhole.{TookAll}
use Rattle.ldm_chain.proofs.Products.{rows-sound}
use Rattle.ldm_chain.proofs.UsedLaws.{EndLaws, Laws}

-- ---- a cursor was to be opened

-- An opening among these entries was answered that all cursors are taken.
record HasBusy (entries : List Entry) : Type 0 where
  before : List Entry
  behind : List Entry
  actor : ℕ
  feed : Feed
  start : Start
  all : entries ≡ before ++ record { actor = actor; event = OpenCursor feed start; reply = AllBusy } ∷ behind

busy-in_front : (xs ys : List Entry) → HasBusy xs → HasBusy (xs ++ ys)
busy-in_front xs ys has = record {
  before = has.before;
  behind = has.behind ++ ys;
  actor = has.actor;
  feed = has.feed;
  start = has.start;
  all = ap (λ (zs : List Entry). zs ++ ys) has.all ∙ append_assoc has.before (record { actor = has.actor; event = OpenCursor has.feed has.start; reply = AllBusy } ∷ has.behind) ys;
}

busy-behind : (xs ys : List Entry) → HasBusy ys → HasBusy (xs ++ ys)
busy-behind xs ys has = record {
  before = xs ++ has.before;
  behind = has.behind;
  actor = has.actor;
  feed = has.feed;
  start = has.start;
  all = ap (λ (zs : List Entry). xs ++ zs) has.all ∙ sym (append_assoc xs has.before (record { actor = has.actor; event = OpenCursor has.feed has.start; reply = AllBusy } ∷ has.behind));
}

opening-busy : (actor : ℕ) (asked : Asked) (signature : Option (List ℕ)) (missed : Bool) → HasBusy (opening_calls actor asked signature missed AllBusy)
opening-busy actor asked None missed = record { before = []; behind = []; actor = actor; feed = _; start = _; all = refl }
opening-busy actor asked (Some signature) false = record { before = []; behind = []; actor = actor; feed = _; start = _; all = refl }
opening-busy actor asked (Some signature) true = record { before = _ ∷ []; behind = []; actor = actor; feed = _; start = _; all = refl }

-- ---- the reply to a request

-- a narrower class is built, or a pattern in it means nothing
abbrev pub ReclassEnds : Option ℕ → Option RecvEnd → Type 0
ReclassEnds None end = end ≡ None
ReclassEnds (Some place) end = (at : ℕ) × (end ≡ Some (receive.BadFrame at))

reclass-ends : (s : Receiving) (asked class : ClassSpec) (again : Bool) (end : Option RecvEnd) → again ≡ false → same_class class asked ≡ false → (bad : Option ℕ)
    → bad_place class.specs.items ≡ bad → EndsBy (by_answer s asked again (class_answer.Reclass class)) end → ReclassEnds bad end
reclass-ends s asked class again end once other bad bad_is ends =
    let first : EndsBy (reclassed s asked false class) end = subst (λ (b : Bool). EndsBy (reclassed s asked b class) end) once ends in
    let then_ : EndsBy (asks_again s class) end = subst (λ (b : Bool). EndsBy (if b then Declined (class_answer.Reclass class) else asks_again s class) end) other first in
    by bad bad_is then_
  where
    by : (o : Option ℕ) → bad_place class.specs.items ≡ o → EndsBy (asks_again s class) end → ReclassEnds o end
    by None is then_ = rw is at then_
    by (Some place) is then_ = rw is at then_

once-asked : (again : Bool) → 1 ≡ number_of_request again → again ≡ false
once-asked true is = absurd (cc is)
once-asked false is = refl

-- only a cursor that was opened announces products
opened-by_last : (answered : Answered) (turns : List Turn) (last : Last) (given : Given) (at : ℕ) → MayTurn answered turns last → last ≡ Unanswered given at
    → (missed : Bool) × (k : ℕ) × (answered ≡ Opened missed k)
opened-by_last (Opened missed k) turns last given at may is = (missed, k, refl)
opened-by_last (Denied rule) turns last given at may is = let no : Unanswered given at ≡ GoesOn = sym is ∙ may.1 in absurd (cc no)
opened-by_last (Reclassed class) turns last given at may is = let no : Unanswered given at ≡ GoesOn = sym is ∙ may.1 in absurd (cc no)
opened-by_last (Busy missed) turns last given at may is = let no : Unanswered given at ≡ GoesOn = sym is ∙ may.1 in absurd (cc no)

-- ---- a feeding

-- what is part of a whole begins it
front-of_part : (whole : Bool) (part all : List ℕ) → IsPart whole part all → (rest : List ℕ) × (part ++ rest ≡ all)
front-of_part true part all is = ([], append-nil part ∙ is)
front-of_part false part all is = is

module _ (laws : Laws) (more : EndLaws) (why : SendEnd) (asked : Asked) (old new : PassView) (before after' : SessionRecord) (feeds : Feeds why asked [] old new before after')
    (only : IsOnlyPass old) (small : old.arena ≤ LARGEST_ARENA) (now actor : ℕ) (made : List Entry) (end : Option RecvEnd)
    (all : TookAll asked feeds.sent feeds.given now actor made end) where
  abbrev pub passing : Passing
  passing = record {
    asked = asked;
    feeding = feeds.feeding;
    begins = all.begins;
    at = all.at;
    pieces = pieces_at now all.parts;
    actor = actor;
    made = made;
    came_to = all.came_to;
  }

  -- the first bytes of it came
  carries : Carries passing
  carries =
      let front = front-of_part (is_whole why) feeds.sent (bytes_of asked feeds.feeding) feeds.sent_part in
      record { rest = front.0; is = ap (λ (x : List ℕ). x ++ front.0) all.came ∙ front.1; few = all.few }

  pub carries-all : feeds.sent ≡ bytes_of asked feeds.feeding → CarriesAll passing
  carries-all all_sent = all.came ∙ all_sent

  pub all-sent : CarriesAll passing → feeds.sent ≡ bytes_of asked feeds.feeding
  all-sent carries_all = sym all.came ∙ carries_all

  makes : Makes old new (feeds.called ++ closing_of old.actor why feeds.feeding.answered)
  makes = seen-by old new (feeds.called ++ closing_of old.actor why feeds.feeding.answered) only.has_seen feeds.made

  -- where it is not granted
  module _ (answered : Answered) (is : feeds.feeding.answered ≡ answered) (unopened : IsUnopened answered) (fits : ClassAnswerFits (class_answer_of answered)) where
    ungranted : IsUngranted passing
    ungranted = record {
      is = feeds.is_feeding;
      unopened = subst IsUnopened (sym is) unopened;
      fits = subst (λ (a : Answered). ClassAnswerFits (class_answer_of a)) (sym is) fits;
      asker = all.asker;
      carries = carries;
      leads = all.leads;
    }

    -- its receiver ends by the reply
    pub reply-ends : CarriesAll passing → EndsBy (by_answer all.begins asked.class all.asker.again (class_answer_of answered)) end
    unfolding ungranted
    reply-ends carries_all =
        subst (λ (e : Option RecvEnd). EndsBy (by_answer all.begins asked.class all.asker.again (class_answer_of answered)) e) all.end_is
        (subst (λ (a : Answered). EndsBy (by_answer all.begins asked.class all.asker.again (class_answer_of a)) all.came_to.end) is (more.replied passing ungranted carries_all))

    -- a receiver that is over had the whole reply
    pub over-whole : IsSome end → CarriesAll passing
    over-whole over = more.part passing ungranted (subst (λ (e : Option RecvEnd). IsSome e) (sym all.end_is) over)

  pub denied-ends : (rule : ℕ) → feeds.feeding.answered ≡ Denied rule → CarriesAll passing → end ≡ Some (receive.Refused class_answer.Denied)
  denied-ends rule is = reply-ends (Denied rule) is tt tt

  pub busy-ends : (missed : Bool) → feeds.feeding.answered ≡ Busy missed → CarriesAll passing → end ≡ Some (receive.Refused class_answer.Busy)
  busy-ends missed is = reply-ends (Busy missed) is tt tt

  pub reclassed-ends : (class : ClassSpec) → feeds.feeding.answered ≡ Reclassed class → ClassAnswerFits (class_answer.Reclass class) → asked.xid ≡ 1
      → same_class class asked.class ≡ false → CarriesAll passing → ReclassEnds (bad_place class.specs.items) end
  reclassed-ends class is fits number other carries_all =
      reclass-ends all.begins asked.class class all.asker.again end (once-asked all.asker.again (sym number ∙ all.asker.xid_is)) other (bad_place class.specs.items) refl
      (reply-ends (Reclassed class) is tt fits carries_all)

  -- no byte of it ends its receiver, where its request was granted
  module _ (missed : Bool) (k : ℕ) (opened : feeds.feeding.answered ≡ Opened missed k) where
    granted : IsGranted asked feeds.feeding
    granted =
        let small_too : new.arena ≤ LARGEST_ARENA = subst (λ (n : ℕ). n ≤ LARGEST_ARENA) (sym (ap (λ (p : PassView). p.arena) feeds.made.same)) small in
        record {
          is = feeds.is_feeding;
          missed = missed;
          k = k;
          opened = opened;
          sound = rows-sound laws new makes.has_seen small_too (given_of feeds.feeding) feeds.rows;
        }

    is-passing : IsPassing passing
    is-passing = record {
      granted = granted;
      asker = all.asker;
      carries = carries;
      leads = all.leads;
      heard = laws.read passing feeds.given all.waiting feeds.says.behind granted all.asker carries all.leads feeds.says.said all.heard;
    }

    pub granted-goes_on : end ≡ None
    granted-goes_on = sym all.end_is ∙ more.live passing is-passing

-- ---- by how the feeding ended

module _ (laws : Laws) (more : EndLaws) (asked : Asked) (old new : PassView) (before after' : SessionRecord) (only : IsOnlyPass old) (small : old.arena ≤ LARGEST_ARENA)
    (now actor : ℕ) (made : List Entry) (end : Option RecvEnd) where
  pub stopped-goes_on : (feeds : Feeds feed.Stopped asked [] old new before after') → TookAll asked feeds.sent feeds.given now actor made end → end ≡ None
  stopped-goes_on feeds all =
      let opened = fed-opened asked [] old new before after' feeds in
      granted-goes_on laws more feed.Stopped asked old new before after' feeds only small now actor made end all opened.0 opened.1 opened.2

  -- what a feeder hears of its receiver is no bad reply
  pub no-bad_reply : (place : ℕ) (feeds : Feeds (feed.BadReply place) asked [] old new before after') → TookAll asked feeds.sent feeds.given now actor made end → ⊥
  no-bad_reply place feeds all =
      let last = feeds.last in
      let opened = opened-by_last feeds.feeding.answered feeds.feeding.turns feeds.feeding.last last.0 last.1 feeds.is_feeding.opened last.2 in
      let why = feed.BadReply place in
      let passing_is = is-passing laws more why asked old new before after' feeds only small now actor made end all opened.0 opened.1 opened.2 in
      more.answered (passing laws more why asked old new before after' feeds only small now actor made end all)
      last.0 last.1 place feeds.given all.waiting feeds.says.behind passing_is
      (carries-all laws more why asked old new before after' feeds only small now actor made end all feeds.sent_part) last.2
      feeds.says.said all.heard feeds.says.is_behind

-- ---- all cursors were taken

-- the reply of the first of some calls, and of the second
reply-or : Reply → List Entry → Reply
reply-or other [] = other
reply-or other (entry ∷ entries) = entry.reply

later-or : List Entry → List Entry
later-or [] = []
later-or (entry ∷ entries) = entries

-- calls that opened a cursor are not the first of those that found all taken
opened-unlike : (actor : ℕ) (asked : Asked) (signature : Option (List ℕ)) (m missed : Bool) (k : ℕ) (behind : List Entry)
    → opening_calls actor asked signature m (reply.Opened k) ++ behind ≡ opening_calls actor asked signature missed AllBusy → ⊥
unfolding reply-or later-or
opened-unlike actor asked None m missed k behind is = let no : reply.Opened k ≡ AllBusy = ap (reply-or AllBusy) is in cc no
opened-unlike actor asked (Some signature) false false k behind is = let no : reply.Opened k ≡ AllBusy = ap (reply-or AllBusy) is in cc no
opened-unlike actor asked (Some signature) false true k behind is = let no : reply.Opened k ≡ reply.NotQueued = ap (reply-or AllBusy) is in cc no
opened-unlike actor asked (Some signature) true false k behind is = let no : reply.NotQueued ≡ AllBusy = ap (reply-or AllBusy) is in cc no
opened-unlike actor asked (Some signature) true true k behind is = let no : reply.Opened k ≡ AllBusy = ap (λ (es : List Entry). reply-or AllBusy (later-or es)) is in cc no

bare-closing : (actor : ℕ) (why : SendEnd) (missed : Bool) → closing_of actor why (Busy missed) ≡ []
bare-closing actor feed.Worn missed = refl
bare-closing actor why missed = refl

-- the bytes of a feeding begin with a record
some-bytes : (asked : Asked) (feeding : Feeding) → bytes_of asked feeding ≡ [] → ⊥
some-bytes asked feeding none =
    let m : Sent = sent.FeedmeReply asked.xid (class_answer_of feeding.answered) in
    let rest = flat_map (λ (message : Sent). record_of (written message)) (messages_of_turns (begun feeding) feeding.turns ++ last_messages (stands feeding).next feeding.last) in
    omega (
      arith,
      ap (λ (x : List ℕ). length x) none,
      length-append (record_of (written m)) rest,
      length-append (to_be_bytes w32 (2147483648 + length (written m))) (written m),
    )

-- where nothing passed, nothing was sent
none-sent : (m m' : MirrorView) (sent given : List ℕ) → PassesMore m.passed m'.passed sent given → told_by_mirror m' ≡ told_by_mirror m → sent ≡ []
none-sent m m' sent given passes still =
    let same : Some m'.passed ≡ Some m.passed = ap (λ (l : LinkRecord). l.passed) still in
    let passed : m'.passed ≡ m.passed = cc same in
    let none : passes.more ≡ [] = append_cancel_left m.passed passes.more [] (sym passes.goes_on ∙ passed ∙ sym (append-nil m.passed)) in
    sym passes.sent_is ∙ ap bytes_sent none

-- a feeder that replied so found all taken
module _ (laws : Laws) (why : SendEnd) (asked : Asked) (old new : PassView) (before after' : SessionRecord) (only : IsOnlyPass old)
    (feeds : Feeds why asked [] old new before after') (missed : Bool) (busy : feeds.feeding.answered ≡ Busy missed) where
  abbrev signature : Option (List ℕ)
  signature = resumed asked.class.specs.items

  opening-taken : (m : Bool) (of : Option (List ℕ)) (s : State) → IsLegalFrom s (opening_calls old.actor asked of m AllBusy) → AreAllTaken s
  opening-taken m None s legal = busy-taken s old.actor (feeds_of asked.class) (from_instant asked.class.from) legal.0.reply
  opening-taken false (Some signature) s legal = busy-taken s old.actor (feeds_of asked.class) (start.AfterSignature (record { 0 = signature })) legal.0.reply
  opening-taken true (Some signature) s legal =
      let behind : Start = start.AfterSignature (record { 0 = signature }) in
      subst AreAllTaken (missed-same s old.actor (feeds_of asked.class) behind legal.0.reply)
      (busy-taken (open_cursor s old.actor (feeds_of asked.class) behind).state old.actor (feeds_of asked.class) (from_instant asked.class.from) legal.1.0.reply)

  -- it called no more than finds that
  called-front : (missing : List Entry) × (feeds.called ++ missing ≡ opening_calls old.actor asked signature missed AllBusy)
  called-front =
      let f = feeds.feeding in
      let may : MayTurn (Busy missed) f.turns f.last = subst (λ (a : Answered). MayTurn a f.turns f.last) busy feeds.is_feeding.opened in
      let part = missing-of MayBeUnmade (is_whole why) feeds.called (entries_of old.actor asked f) feeds.called_part in
      let all : entries_of old.actor asked f ≡ opening_calls old.actor asked signature missed AllBusy =
      (λ i. (opening_entries old.actor asked (busy i) ++ entries_of_turns old.actor (place_of (busy i)) (may.0 i)) ++ last_entries old.actor (place_of (busy i)) (may.1 i))
      ∙ append-nil (opening_calls old.actor asked signature missed AllBusy ++ []) ∙ append-nil (opening_calls old.actor asked signature missed AllBusy) in
      (part.missing, part.all ∙ all)

  -- all that it called
  calls-are : (calls : List Entry) → Calls old new calls → feeds.called ≡ calls
  calls-are calls made =
      let closing = closing_of old.actor why feeds.feeding.answered in
      let mine = laws.goes_on old new (feeds.called ++ closing) (seen-by old new (feeds.called ++ closing) only.has_seen feeds.made) only.passes only.actor in
      let others = laws.goes_on old new calls (seen-by old new calls only.has_seen made) only.passes only.actor in
      let bare : closing ≡ [] = ap (closing_of old.actor why) busy ∙ bare-closing old.actor why missed in
      sym (append-nil feeds.called) ∙ ap (λ (es : List Entry). feeds.called ++ es) (sym bare) ∙ append_cancel_left old.seen (feeds.called ++ closing) calls (sym mine ∙ others)

  same : reduce asked.rules asked.host asked.class ≡ reduced.Same
  same = (subst (IsAnswerTo asked) busy feeds.is_feeding.answered).0

  -- it decided so
  decided-busy : (answered : Answered) (behind : List Entry) → IsAnswerTo asked answered → Calls old new (opening_entries old.actor asked answered ++ behind)
      → (m : Bool) × (answered ≡ Busy m)
  decided-busy (Busy m) behind is made = (m, refl)
  decided-busy (Denied rule) behind is made = (let no : reduced.Same ≡ reduced.Nothing rule = sym same ∙ is in absurd (cc no))
  decided-busy (Reclassed class) behind is made = (let no : reduced.Same ≡ reduced.Fewer class = sym same ∙ is in absurd (cc no))
  decided-busy (Opened m k) behind is made =
      let opening = opening_calls old.actor asked signature m (reply.Opened k) in
      let front = called-front in
      let calls = calls-are (opening ++ behind) made in
      absurd (opened-unlike old.actor asked signature m missed k (behind ++ front.0)
      (sym (append_assoc opening behind front.0) ∙ ap (λ (es : List Entry). es ++ front.0) (sym calls) ∙ front.1))

  found-taken : (m : Bool) (behind : List Entry) → Calls old new (opening_calls old.actor asked signature m AllBusy ++ behind) → HadNoCursor old new
  found-taken m behind made =
      let opened = opening_calls old.actor asked signature m AllBusy in
      let calls = opened ++ behind in
      let makes = seen-by old new calls only.has_seen made in
      let seen : new.seen ≡ old.seen ++ calls = laws.goes_on old new calls makes only.passes only.actor in
      let legal : IsLegal old.arena old.slots (old.seen ++ calls) = seen-legal old new calls makes seen in
      let behind_old : IsLegalFrom (state_of old) calls = ((IsLegalFrom-append old.seen calls (empty old.arena old.slots)).0 legal).1 in
      let opens : IsLegalFrom (state_of old) opened = ((IsLegalFrom-append opened behind (state_of old)).0 behind_old).0 in
      let has : HasBusy new.seen = subst HasBusy (sym seen) (busy-behind old.seen calls (busy-in_front opened behind (opening-busy old.actor asked signature m))) in
      record {
        taken = opening-taken m signature (state_of old) opens;
        before = has.before;
        behind = has.behind;
        actor = has.actor;
        feed = has.feed;
        start = has.start;
        all = has.all;
      }

  by-decided : HasDecided asked old new → HadNoCursor old new
  by-decided decided =
      let is = decided-busy decided.answered decided.behind decided.is decided.made in
      found-taken is.0 decided.behind (subst (λ (a : Answered). Calls old new (opening_entries old.actor asked a ++ decided.behind)) is.1 decided.made)

  -- where the whole reply was sent, something passed
  pub busy-seen : (m m' : MirrorView) → PassesMore m.passed m'.passed feeds.sent feeds.given → feeds.sent ≡ bytes_of asked feeds.feeding
      → DecidesFirst asked old new (told_by_mirror m) (told_by_mirror m') → HadNoCursor old new
  busy-seen m m' passes all_sent (inr decided) = by-decided decided
  busy-seen m m' passes all_sent (inl still) = absurd (some-bytes asked feeds.feeding (sym all_sent ∙ none-sent m m' feeds.sent feeds.given passes still))

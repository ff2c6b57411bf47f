-- Why a chain ended while a node was fed.
use Rattle.std.proofs.Common.{◌≡◌, ℕ, ◌≤◌, true, false, ◌++◌, Option, Some, None, inl, inr, refl, ap, sym, subst, ◌∙◌, arith, List, [], length, length-append}
use Rattle.std.specs.Prelude.{◌⊎◌, IsSome}
use Rattle.ldm_types.specs.declared.class.ClassSpec.{ClassSpec}
use Rattle.ldm_types.specs.declared.limits.TheConstants.{LARGEST_ARENA}
use Rattle.ldm_class.specs.Access.{feeds_for, first_rule, is_about, or_none, reduce}
use Rattle.ldm_class.specs.Classes.{bad_place}
use Rattle.ldm_class.specs.declared.answers.Reduced.TheVariants as reduced
use Rattle.ldm_outside.specs.Count.{Rose}
use Rattle.ldm_relay.specs.declared.message.ClassAnswer.TheVariants as class_answer
use Rattle.ldm_model.specs.declared.event.Entry.{Entry}
use Rattle.ldm_model.specs.History.{IsLegal}
use Rattle.ldm_shared.specs.Passes.{Calls, PassView}
use Rattle.ldm_intake.specs.declared.end.RecvEnd.{RecvEnd}
use Rattle.ldm_intake.specs.declared.end.RecvEnd.TheVariants as receive
use Rattle.ldm_intake.specs.Receiving.{Receiving}
use Rattle.ldm_intake.specs.TakesRecord.{Standing, stands}
use Rattle.ldm_outside.specs.Link.{bytes_given}
use Rattle.ldm_sender.specs.declared.end.SendEnd.{SendEnd}
use Rattle.ldm_sender.specs.declared.end.SendEnd.TheVariants as feed
use Rattle.ldm_sender.specs.Asked.{Asked}
use Rattle.ldm_sender.specs.Opening.{Answered, Busy, Denied, Opened, Reclassed, IsAnswerTo}
use Rattle.ldm_downstream.specs.Pushing.{Ends}
use Rattle.ldm_downstream.specs.Pieces.{beginning}
use Rattle.ldm_between_ends.specs.OnePass.{IsOnlyPass, state_of}
use Rattle.ldm_between_ends.proofs.OnePass.{seen-by}
use Rattle.ldm_chain.specs.declared.node.Break.{Break}
use Rattle.ldm_chain.specs.declared.node.Break.TheVariants as broken
use Rattle.ldm_chain.specs.declared.node.ChainEnd.{ChainEnd}
use Rattle.ldm_chain.specs.Breaking.{Breaks, BreaksAt, BreaksSo, Came, FedFirst, LeavesNothing}
use Rattle.ldm_chain.specs.Causes.{AreAllTaken, CauseAt, HadAllCalls, HadNoCursor, ReceiveCause, StoodSo}
use Rattle.ldm_chain.specs.Ending.{broken_off, by_receiver, end_by}
use Rattle.ldm_chain.specs.Linking.{Fed, FedFewer, asking, request_read}
use Rattle.ldm_chain.specs.MirrorView.{MirrorView, all_read}
use Rattle.ldm_chain.specs.Reflecting.{Went, pieces_at}
use Rattle.ldm_chain.proofs.Answering.{ReclassEnds, all-sent, busy-ends, busy-seen, carries-all, denied-ends, granted-goes_on, no-bad_reply, over-whole, reclassed-ends, stopped-goes_on}
use Rattle.ldm_chain.proofs.FedWhole.{TookAll, still-only}
use Rattle.ldm_chain.proofs.FedFew.{fed-over}
use Rattle.ldm_chain.proofs.Linked.{took-rest, took-whole}
use Rattle.ldm_chain.proofs.Narrower.{fewer-fits, fewer-other, fewer-whole}
use Rattle.ldm_chain.proofs.Took.{IsTold, Took, took, took-told}
use Rattle.ldm_chain.proofs.UsedLaws.{EndLaws, Laws}

-- a count that stands at 0 did not rise
not-risen : Rose 0 0 → ⊥
not-risen (inl less) = omega (arith, less)
not-risen (inr full) = omega (arith, full.0)

none-some : {A : Type 0} (x : A) → None ≡ Some x → ⊥
none-some x is = cc is

-- what is left of what is left is the whole
module _ (asked : Asked) (fewer : ClassSpec) (left : reduce asked.rules asked.host asked.class ≡ reduced.Fewer fewer) where
  abbrev narrower : Asked
  narrower = record asked { xid = 2; class = fewer }

  whole-left : reduce asked.rules asked.host fewer ≡ reduced.Same
  whole-left = fewer-whole (feeds_for asked.host asked.rules) (or_none (first_rule (is_about asked.host) asked.rules)) asked.class fewer left

  not-denied : (answered : Answered) (rule : ℕ) → IsAnswerTo narrower answered → answered ≡ Denied rule → ⊥
  not-denied answered rule answers is =
      let by_rules : reduce asked.rules asked.host fewer ≡ reduced.Nothing rule = subst (IsAnswerTo narrower) is answers in
      let no : reduced.Same ≡ reduced.Nothing rule = sym whole-left ∙ by_rules in cc no

  not-reclassed : (answered : Answered) (class : ClassSpec) → IsAnswerTo narrower answered → answered ≡ Reclassed class → ⊥
  not-reclassed answered class answers is =
      let by_rules : reduce asked.rules asked.host fewer ≡ reduced.Fewer class = subst (IsAnswerTo narrower) is answers in
      let no : reduced.Same ≡ reduced.Fewer class = sym whole-left ∙ by_rules in cc no

leaves-cause : (end : RecvEnd) (asked : Asked) (found from : PassView) → LeavesNothing end asked → ReceiveCause end asked found from
leaves-cause (receive.BadFrame at) asked found from leaves = leaves
leaves-cause receive.Ended asked found from leaves = absurd leaves
leaves-cause (receive.Truncated at) asked found from leaves = absurd leaves
leaves-cause (receive.Refused answer) asked found from leaves = absurd leaves
leaves-cause receive.LinkFault asked found from leaves = absurd leaves
leaves-cause receive.LogFault asked found from leaves = absurd leaves
leaves-cause receive.StreamLimit asked found from leaves = absurd leaves
leaves-cause receive.Worn asked found from leaves = absurd leaves
leaves-cause receive.OutOfMemory asked found from leaves = absurd leaves

-- all cursors were taken of a queue that stood so
found-in : (one other pass : PassView) → (AreAllTaken (state_of one) → AreAllTaken (state_of other)) → HadNoCursor one pass → HadNoCursor other pass
found-in one other pass taken none = record {
  taken = taken none.taken;
  before = none.before;
  behind = none.behind;
  actor = none.actor;
  feed = none.feed;
  start = none.start;
  all = none.all;
}

made-legal-of : (old new : PassView) (made : List Entry) → IsOnlyPass old → Calls old new made → IsLegal new.arena new.slots new.seen
made-legal-of old new made only calls = (seen-by old new made only.has_seen calls).has_seen.legal

module _ (laws : Laws) (more : EndLaws) (asked : Asked) (number : asked.xid ≡ 1) (why : Break) (found old new before after : PassView) (only : IsOnlyPass old) (next : IsOnlyPass before)
    (fresh : before.seen ≡ []) (stood : StoodSo found old) (breaks : BreaksSo why asked old new before after) where
  abbrev m : MirrorView
  m = breaks.end

  abbrev end : Option RecvEnd
  end = m.receiver.end

  abbrev now : ℕ
  now = breaks.b.now

  abbrev s : Receiving
  s = asking asked.class asked.max_hereis

  abbrev at_first : MirrorView
  at_first = request_read s before

  -- where a part was left, and was asked for
  module _ (how : SendEnd) (part : FedFewer how breaks.b asked old new at_first m) where
    mid-only : IsOnlyPass part.mid
    mid-only = still-only laws old part.mid _ only part.first.feeds.made

    mid-small : part.mid.arena ≤ LARGEST_ARENA
    mid-small = subst (λ (n : ℕ). n ≤ LARGEST_ARENA) (sym (ap (λ (p : PassView). p.arena) part.first.feeds.made.same)) breaks.small

    -- and the queue before stood as it did
    mid-state : state_of part.mid ≡ state_of old
    mid-state = laws.unchanged feed.Reclassed asked [] old part.mid _ _ part.first.feeds only refl

  -- ---- over the receiver, where it goes on or ended by what it was told

  module _ (t : Took s before now m) where
    -- the first feeding
    module _ (how : SendEnd) (fed : Fed how asked old new at_first m) where
      first-all : TookAll asked fed.feeds.sent fed.feeds.given now before.actor t.made end
      first-all = took-whole laws asked now before number how old new m fed t

    -- the second one
    module _ (how : SendEnd) (part : FedFewer how breaks.b asked old new at_first m) where
      told-took : Took s before now part.told
      told-took = took breaks.b s before now part.told part.so_far breaks.first refl part.goes_on

      rest-all : TookAll (narrower asked part.rest.fewer part.rest.left) part.rest.fed.feeds.sent part.rest.fed.feeds.given now before.actor t.made end
      rest-all =
          took-rest laws asked now before number old part.mid part.told part.rest.fewer part.first part.rest.left part.rest.fits part.rest.meant told-took how new m part.rest.fed t

    -- an end that a reply decided, or none
    stopped : Fed feed.Stopped asked old new at_first m ⊎ FedFewer feed.Stopped breaks.b asked old new at_first m → end ≡ None
    stopped (inl fed) = stopped-goes_on laws more asked old new _ _ only breaks.small now before.actor t.made end fed.feeds (first-all feed.Stopped fed)
    stopped (inr part) =
        stopped-goes_on laws more (narrower asked part.rest.fewer part.rest.left) part.mid new _ _ (mid-only feed.Stopped part) (mid-small feed.Stopped part) now before.actor t.made end
        part.rest.fed.feeds (rest-all feed.Stopped part)

    bad-reply : (place : ℕ) → FedFirst (feed.BadReply place) asked old new at_first m ⊎ FedFewer (feed.BadReply place) breaks.b asked old new at_first m → ⊥
    bad-reply place (inl first) =
        no-bad_reply laws more asked old new _ _ only breaks.small now before.actor t.made end place first.fed.feeds (first-all (feed.BadReply place) first.fed)
    bad-reply place (inr part) =
        let how = feed.BadReply place in
        no-bad_reply laws more (narrower asked part.rest.fewer part.rest.left) part.mid new _ _ (mid-only how part) (mid-small how part) now before.actor t.made end
        place part.rest.fed.feeds (rest-all how part)

    denied : (rule : ℕ) → FedFirst (feed.Denied rule) asked old new at_first m ⊎ FedFewer (feed.Denied rule) breaks.b asked old new at_first m
        → (reduce asked.rules asked.host asked.class ≡ reduced.Nothing rule) × (end ≡ Some (receive.Refused class_answer.Denied))
    denied rule (inl first) =
        let how = feed.Denied rule in
        let feeds = first.fed.feeds in (
          subst (IsAnswerTo asked) feeds.cause feeds.is_feeding.answered,
          denied-ends laws more how asked old new _ _ feeds only breaks.small now before.actor t.made end (first-all how first.fed) rule feeds.cause
              (carries-all laws more how asked old new _ _ feeds only breaks.small now before.actor t.made end (first-all how first.fed) feeds.sent_part),
        )
    denied rule (inr part) =
        let feeds = part.rest.fed.feeds in absurd (not-denied asked part.rest.fewer part.rest.left feeds.feeding.answered rule feeds.is_feeding.answered feeds.cause)

    busy : FedFirst feed.AllBusy asked old new at_first m ⊎ FedFewer feed.AllBusy breaks.b asked old new at_first m → end ≡ Some (receive.Refused class_answer.Busy)
    busy (inl first) =
        let feeds = first.fed.feeds in
        busy-ends laws more feed.AllBusy asked old new _ _ feeds only breaks.small now before.actor t.made end (first-all feed.AllBusy first.fed) feeds.cause.0 feeds.cause.1
        (carries-all laws more feed.AllBusy asked old new _ _ feeds only breaks.small now before.actor t.made end (first-all feed.AllBusy first.fed) feeds.sent_part)
    busy (inr part) =
        let feeds = part.rest.fed.feeds in
        busy-ends laws more feed.AllBusy (narrower asked part.rest.fewer part.rest.left) part.mid new _ _ feeds (mid-only feed.AllBusy part) (mid-small feed.AllBusy part)
        now before.actor t.made end (rest-all feed.AllBusy part) feeds.cause.0 feeds.cause.1
        (carries-all laws more feed.AllBusy (narrower asked part.rest.fewer part.rest.left) part.mid new _ _ feeds (mid-only feed.AllBusy part) (mid-small feed.AllBusy part)
        now before.actor t.made end (rest-all feed.AllBusy part) feeds.sent_part)

  -- ---- ends of a feeder that need no receiver

  worn : FedFirst feed.Worn asked old new at_first m ⊎ FedFewer feed.Worn breaks.b asked old new at_first m → HadAllCalls found new
  worn (inl first) =
      let feeds = first.fed.feeds in
      let few = fed-over more feed.Worn asked old new at_first m first.fed only breaks.small in
      let same : new.slots ≡ old.slots = ap (λ (p : PassView). p.slots) feeds.made.same in
      record { legal = made-legal-of old new _ only feeds.made; all = feeds.cause; before = omega (arith, few, stood.calls, feeds.cause, same) }
  worn (inr part) =
      let feeds = part.rest.fed.feeds in
      let few = fed-over more feed.Reclassed asked old part.mid at_first part.told part.first only breaks.small in
      let rest = fed-over more feed.Worn (narrower asked part.rest.fewer part.rest.left) part.mid new (all_read part.told) m part.rest.fed (mid-only feed.Worn part) (mid-small feed.Worn part) in
      let same : new.slots ≡ part.mid.slots = ap (λ (p : PassView). p.slots) feeds.made.same in
      let before_it : part.mid.slots ≡ old.slots = ap (λ (p : PassView). p.slots) part.first.feeds.made.same in
      record {
        legal = made-legal-of part.mid new _ (mid-only feed.Worn part) feeds.made;
        all = feeds.cause;
        before = omega (arith, few, rest, stood.calls, feeds.cause, same, before_it);
      }

  no-peer_end : (place : ℕ) → FedFirst (feed.PeerEnd place) asked old new at_first m ⊎ FedFewer (feed.PeerEnd place) breaks.b asked old new at_first m → ⊥
  no-peer_end place (inl first) = not-risen first.fed.feeds.cause
  no-peer_end place (inr part) = not-risen part.rest.fed.feeds.cause

  no-log_fault : FedFirst feed.LogFault asked old new at_first m ⊎ FedFewer feed.LogFault breaks.b asked old new at_first m → ⊥
  no-log_fault (inl first) = not-risen first.fed.feeds.cause
  no-log_fault (inr part) = not-risen part.rest.fed.feeds.cause

  -- ---- the receiver goes on

  module _ (live : end ≡ None) where
    live-took : Took s before now m
    live-took = took breaks.b s before now m breaks.reflects breaks.first refl live

    over-not : (over : RecvEnd) → end ≡ Some over → ⊥
    over-not over is = none-some over (sym live ∙ is)

    feeder-cause : (how : SendEnd) → (how ≡ feed.Stopped → ⊥) → FedFirst how asked old new at_first m ⊎ FedFewer how breaks.b asked old new at_first m
        → CauseAt (end_by (broken_off how)) asked found new
    feeder-cause feed.Stopped unlike by = absurd (unlike refl)
    feeder-cause feed.Reclassed unlike (inl first) = (let none : false ≡ true = subst (λ (e : Option RecvEnd). IsSome e) live (first.over refl) in absurd (cc none))
    feeder-cause feed.Reclassed unlike (inr part) =
        let feeds = part.rest.fed.feeds in
        absurd (not-reclassed asked part.rest.fewer part.rest.left feeds.feeding.answered feeds.cause.0 feeds.is_feeding.answered feeds.cause.1)
    feeder-cause (feed.Denied rule) unlike by = absurd (over-not (receive.Refused class_answer.Denied) (denied live-took rule by).1)
    feeder-cause (feed.PeerEnd place) unlike by = absurd (no-peer_end place by)
    feeder-cause feed.LinkFault unlike by = tt
    feeder-cause feed.LogFault unlike by = absurd (no-log_fault by)
    feeder-cause (feed.BadReply place) unlike by = absurd (bad-reply live-took place by)
    feeder-cause feed.AllBusy unlike by = absurd (over-not (receive.Refused class_answer.Busy) (busy live-took by))
    feeder-cause feed.Worn unlike by = worn by
    feeder-cause feed.OutOfMemory unlike by = tt

  -- ---- the receiver ended by what it was told

  module _ (told : RecvEnd) (is_told : IsTold told) (over : end ≡ Some told) where
    took-it : Took s before now m
    took-it = took-told breaks.b s before m told breaks.reflects breaks.first is_told over breaks.few

    not-live : end ≡ None → ⊥
    not-live live = none-some told (sym live ∙ over)

    told-by : (other : RecvEnd) → end ≡ Some other → other ≡ told
    told-by other is = let same : Some other ≡ Some told = sym is ∙ over in cc same

    left-cause : (fewer : ClassSpec) → reduce asked.rules asked.host asked.class ≡ reduced.Fewer fewer → (bad : Option ℕ) → bad_place fewer.specs.items ≡ bad → ReclassEnds bad end
        → ReceiveCause told asked found new
    left-cause fewer left None is ends = absurd (not-live ends)
    left-cause fewer left (Some place) is ends =
        subst (λ (e : RecvEnd). ReceiveCause e asked found new) (told-by (receive.BadFrame ends.0) ends.1)
        (record { fewer = fewer; left = left; bad = subst (λ (o : Option ℕ). IsSome o) (sym is) refl })

    is-over : IsSome end
    is-over = subst (λ (e : Option RecvEnd). IsSome e) (sym over) refl

    -- by how its request was answered, however the feeder ended then
    module _ (how : SendEnd) (first : FedFirst how asked old new at_first m) where
      feeds-all : TookAll asked first.fed.feeds.sent first.fed.feeds.given now before.actor took-it.made end
      feeds-all = first-all took-it how first.fed

      first-told : (answered : Answered) → first.fed.feeds.feeding.answered ≡ answered → ReceiveCause told asked found new
      first-told (Denied rule) is =
          let feeds = first.fed.feeds in
          let whole = over-whole laws more how asked old new _ _ feeds only breaks.small now before.actor took-it.made end feeds-all (Denied rule) is tt tt is-over in
          let ends = denied-ends laws more how asked old new _ _ feeds only breaks.small now before.actor took-it.made end feeds-all rule is whole in
          subst (λ (e : RecvEnd). ReceiveCause e asked found new) (told-by (receive.Refused class_answer.Denied) ends)
          (rule, subst (IsAnswerTo asked) is feeds.is_feeding.answered)
      first-told (Reclassed class) is =
          let feeds = first.fed.feeds in
          let feeds_left = feeds_for asked.host asked.rules in
          let rule_left = or_none (first_rule (is_about asked.host) asked.rules) in
          let left : reduce asked.rules asked.host asked.class ≡ reduced.Fewer class = subst (IsAnswerTo asked) is feeds.is_feeding.answered in
          let fits = fewer-fits feeds_left rule_left asked.class class left breaks.fits in
          let whole = over-whole laws more how asked old new _ _ feeds only breaks.small now before.actor took-it.made end feeds-all (Reclassed class) is tt fits is-over in
          left-cause class left (bad_place class.specs.items) refl
          (reclassed-ends laws more how asked old new _ _ feeds only breaks.small now before.actor took-it.made end feeds-all class is fits number
          (fewer-other feeds_left rule_left asked.class class left) whole)
      first-told (Busy missed) is =
          let feeds = first.fed.feeds in
          let whole = over-whole laws more how asked old new _ _ feeds only breaks.small now before.actor took-it.made end feeds-all (Busy missed) is tt tt is-over in
          let ends = busy-ends laws more how asked old new _ _ feeds only breaks.small now before.actor took-it.made end feeds-all missed is whole in
          let sent = all-sent laws more how asked old new _ _ feeds only breaks.small now before.actor took-it.made end feeds-all whole in
          subst (λ (e : RecvEnd). ReceiveCause e asked found new) (told-by (receive.Refused class_answer.Busy) ends)
          (found-in old found new stood.taken (busy-seen laws how asked old new _ _ only feeds missed is at_first m feeds.exchanged.passed sent first.fed.decided))
      first-told (Opened missed k) is =
          absurd (not-live (granted-goes_on laws more how asked old new _ _ first.fed.feeds only breaks.small now before.actor took-it.made end feeds-all missed k is))

    module _ (how : SendEnd) (part : FedFewer how breaks.b asked old new at_first m) where
      abbrev asked-rest : Asked
      asked-rest = narrower asked part.rest.fewer part.rest.left

      rest-told : (answered : Answered) → part.rest.fed.feeds.feeding.answered ≡ answered → ReceiveCause told asked found new
      rest-told (Denied rule) is =
          absurd (not-denied asked part.rest.fewer part.rest.left (Denied rule) rule (subst (IsAnswerTo asked-rest) is part.rest.fed.feeds.is_feeding.answered) refl)
      rest-told (Reclassed class) is =
          absurd (not-reclassed asked part.rest.fewer part.rest.left (Reclassed class) class (subst (IsAnswerTo asked-rest) is part.rest.fed.feeds.is_feeding.answered) refl)
      rest-told (Busy missed) is =
          let feeds = part.rest.fed.feeds in
          let all = rest-all took-it how part in
          let mid_only = mid-only how part in
          let whole = over-whole laws more how asked-rest part.mid new _ _ feeds mid_only (mid-small how part) now before.actor took-it.made end all (Busy missed) is tt tt is-over in
          let ends = busy-ends laws more how asked-rest part.mid new _ _ feeds mid_only (mid-small how part) now before.actor took-it.made end all missed is whole in
          let sent = all-sent laws more how asked-rest part.mid new _ _ feeds mid_only (mid-small how part) now before.actor took-it.made end all whole in
          subst (λ (e : RecvEnd). ReceiveCause e asked found new) (told-by (receive.Refused class_answer.Busy) ends)
          (found-in part.mid found new (λ all. stood.taken (subst AreAllTaken (mid-state how part) all))
          (busy-seen laws how asked-rest part.mid new _ _ mid_only feeds missed is (all_read part.told) m feeds.exchanged.passed sent part.rest.fed.decided))
      rest-told (Opened missed k) is =
          absurd (not-live (granted-goes_on laws more how asked-rest part.mid new _ _ part.rest.fed.feeds (mid-only how part) (mid-small how part) now before.actor took-it.made end
          (rest-all took-it how part) missed k is))

    told-cause : (fed : Option Break) → Came fed breaks.b asked old new at_first m → ReceiveCause told asked found new
    told-cause None came = absurd (not-live (stopped took-it came))
    told-cause (Some (broken.Feed how)) came = elim came.1 [
      | inl first ↦ first-told how first first.fed.feeds.feeding.answered refl
      | inr part ↦ rest-told how part part.rest.fed.feeds.feeding.answered refl
    ]
    told-cause (Some (broken.Receive bad)) came = absurd (not-live came.1.goes_on)
    told-cause (Some broken.OutOfMemory) came = absurd (not-live came.goes_on)

  -- ---- all

  -- no push ends a receiver so
  no-end : (over : RecvEnd) → end ≡ Some over → Ends over (pieces_at now breaks.reflects.parts) beginning breaks.b.first
      (stands m.receiver.receiving m.pass (bytes_given m.passed ++ m.waiting) breaks.reflects.notes)
  no-end over is = subst (λ (e : Option RecvEnd). Went e (pieces_at now breaks.reflects.parts) m.receiver.hand breaks.b.first (stands m.receiver.receiving m.pass (bytes_given m.passed ++ m.waiting) breaks.reflects.notes)) is
      breaks.reflects.went

  -- a receiver makes far fewer calls than its queue can have
  receiver-worn : end ≡ Some receive.Worn → ⊥
  receiver-worn is =
      let ends = no-end receive.Worn is in
      let first_pass : breaks.b.first.pass ≡ before = ap (λ (st : Standing). st.pass) breaks.first in
      let first_only : IsOnlyPass breaks.b.first.pass = subst IsOnlyPass (sym first_pass) next in
      let takes = ends.breaks.takes in
      let between = ends.breaks.between.pass in
      let between_only = still-only laws breaks.b.first.pass between takes.made first_only takes.calls in
      let taken = laws.goes_on breaks.b.first.pass between takes.made (seen-by breaks.b.first.pass between takes.made first_only.has_seen takes.calls) first_only.passes first_only.actor in
      let behind = laws.goes_on between m.pass ends.breaks.made (seen-by between m.pass ends.breaks.made between_only.has_seen ends.breaks.calls) between_only.passes between_only.actor in
      let few = more.broke_off beginning (pieces_at now breaks.reflects.parts) breaks.b.first
      (stands m.receiver.receiving m.pass (bytes_given m.passed ++ m.waiting) breaks.reflects.notes) ends.breaks in
      let none : breaks.b.first.pass.seen ≡ [] = ap (λ (p : PassView). p.seen) first_pass ∙ fresh in
      omega (
        arith,
        few,
        breaks.few,
        ends.worn,
        ap (λ (es : List Entry). length es) taken,
        ap (λ (es : List Entry). length es) behind,
        ap (λ (es : List Entry). length es) none,
        ap (λ (bytes : List ℕ). length bytes) breaks.reflects.sent_is,
        length-append breaks.b.first.pass.seen takes.made,
        length-append between.seen ends.breaks.made,
      )

  by-receiver : (over : Option RecvEnd) → end ≡ over → (fed : Option Break) → Came fed breaks.b asked old new at_first m → (how : Break) → by_receiver over fed ≡ Some how
      → CauseAt (end_by how) asked found new
  by-receiver None live None came how is = absurd (none-some how is)
  by-receiver None live (Some (broken.Feed why_fed)) came how is =
      subst (λ (b : Break). CauseAt (end_by b) asked found new) (let same : broken_off why_fed ≡ how = cc is in same) (feeder-cause live why_fed came.0 came.1)
  by-receiver None live (Some (broken.Receive bad)) came how is =
      subst (λ (b : Break). CauseAt (end_by b) asked found new) (let same : broken.Receive bad ≡ how = cc is in same) (leaves-cause bad asked found new came.0)
  by-receiver None live (Some broken.OutOfMemory) came how is =
      subst (λ (b : Break). CauseAt (end_by b) asked found new) (let same : broken.OutOfMemory ≡ how = cc is in same) tt
  by-receiver (Some receive.OutOfMemory) over fed came how is =
      subst (λ (b : Break). CauseAt (end_by b) asked found new) (let same : broken.OutOfMemory ≡ how = cc is in same) tt
  by-receiver (Some receive.Worn) over fed came how is = absurd (receiver-worn over)
  by-receiver (Some (receive.BadFrame at)) over fed came how is =
      subst (λ (b : Break). CauseAt (end_by b) asked found new) (let same : broken.Receive (receive.BadFrame at) ≡ how = cc is in same) (told-cause (receive.BadFrame at) tt over fed came)
  by-receiver (Some (receive.Refused answer)) over fed came how is =
      subst (λ (b : Break). CauseAt (end_by b) asked found new) (let same : broken.Receive (receive.Refused answer) ≡ how = cc is in same) (told-cause (receive.Refused answer) tt over fed came)
  by-receiver (Some receive.StreamLimit) over fed came how is =
      subst (λ (b : Break). CauseAt (end_by b) asked found new) (let same : broken.Receive receive.StreamLimit ≡ how = cc is in same) (told-cause receive.StreamLimit tt over fed came)
  by-receiver (Some receive.Ended) over fed came how is = absurd (no-end receive.Ended over)
  by-receiver (Some (receive.Truncated at)) over fed came how is = absurd (no-end (receive.Truncated at) over)
  by-receiver (Some receive.LinkFault) over fed came how is = absurd (no-end receive.LinkFault over)
  by-receiver (Some receive.LogFault) over fed came how is = absurd (no-end receive.LogFault over)

  so-cause : CauseAt (end_by why) asked found new
  so-cause = by-receiver end refl breaks.fed breaks.came why breaks.is

module _ (laws : Laws) (more : EndLaws) (asked : Asked) (number : asked.xid ≡ 1) (found old new before after : PassView) (only : IsOnlyPass old) (next : IsOnlyPass before)
    (fresh : before.seen ≡ []) (stood : StoodSo found old) where
  by-break : (why : Break) → Breaks why asked old new before after → CauseAt (end_by why) asked found new
  by-break (broken.Feed how) (inl unasked) = absurd unasked
  by-break (broken.Feed how) (inr breaks) = so-cause laws more asked number (broken.Feed how) found old new before after only next fresh stood breaks
  by-break (broken.Receive over) (inl unasked) = absurd unasked
  by-break (broken.Receive over) (inr breaks) = so-cause laws more asked number (broken.Receive over) found old new before after only next fresh stood breaks
  by-break broken.OutOfMemory breaks = tt

  pub causes : (ending : ChainEnd) → BreaksAt ending asked old new before after → CauseAt ending asked found new
  causes ending breaks = subst (λ (e : ChainEnd). CauseAt e asked found new) (sym breaks.is) (by-break breaks.why breaks.breaks)

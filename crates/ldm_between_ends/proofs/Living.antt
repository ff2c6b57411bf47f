-- The calls of a feeding are those of a life of its cursor.
use Rattle.std.proofs.Common.{◌≡◌, ◌∙◌, ℕ, ◌+◌, ◌<◌, Bool, true, false, List, [], ◌∷◌, ◌++◌, length, All, Option, Some, None, refl, sym, ap, subst, inl, inr, arith, append_assoc, length-append}
use Rattle.std.specs.Prelude.{◌⊎◌, ◌&&◌}
use Rattle.std.proofs.lemmas.Bool.{and_right}
use Rattle.std.proofs.lemmas.List.Elements.{All-nil, All-cons, All-head, All-tail, All-append, All-weaker}
use Rattle.ldm_outside.specs.Session.{SessionRecord}
use Rattle.ldm_model.specs.declared.event.Event.TheVariants.{OpenCursor}
use Rattle.ldm_model.specs.declared.event.Reply.{Reply}
use Rattle.ldm_model.specs.declared.event.Reply.TheVariants.{End, Gap, Opened as OpenedAt}
use Rattle.ldm_model.specs.declared.event.Start.{Start}
use Rattle.ldm_model.specs.declared.event.Start.TheVariants.{AfterSignature}
use Rattle.ldm_model.specs.declared.event.Entry.{Entry}
use Rattle.ldm_model.specs.Law.{Point, is_close, opening}
use Rattle.ldm_class.specs.Classes.{resumed}
use Rattle.ldm_shared.specs.Own.{own}
use Rattle.ldm_shared.specs.OwnReaders.{OwnPoint, AtEveryOwnPoint, IsOwnPointOf, IsSeenAt, is_about, opening_by}
use Rattle.ldm_shared.specs.Passes.{PassView, HasSeen, Calls}
use Rattle.ldm_sender.specs.declared.end.SendEnd.{SendEnd}
use Rattle.ldm_sender.specs.Acts.{is_whole}
use Rattle.ldm_sender.specs.Asked.{Asked}
use Rattle.ldm_sender.specs.Calls.{MayBeUnmade, stepped}
use Rattle.ldm_sender.specs.Does.{Each}
use Rattle.ldm_sender.specs.Ending.{closing_of}
use Rattle.ldm_sender.specs.Opening.{Opened, feeds_of, from_instant, opens, opening_calls, opening_entries, place_of}
use Rattle.ldm_upstream.specs.Blocks.{blocks, reads}
use Rattle.ldm_upstream.specs.Feeding.{Feeding, Last, GoesOn, Stopped, Unanswered, entries_of, last_entries}
use Rattle.ldm_upstream.specs.Feeds.{Feeds}
use Rattle.ldm_upstream.specs.ProductDeeds.{read_entry}
use Rattle.ldm_upstream.specs.Turn.{Given, Handling, Passed, Whole, Declined, InBlocks, Turn, Lost, Gave, Quiet, Alive, given_reply, handling_entries, let_go, turn_entries}
use Rattle.ldm_upstream.specs.Turns.{entries_of_turns}
use Rattle.ldm_between_ends.specs.Life.{HasLife, calls_of, gives}
use Rattle.ldm_sender.proofs.Fronts.{all_but_at_most, each_last}
use Rattle.ldm_between_ends.proofs.Giving.{All-front}

-- the call that opened the cursor, and those before it that are made for the same request
record OpensLast (actor k : ℕ) (asked : Asked) (calls : List Entry) : Type 0 where
  pub refused : List Entry
  pub start : Start
  pub are : calls ≡ refused ++ opens actor asked start (OpenedAt k) ∷ []

opens-last : (actor k : ℕ) (asked : Asked) (signature : Option (List ℕ)) (missed : Bool)
    → OpensLast actor k asked (opening_calls actor asked signature missed (OpenedAt k))
opens-last actor k asked None missed = record { refused = []; start = from_instant asked.class.from; are = refl }
opens-last actor k asked (Some signature) false = record { refused = []; start = AfterSignature (record { 0 = signature }); are = refl }
opens-last actor k asked (Some signature) true = record { refused = _ ∷ []; start = from_instant asked.class.from; are = refl }

-- ---- what holds of steps, of reads and of releases holds of all calls of a feeding

module _ (P : Entry → Type 0) (actor k : ℕ) (step : (answer : Reply) → P (stepped actor k answer)) (read : (offset : ℕ) (part : List ℕ) → P (read_entry actor k offset part))
    (lets_go : (given : Given) → P (let_go actor k given)) where
  one-call : (entry : Entry) → P entry → All P (entry ∷ [])
  one-call entry is = All-cons P entry [] is (All-nil P)

  reads-all : (offset : ℕ) (parts : List (List ℕ)) → All P (reads actor k offset parts)
  reads-all offset [] = All-nil P
  reads-all offset (part ∷ parts) = All-cons P _ (reads actor k (offset + length part) parts) (read offset part) (reads-all (offset + length part) parts)

  handling-all : (given : Given) (handling : Handling) → All P (handling_entries actor k given handling)
  handling-all given Passed = All-nil P
  handling-all given (Whole at) = reads-all 0 (blocks given.product.body)
  handling-all given (Declined at) = All-nil P
  handling-all given (InBlocks at blocks_at) = reads-all 0 (blocks given.product.body)

  turn-all : (turn : Turn) → All P (turn_entries actor k turn)
  turn-all (Lost count first last) = one-call _ (step (Gap count first last))
  turn-all (Gave given handling) =
      All-cons P _ _ (step (given_reply given)) (All-append P (handling_entries actor k given handling) _ (handling-all given handling) (one-call _ (lets_go given)))
  turn-all (Quiet end now) = one-call _ (step (End end))
  turn-all (Alive end now at) = one-call _ (step (End end))

  turns-all : (turns : List Turn) → All P (entries_of_turns actor k turns)
  turns-all [] = All-nil P
  turns-all (turn ∷ turns) = All-append P (turn_entries actor k turn) (entries_of_turns actor k turns) (turn-all turn) (turns-all turns)

  last-all : (last : Last) → All P (last_entries actor k last)
  last-all GoesOn = All-nil P
  last-all (Stopped end) = one-call _ (step (End end))
  last-all (Unanswered given at) = one-call _ (step (given_reply given))

  calls-all : (feeding : Feeding) → All P (calls_of actor k feeding)
  calls-all feeding = All-append P (entries_of_turns actor k feeding.turns) (last_entries actor k feeding.last) (turns-all feeding.turns) (last-all feeding.last)

-- no call of a feeding closes its cursor
abbrev StaysOpen : Entry → Type 0
StaysOpen entry = is_close entry.event ≡ false

calls-open : (actor k : ℕ) (feeding : Feeding) → All StaysOpen (calls_of actor k feeding)
calls-open actor k = calls-all StaysOpen actor k (λ answer. refl) (λ offset part. refl) (λ given. refl)

-- one that may be left out gives no product
abbrev GivesIfStep : Entry → Type 0
GivesIfStep entry = MayBeUnmade entry → gives entry.reply ≡ false

calls-give : (actor k : ℕ) (feeding : Feeding) → All GivesIfStep (calls_of actor k feeding)
calls-give actor k = calls-all GivesIfStep actor k (λ answer left. absurd left) (λ offset part left. refl) (λ given left. refl)

-- ---- the life

-- where a pass made calls it has seen a history, if it had before
pub seen-then : (old new : PassView) (made : List Entry) → HasSeen old → Calls old new made → HasSeen new
seen-then old new made has calls = by_case calls.has_seen
  where
    by_case : (new ≡ old) ⊎ HasSeen new → HasSeen new
    by_case (inl same) = subst HasSeen (sym same) has
    by_case (inr now) = now

abbrev pub SeenLaw : Type 0
SeenLaw = AtEveryOwnPoint (λ (pass : PassView) (q : OwnPoint). (p : Point) × IsSeenAt pass q p)

module _ (law : SeenLaw) (old new : PassView) (asked : Asked) (feeding : Feeding) (missed : Bool) (k : ℕ) (called unmade more : List Entry) (has : HasSeen new)
    (calls : Calls old new (opening_entries old.actor asked feeding.answered ++ (called ++ more))) (answered : feeding.answered ≡ Opened missed k)
    (called_are : called ++ unmade ≡ calls_of old.actor k feeding) (none : All (λ (entry : Entry). gives entry.reply ≡ false) unmade) where
  same_actor : new.actor ≡ old.actor
  same_actor = ap (λ (pass : PassView). pass.actor) calls.same

  opening-is : (o : OpensLast old.actor k asked (opening_calls old.actor asked (resumed asked.class.specs.items) missed (OpenedAt k)))
      → opening_entries old.actor asked feeding.answered ≡ o.refused ++ opens old.actor asked o.start (OpenedAt k) ∷ []
  opening-is o = ap (opening_entries old.actor asked) answered ∙ o.are

  abbrev own_point : Start → List Entry → OwnPoint
  own_point start refused = record { earlier = own old.actor old.seen ++ refused; feed = feeds_of asked.class; start = start; k = k; since = called }

  is-own : (o : OpensLast old.actor k asked (opening_calls old.actor asked (resumed asked.class.specs.items) missed (OpenedAt k)))
      → IsOwnPointOf new (own_point o.start o.refused)
  is-own o =
      let q = own_point o.start o.refused in
      let earlier = own old.actor old.seen in
      let opened = opening_by old.actor q in
      let own_are : own old.actor new.seen ≡ earlier ++ ((o.refused ++ opened ∷ []) ++ (called ++ more)) =
      calls.adds.own ∙ ap (λ (es : List Entry). earlier ++ (es ++ (called ++ more))) (opening-is o) in
      let joined : earlier ++ ((o.refused ++ opened ∷ []) ++ (called ++ more)) ≡ (earlier ++ o.refused) ++ opened ∷ (called ++ more) =
      ap (λ (es : List Entry). earlier ++ es) (append_assoc o.refused (opened ∷ []) (called ++ more))
      ∙ sym (append_assoc earlier o.refused (opened ∷ (called ++ more))) in
      record {
        rest = more;
        front = subst (λ (actor : ℕ). own actor new.seen ≡ (earlier ++ o.refused) ++ opening_by actor q ∷ (called ++ more)) (sym same_actor) (own_are ∙ joined);
        not_closed = All-weaker StaysOpen (λ (entry : Entry). (is_about k entry && is_close entry.event) ≡ false)
            (λ entry still. and_right (is_about k entry) (is_close entry.event) still) called
            (All-front StaysOpen called unmade (subst (All StaysOpen) (sym called_are) (calls-open old.actor k feeding)));
      }

  life-of : (o : OpensLast old.actor k asked (opening_calls old.actor asked (resumed asked.class.specs.items) missed (OpenedAt k))) → (p : Point)
      → IsSeenAt new (own_point o.start o.refused) p → HasLife new asked feeding p
  life-of o p at =
      let earlier = own old.actor old.seen in
      let who : old.actor ≡ p.owner = sym (at.owner ∙ same_actor) in
      let opens_there : opening p ≡ opens old.actor asked o.start (OpenedAt k) =
      λ i. record { actor = sym who i; event = OpenCursor (record { 0 = at.feed i }) (at.start i); reply = OpenedAt (at.place i) } in
      record {
        is_point = at.is_point;
        owner = at.owner;
        earlier = earlier;
        opened = ap (λ (actor : ℕ). own actor p.before ++ opening p ∷ []) at.owner
            ∙ (λ i. at.earlier i ++ opens_there i ∷ [])
            ∙ append_assoc earlier o.refused (opens old.actor asked o.start (OpenedAt k) ∷ [])
            ∙ ap (λ (es : List Entry). earlier ++ es) (sym (opening-is o))
            ∙ ap (λ (actor : ℕ). earlier ++ opening_entries actor asked feeding.answered) who;
        unmade = unmade;
        called = ap (λ (actor : ℕ). own actor p.since ++ unmade) at.owner
            ∙ ap (λ (es : List Entry). es ++ unmade) at.since
            ∙ called_are
            ∙ (λ i. calls_of (who i) (sym at.place i) feeding);
        none_given = none;
      }

  pub has-life : (life : Point) × HasLife new asked feeding life
  has-life =
      let o = opens-last old.actor k asked (resumed asked.class.specs.items) missed in
      let seen = law new has (own_point o.start o.refused) (is-own o) in
      (seen.0, life-of o seen.0 seen.1)

-- ---- of a call that feeds

-- of calls that were made and left out, those that were left out give none
left-none : (front left : List Entry) → All GivesIfStep (front ++ left) → Each MayBeUnmade left → All (λ (entry : Entry). gives entry.reply ≡ false) left
left-none [] [] all each = All-nil (λ (entry : Entry). gives entry.reply ≡ false)
left-none [] (entry ∷ left) all each =
    All-cons (λ (entry : Entry). gives entry.reply ≡ false) entry left (All-head GivesIfStep entry left all each.0) (left-none [] left (All-tail GivesIfStep entry left all) each.1)
left-none (entry ∷ front) left all each = left-none front left (All-tail GivesIfStep entry (front ++ left) all) each

-- Behind a call that may not be left out, the other calls are those that were made and those that were left out.
behind-made : (front called left rest : List Entry) (call : Entry) → Each MayBeUnmade left → (MayBeUnmade call → ⊥) → called ++ left ≡ front ++ call ∷ rest
    → (more : List Entry) × (called ≡ front ++ call ∷ more) × (more ++ left ≡ rest)
behind-made [] [] left rest call each not is = absurd (not (subst (Each MayBeUnmade) is each).0)
behind-made [] (entry ∷ called) left rest call each not is = (called, ap (λ (e : Entry). e ∷ called) (cc is), cc is)
behind-made (first ∷ front) [] left rest call each not is = absurd (not (each_last MayBeUnmade (first ∷ front) (call ∷ rest) (subst (Each MayBeUnmade) is each)).0)
behind-made (first ∷ front) (entry ∷ called) left rest call each not is = put (behind-made front called left rest call each not (cc is)) (cc is)
  where
    put : (more : List Entry) × (called ≡ front ++ call ∷ more) × (more ++ left ≡ rest) → entry ≡ first
        → (more : List Entry) × (entry ∷ called ≡ first ∷ (front ++ call ∷ more)) × (more ++ left ≡ rest)
    put later same = (later.0, (λ i. same i ∷ later.1 i), later.2)

-- what was made of a feeding whose cursor was opened
record MadeOf (old : PassView) (k : ℕ) (asked : Asked) (feeding : Feeding) (made closing : List Entry) : Type 0 where
  pub called : List Entry
  pub unmade : List Entry
  pub are : made ++ closing ≡ opening_entries old.actor asked feeding.answered ++ (called ++ closing)
  pub all : called ++ unmade ≡ calls_of old.actor k feeding
  pub none_given : All (λ (entry : Entry). gives entry.reply ≡ false) unmade
  pub some : 0 < length made

module _ (why : SendEnd) (asked : Asked) (ahead : List ℕ) (old new : PassView) (before after : SessionRecord) (feeds : Feeds why asked ahead old new before after)
    (missed : Bool) (k : ℕ) (answered : feeds.feeding.answered ≡ Opened missed k) where
  abbrev closing_calls : List Entry
  closing_calls = closing_of old.actor why feeds.feeding.answered

  made-of : MadeOf old k asked feeds.feeding feeds.called closing_calls
  made-of =
      let feeding = feeds.feeding in
      let calls = calls_of old.actor k feeding in
      let opening_ones = opening_entries old.actor asked feeding.answered in
      let at : place_of feeding.answered ≡ k = ap place_of answered in
      let part = all_but_at_most MayBeUnmade (is_whole why) feeds.called (entries_of old.actor asked feeding) feeds.called_part in
      let o = opens-last old.actor k asked (resumed asked.class.specs.items) missed in
      let opened = opens old.actor asked o.start (OpenedAt k) in
      let opening_are : opening_ones ≡ o.refused ++ opened ∷ [] = ap (opening_entries old.actor asked) answered ∙ o.are in
      let all : feeds.called ++ part.0 ≡ o.refused ++ opened ∷ calls =
      part.1
      ∙ append_assoc opening_ones (entries_of_turns old.actor (place_of feeding.answered) feeding.turns) (last_entries old.actor (place_of feeding.answered) feeding.last)
      ∙ ap (λ (place : ℕ). opening_ones ++ calls_of old.actor place feeding) at
      ∙ ap (λ (es : List Entry). es ++ calls) opening_are
      ∙ append_assoc o.refused (opened ∷ []) calls in
      let behind = behind-made o.refused feeds.called part.0 calls opened part.2 (λ left. left) all in
      let called : feeds.called ≡ opening_ones ++ behind.0 =
      behind.1 ∙ sym (append_assoc o.refused (opened ∷ []) behind.0) ∙ ap (λ (es : List Entry). es ++ behind.0) (sym opening_are) in
      record {
        called = behind.0;
        unmade = part.0;
        are = ap (λ (es : List Entry). es ++ closing_calls) called ∙ append_assoc opening_ones behind.0 closing_calls;
        all = behind.2;
        none_given = left-none behind.0 part.0 (subst (All GivesIfStep) (sym behind.2) (calls-give old.actor k feeding)) part.2;
        some = omega (arith, ap (λ (es : List Entry). length es) behind.1, length-append o.refused (opened ∷ behind.0));
      }

  -- so the pass has seen a history
  pub fed-seen : HasSeen new
  fed-seen = by_case feeds.made.has_seen
    where
      by_case : (new ≡ old) ⊎ HasSeen new → HasSeen new
      by_case (inr now) = now
      by_case (inl same) =
          let made = feeds.called ++ closing_calls in
          let before_ = own old.actor old.seen in
          let own_are : before_ ≡ before_ ++ made = ap (λ (pass : PassView). own old.actor pass.seen) (sym same) ∙ feeds.made.adds.own in
          absurd (omega (arith, made-of.some, ap (λ (es : List Entry). length es) own_are, length-append before_ made, length-append feeds.called closing_calls))

  pub fed-life : SeenLaw → (life : Point) × HasLife new asked feeds.feeding life
  fed-life law =
      let feeding = feeds.feeding in
      has-life law old new asked feeding missed k made-of.called made-of.unmade closing_calls fed-seen
      (subst (Calls old new) made-of.are feeds.made) answered made-of.all made-of.none_given

-- Sessions that go on behind a product: what they offer is later, and what they pass over was not queued.
use Rattle.std.proofs.Common.{◌≡◌, ◌∙◌, ℕ, ◌<◌, true, false, List, [], ◌∷◌, ◌++◌, All, Option, Some, None, refl, sym, ap, subst, inl, inr, arith}
use Rattle.std.specs.Prelude.{is_some, slice_get}
use Rattle.std.proofs.lemmas.Bool.{cases_Bool, false≢true}
use Rattle.ldm_types.specs.Feed.{feeds_meet}
use Rattle.ldm_model.specs.declared.event.Event.{Event}
use Rattle.ldm_model.specs.declared.event.Event.TheVariants.{OpenCursor}
use Rattle.ldm_model.specs.declared.event.Reply.TheVariants.{Opened as OpenedAt}
use Rattle.ldm_model.specs.declared.event.Start.{Start}
use Rattle.ldm_model.specs.declared.event.Start.TheVariants.{Oldest}
use Rattle.ldm_model.specs.declared.event.Entry.{Entry}
use Rattle.ldm_model.specs.Always.{Always, SignaturesDiffer}
use Rattle.ldm_model.specs.State.{Row, empty, place_of_row}
use Rattle.ldm_model.specs.History.{IsLegal}
use Rattle.ldm_model.specs.Law.{ObeysLaw, at_entries, opening, state_before, state_at, feed_of_row, is_present, given}
use Rattle.ldm_model.proofs.Appended.{IsLegalFrom-append}
use Rattle.ldm_model.proofs.Ascending.{IsAmong, among-append, among-left, among-filter, filter-among, Contains-from_among, All-from_among, Rises, Rises-filter}
use Rattle.ldm_model.proofs.TiedPoints.{IsLegalAt-point}
use Rattle.ldm_shared.specs.Own.{own}
use Rattle.ldm_sender.specs.Opening.{Answered, feeds_of, opens, opening_calls, opening_entries}
use Rattle.ldm_between_ends.specs.Session.{Session, IsSession}
use Rattle.ldm_between_ends.specs.Offered.{offered, due, is_due_row, is_due_number}
use Rattle.ldm_between_ends.specs.Behind.{IsBehind, IsNextBehind}
use Rattle.ldm_between_ends.proofs.Numbers.{past, Rises-from_increasing, Rises-front, Rises-apart}
use Rattle.ldm_between_ends.proofs.Giving.{given-gives}
use Rattle.ldm_between_ends.proofs.Handing.{offered-first}
use Rattle.ldm_between_ends.proofs.Position.{behind_signature}
use Rattle.ldm_between_ends.proofs.Reader.{StaysLaw, row-later, given-above, given-passed}
use Rattle.ldm_between_ends.proofs.Wanted.{due-meets}

-- what histories obey
pub record QueueLaws : Type 0 where
  pub readers : (arena slots : ℕ) (history : List Entry) → IsLegal arena slots history → ObeysLaw arena slots history
  pub signatures : Always SignaturesDiffer
  pub stays : StaysLaw

last-entry : Entry → List Entry → Entry
last-entry before [] = before
last-entry before (entry ∷ entries) = last-entry entry entries

last-pushed : (before : Entry) (entries : List Entry) (entry : Entry) → last-entry before (entries ++ entry ∷ []) ≡ entry
unfolding last-entry
last-pushed before [] entry = refl
last-pushed before (other ∷ entries) entry = last-pushed other entries entry

same-last : (xs ys : List Entry) (x y : Entry) → xs ++ x ∷ [] ≡ ys ++ y ∷ [] → x ≡ y
same-last xs ys x y same = sym (last-pushed x xs x) ∙ ap (last-entry x) same ∙ last-pushed x ys y

start_of : Event → Start
start_of (OpenCursor feed start) = start
start_of event = Oldest

feed_of : Event → ℕ
feed_of (OpenCursor feed start) = feed.0
feed_of event = 0

module _ (laws : QueueLaws) (s : Session) (is : IsSession s) where
  abbrev law : ObeysLaw s.pass.arena s.pass.slots s.pass.seen
  law = laws.readers s.pass.arena s.pass.slots s.pass.seen is.has_seen.legal

  -- what is due rises
  due-rises : (high : ℕ) × Rises 0 (due s) high
  due-rises = (
    past 0 (given s.life),
    Rises-filter (is_due_number s) 0 (past 0 (given s.life)) (given s.life)
        (Rises-from_increasing (given s.life) (law.served s.life is.has_life.is_point).in_order),
  )

  pub offered-rises : (high : ℕ) × Rises 0 (offered s) high
  offered-rises =
      let first = offered-first s is in
      (due-rises.0, Rises-front 0 due-rises.0 (offered s) first.0 (subst (λ (ns : List ℕ). Rises 0 ns due-rises.0) (sym first.1) due-rises.1))

  offered-due : (m : ℕ) → IsAmong (offered s) m → IsAmong (due s) m
  offered-due m there =
      let first = offered-first s is in
      subst (λ (ns : List ℕ). IsAmong ns m) first.1 (among-left (offered s) first.0 m there)

  offered-given : (m : ℕ) → IsAmong (offered s) m → IsAmong (given s.life) m
  offered-given m there = (among-filter (is_due_number s) (given s.life) m (offered-due m there)).0

  -- what was given, is due, and is below one that was offered, was offered
  offered-below : (m r : ℕ) → IsAmong (offered s) m → r < m → IsAmong (given s.life) r → is_due_number s r ≡ true → IsAmong (offered s) r
  offered-below m r there less given_there is_due =
      let first = offered-first s is in
      let among = filter-among (is_due_number s) (given s.life) r given_there is_due in
      elim (among-append (offered s) first.0 r (subst (λ (ns : List ℕ). IsAmong ns r) (sym first.1) among)) [
        | inl here ↦ here
        | inr later ↦
            let rises = subst (λ (ns : List ℕ). Rises 0 ns due-rises.0) (sym first.1) due-rises.1 in
            let apart = Rises-apart 0 due-rises.0 m r (offered s) first.0 rises there later in
            absurd (omega (arith, apart, less))
      ]

  module _ (n : ℕ) (b : IsBehind s n) where
    abbrev signature : List ℕ
    signature = b.row.product.info.signature

    -- the call that opened the cursor
    opened-so : opening s.life ≡ opens s.life.owner s.passing.asked (behind_signature signature) (OpenedAt s.life.k)
    opened-so =
        let asked = s.passing.asked in
        let own_before = own s.life.owner s.life.before in
        let answered = subst (λ (a : Answered). own_before ++ opening s.life ∷ [] ≡ is.has_life.earlier ++ opening_entries s.life.owner asked a) b.found is.has_life.opened in
        let named = subst (λ (o : Option (List ℕ)). own_before ++ opening s.life ∷ [] ≡ is.has_life.earlier ++ opening_calls s.life.owner asked o false (OpenedAt s.life.k))
        b.named answered in
        same-last own_before is.has_life.earlier (opening s.life) (opens s.life.owner asked (behind_signature signature) (OpenedAt s.life.k)) named

    from : s.life.start ≡ behind_signature signature
    unfolding start_of
    from = ap (λ (e : Entry). start_of e.event) opened-so

    feed-is : s.life.feed ≡ feeds_of s.passing.asked.class
    unfolding feed_of
    feed-is = ap (λ (e : Entry). feed_of e.event) opened-so

    differ : SignaturesDiffer (state_before s.life)
    differ =
        let so_far = (IsLegalAt-point s.pass.arena s.pass.slots s.pass.seen is.has_seen.legal s.life is.has_life.is_point).so_far in
        laws.signatures s.life.arena s.life.slots s.life.before
        ((IsLegalFrom-append s.life.before (opening s.life ∷ s.life.since) (empty s.life.arena s.life.slots)).0 so_far).0

    pub offered-above : (m : ℕ) → IsAmong (offered s) m → n < m
    offered-above m there =
        given-above s.pass.arena s.pass.slots s.pass.seen is.has_seen.legal s.life is.has_life.is_point law n b.row differ b.is_row b.queued from m
        (offered-given m there)

    -- a queued product that is due is of the cursor's feedtypes
    queued-meets : (front behind : List Entry) → s.life.since ≡ front ++ behind → (r : ℕ) → is_present (at_entries s.life front) r ≡ true → is_due_number s r ≡ true
        → feeds_meet s.life.feed (feed_of_row (slice_get (state_at (at_entries s.life front)).rows r)) ≡ true
    queued-meets front behind are r here is_due = by_row (slice_get (state_at (at_entries s.life front)).rows r) refl here
      where
        by_row : (row : Option Row) → slice_get (state_at (at_entries s.life front)).rows r ≡ row → is_some (place_of_row row) ≡ true
            → feeds_meet s.life.feed (feed_of_row row) ≡ true
        by_row None is_row queued = absurd (false≢true queued)
        by_row (Some row) is_row queued =
            let later = row-later s.pass.arena s.pass.slots s.pass.seen is.has_seen.legal s.life is.has_life.is_point laws.stays front behind are r row is_row in
            let wanted = sym (ap (is_due_row s.passing.asked) later.1) ∙ is_due in
            ap (λ (feed : ℕ). feeds_meet feed row.product.info.feed) feed-is ∙ due-meets s.passing.asked row.time row.product.info wanted

    next-behind : (m : ℕ) → IsAmong (offered s) m → IsNextBehind s n m
    next-behind m there =
        let g = given-gives s.life m (offered-given m there) in
        record {
          front = g.front;
          call = g.call;
          behind = g.behind;
          since = g.are;
          is_call = g.is_call;
          time = g.time;
          info = g.info;
          gave = g.gave;
          passed = λ r later less is_due not_offered. elim (cases_Bool (is_present (at_entries s.life g.front) r)) [
            | inr gone ↦ gone
            | inl here ↦
                let meets = queued-meets g.front (g.call ∷ g.behind) g.are r here is_due in
                let given_there = given-passed s.pass.arena s.pass.slots s.pass.seen is.has_seen.legal s.life is.has_life.is_point law n b.row differ
                b.is_row b.queued from m g r later less here meets in
                absurd (not_offered (Contains-from_among (offered s) r (offered-below m r there less given_there is_due)))
          ];
        }

    pub all-above : All (λ (m : ℕ). n < m) (offered s)
    all-above = All-from_among (λ (m : ℕ). n < m) (offered s) offered-above

    pub all-next : All (IsNextBehind s n) (offered s)
    all-next = All-from_among (IsNextBehind s n) (offered s) next-behind

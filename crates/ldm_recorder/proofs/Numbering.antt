-- The numbers that a reader may still be given.
use Rattle.std.proofs.Common.{◌≡◌, ◌∙◌, inl, inr, ℕ, zero, suc, ◌+◌, ◌<◌, ◌≤◌, true, false, List, [], ◌∷◌, ◌++◌, length, get_or, refl, sym, ap, subst, arith, rules}
use Rattle.std.specs.Prelude.{◌&&◌, All, if◌then◌else◌, Bool, None, Some}
use Rattle.std.specs.List.{Contains, range_with_len}
use Rattle.std.specs.List.Sorted.{IsStrictlyIncreasing}
use Rattle.std.proofs.lemmas.List.{append_assoc, append-nil, length-append, get_or_append_left}
use Rattle.std.proofs.lemmas.List.Elements.{All-cons, All-contains, All-filter, All-nil, All-push, All-weaker}
use Rattle.std.proofs.lemmas.Bool.Decides.{leb_tells}
use Rattle.ldm_types.specs.Info.{Metadata}
use Rattle.ldm_types.specs.Cursors.{is_number}
use Rattle.ldm_model.specs.declared.event.Event.{Event}
use Rattle.ldm_model.specs.declared.event.Event.TheVariants as event
use Rattle.ldm_model.specs.declared.event.Reply.{Reply}
use Rattle.ldm_model.specs.declared.event.Reply.TheVariants as reply
use Rattle.ldm_model.specs.declared.event.Start.{Start}
use Rattle.ldm_model.specs.declared.event.Entry.{Entry}
use Rattle.ldm_model.specs.State.{end_of}
use Rattle.ldm_model.specs.Law.{IsAnsweredAt, IsServed, Point, due, given, is_close, is_due, place_of_event, state_at, with_given}
use Rattle.ldm_shared.specs.Own.{own}
use Rattle.ldm_shared.specs.Passes.{PassView, Calls, Grows, entry_of}
use Rattle.ldm_shared.specs.Reader.{HasCursor}
use Rattle.ldm_shared.specs.OwnReaders.{Agrees, AtEveryOwnCall, AtEveryOwnPoint, IsCalledAt, IsOwnPointOf, IsSeenAt, OwnPoint, is_about, numbers_given, opening_by, over_own}
use Rattle.ldm_recorder.specs.Numbers.{IsAhead}

-- the numbers that a cursor was given rise
abbrev pub NumbersRise : Type 0
NumbersRise = AtEveryOwnPoint (λ (pass : PassView) (q : OwnPoint). IsStrictlyIncreasing (numbers_given q))

-- one more entry
over_own-push : {A : Type 0} (k : ℕ) (change : A → Reply → A) (x : A) (entries : List Entry) (entry : Entry)
    → over_own k change x (entries ++ entry ∷ []) ≡ (if is_about k entry then change (over_own k change x entries) entry.reply else over_own k change x entries)
over_own-push {A} k change x [] entry = refl
over_own-push {A} k change x (one ∷ entries) entry = over_own-push k change (if is_about k one then change x one.reply else x) entries entry

unchanged : (b : Bool) (ns more : List ℕ) → more ≡ ns → (if b then more else ns) ≡ ns
unchanged true ns more same = same
unchanged false ns more same = refl

not_closing : (about closing : Bool) → closing ≡ false → (about && closing) ≡ false
not_closing true closing is = is
not_closing false closing is = refl

self_same : (n : ℕ) → is_number n (Some n) ≡ true
self_same n = search rules

-- a point with one entry more
abbrev pub further : OwnPoint → Entry → OwnPoint
further q entry = record { earlier = q.earlier; feed = q.feed; start = q.start; k = q.k; since = q.since ++ entry ∷ [] }

at_last : (xs : List ℕ) (x : ℕ) → get_or (xs ++ x ∷ []) (length xs) 0 ≡ x
at_last [] x = refl
at_last (y ∷ xs) x = at_last xs x

-- the last two of numbers that rise
last_rise : (ns : List ℕ) (n m : ℕ) → IsStrictlyIncreasing ((ns ++ n ∷ []) ++ m ∷ []) → n < m
last_rise ns n m rise =
    let count = length ns in
    let xs = ns ++ n ∷ [] in
    let long : length xs ≡ count + 1 = omega (arith, length-append ns (n ∷ [])) in
    let all : length (xs ++ m ∷ []) ≡ count + 2 = omega (arith, length-append xs (m ∷ []), long) in
    let first : get_or (xs ++ m ∷ []) count 0 ≡ n = get_or_append_left xs (m ∷ []) 0 count (omega (arith, long)) ∙ at_last ns n in
    let second : get_or (xs ++ m ∷ []) (count + 1) 0 ≡ m =
    ap (λ (i : ℕ). get_or (xs ++ m ∷ []) i 0) (sym long) ∙ at_last xs m in
    omega (arith, rise count (omega (arith, all)), first, second)

module _ (old new : PassView) (k least : ℕ) (asked : Event) (answer : Reply) (is : IsAhead old k least) (grows : Grows old new asked answer) where
  abbrev entry : Entry
  entry = entry_of old asked answer

  actor_same : new.actor ≡ old.actor
  actor_same = ap (λ (p : PassView). p.actor) grows.makes.same

  own_further : own new.actor new.seen ≡ is.point.earlier ++ opening_by new.actor (further is.point entry) ∷ (is.point.since ++ entry ∷ [])
  own_further =
      subst (λ (a : ℕ). own a new.seen ≡ is.point.earlier ++ opening_by a (further is.point entry) ∷ (is.point.since ++ entry ∷ [])) (sym actor_same)
      (grows.makes.adds.own ∙ ap (λ (es : List Entry). es ++ entry ∷ []) is.own_are
      ∙ append_assoc is.point.earlier (opening_by old.actor is.point ∷ is.point.since) (entry ∷ []))

  still_open : is_close asked ≡ false → All (λ (one : Entry). (is_about is.point.k one && is_close one.event) ≡ false) (is.point.since ++ entry ∷ [])
  still_open stays =
      All-push (λ (one : Entry). (is_about is.point.k one && is_close one.event) ≡ false) is.point.since entry is.not_closed (not_closing (is_about is.point.k entry) (is_close asked) stays)

  -- a call that gives no product
  pub ahead_still : is_close asked ≡ false → ((ns : List ℕ) → with_given ns answer ≡ ns) → IsAhead new k least
  ahead_still stays gives =
      let ns = numbers_given is.point in
      let same : numbers_given (further is.point entry) ≡ ns =
      over_own-push is.point.k with_given [] is.point.since entry ∙ unchanged (is_about is.point.k entry) ns (with_given ns answer) (gives ns) in
      record {
        point = further is.point entry;
        place = is.place;
        own_are = own_further;
        not_closed = still_open stays;
        ahead = λ n rise. is.ahead n (subst (λ (l : List ℕ). IsStrictlyIncreasing (l ++ n ∷ [])) same rise);
      }

  -- a product was given
  pub ahead_given : NumbersRise → (n time : ℕ) (info : Metadata) → asked ≡ event.Step k → answer ≡ reply.Product n time info → (least ≤ n) × IsAhead new k (n + 1)
  ahead_given law n time info step given =
      let q = further is.point entry in
      let ns = numbers_given is.point in
      let about : is_about is.point.k entry ≡ true =
      ap (λ (e : Event). is_number is.point.k (place_of_event e)) step ∙ ap (λ (j : ℕ). is_number j (Some k)) is.place ∙ self_same k in
      let same : numbers_given q ≡ ns ++ n ∷ [] =
      over_own-push is.point.k with_given [] is.point.since entry
      ∙ ap (λ (b : Bool). if b then with_given ns answer else ns) about
      ∙ ap (λ (r : Reply). with_given ns r) given in
      let stays : is_close asked ≡ false = ap (λ (e : Event). is_close e) step in
      let at : IsOwnPointOf new q = record {
        rest = [];
        front = own_further ∙ ap (λ (es : List Entry). is.point.earlier ++ opening_by new.actor q ∷ es) (sym (append-nil (is.point.since ++ entry ∷ [])));
        not_closed = still_open stays;
      } in
      let rise : IsStrictlyIncreasing (ns ++ n ∷ []) = subst (λ (l : List ℕ). IsStrictlyIncreasing l) same (law new grows.makes.has_seen q at) in (
        is.ahead n rise,
        record {
          point = q;
          place = is.place;
          own_are = own_further;
          not_closed = still_open stays;
          ahead = λ m more.
              (let less = last_rise ns n m (subst (λ (l : List ℕ). IsStrictlyIncreasing (l ++ m ∷ [])) same more) in omega (arith, less));
        },
      )

-- ---- where nothing was left

-- what a pass may conclude of its cursor
abbrev pub OwnLaws : Type 0
OwnLaws =
    NumbersRise × AtEveryOwnCall (λ (pass : PassView) (q : OwnPoint) (entry : Entry). (p : Point) × IsCalledAt pass q entry p × IsAnsweredAt p entry)
    × AtEveryOwnPoint (λ (pass : PassView) (q : OwnPoint). (p : Point) → IsSeenAt pass q p → Agrees q p)
    × AtEveryOwnPoint (λ (pass : PassView) (q : OwnPoint). (p : Point) → IsSeenAt pass q p → IsServed p)

-- numbers that rise, and one behind them all
rise_more : (ns : List ℕ) (m : ℕ) → IsStrictlyIncreasing ns → All (λ (n : ℕ). n < m) ns → IsStrictlyIncreasing (ns ++ m ∷ [])
rise_more ns m rise below k within =
    let long : length (ns ++ m ∷ []) ≡ length ns + 1 = omega (arith, length-append ns (m ∷ [])) in
    let first : get_or (ns ++ m ∷ []) k 0 ≡ get_or ns k 0 = get_or_append_left ns (m ∷ []) 0 k (omega (arith, within, long)) in
    elim (leb_tells (k + 2) (length ns)) [
      | inl inside ↦
          (let second : get_or (ns ++ m ∷ []) (k + 1) 0 ≡ get_or ns (k + 1) 0 = get_or_append_left ns (m ∷ []) 0 (k + 1) (omega (arith, inside.1)) in
          omega (arith, first, second, rise k (omega (arith, inside.1))))
      | inr last ↦
          (let is : k + 1 ≡ length ns = omega (arith, last.1, within, long) in
          let second : get_or (ns ++ m ∷ []) (k + 1) 0 ≡ m = ap (λ (i : ℕ). get_or (ns ++ m ∷ []) i 0) is ∙ at_last ns m in
          omega (arith, first, second, below k 0 (omega (arith, is))))
    ]

below_range : (a n : ℕ) → All (λ (m : ℕ). m < a + n) (range_with_len a n)
below_range a zero = All-nil (λ (m : ℕ). m < a + 0)
below_range a (suc n) =
    All-cons (λ (m : ℕ). m < a + suc n) a (range_with_len (a + 1) n) (omega arith)
    (All-weaker (λ (m : ℕ). m < (a + 1) + n) (λ (m : ℕ). m < a + suc n) (λ m less. omega arith) (range_with_len (a + 1) n) (below_range (a + 1) n))

-- what a reader was given was admitted
given_below : (p : Point) → IsServed p → All (λ (n : ℕ). n < end_of (state_at p)) (given p)
given_below p served =
    let end = end_of (state_at p) in
    All-weaker (Contains (due p)) (λ (n : ℕ). n < end)
    (λ n there.
    (let within = All-contains (λ (m : ℕ). m < 0 + end) (due p) n (All-filter (is_due p) (λ (m : ℕ). m < 0 + end) (range_with_len 0 end) (below_range 0 end)) there in
    omega (arith, within)))
    (given p) served.only_due

-- the numbers that it may still be given are not below what the queue had admitted then
pub ahead_at_end : (laws : OwnLaws) (old new : PassView) (k least at : ℕ) → IsAhead old k least → Grows old new (event.Step k) (reply.End at) → least ≤ at
ahead_at_end laws old new k least at is grows =
    let q = is.point in
    let entry = entry_of old (event.Step k) (reply.End at) in
    let actor_same : new.actor ≡ old.actor = ap (λ (p : PassView). p.actor) grows.makes.same in
    let about : is_about q.k entry ≡ true = ap (λ (j : ℕ). is_number j (Some k)) is.place ∙ self_same k in
    let front : own new.actor new.seen ≡ q.earlier ++ opening_by new.actor q ∷ (q.since ++ entry ∷ []) =
    subst (λ (a : ℕ). own a new.seen ≡ q.earlier ++ opening_by a q ∷ (q.since ++ entry ∷ [])) (sym actor_same)
    (grows.makes.adds.own ∙ ap (λ (es : List Entry). es ++ entry ∷ []) is.own_are ∙ append_assoc q.earlier (opening_by old.actor q ∷ q.since) (entry ∷ [])) in
    let own_at : IsOwnPointOf new q = record { rest = entry ∷ []; front = front; not_closed = is.not_closed } in
    let called = laws.1 new grows.makes.has_seen q own_at entry [] refl about in
    let p = called.0 in
    let same : given p ≡ numbers_given q = (laws.2 new grows.makes.has_seen q own_at p called.1.at).given in
    let served = laws.3 new grows.makes.has_seen q own_at p called.1.at in
    let end : at ≡ end_of (state_at p) = (called.2.end_has_all at refl).at_end in
    let below : All (λ (n : ℕ). n < at) (numbers_given q) =
    subst (λ (m : ℕ). All (λ (n : ℕ). n < m) (numbers_given q)) (sym end)
    (subst (λ (ns : List ℕ). All (λ (n : ℕ). n < end_of (state_at p)) ns) same (given_below p served)) in
    is.ahead at (rise_more (numbers_given q) at (laws.0 new grows.makes.has_seen q own_at) below)

-- two calls that give no product
pub ahead_over : (old new : PassView) (k least : ℕ) (one two : Entry) → IsAhead old k least → Calls old new (one ∷ two ∷ []) → is_close one.event ≡ false → is_close two.event ≡ false
    → ((ns : List ℕ) → with_given ns one.reply ≡ ns) → ((ns : List ℕ) → with_given ns two.reply ≡ ns) → IsAhead new k least
ahead_over old new k least one two is calls first second gives_first gives_second =
    let q = is.point in
    let mid = further q one in
    let place = q.k in
    let ns = numbers_given q in
    let actor_same : new.actor ≡ old.actor = ap (λ (p : PassView). p.actor) calls.same in
    let since : q.since ++ one ∷ two ∷ [] ≡ mid.since ++ two ∷ [] = sym (append_assoc q.since (one ∷ []) (two ∷ [])) in
    let begun : own old.actor new.seen ≡ q.earlier ++ opening_by old.actor q ∷ (mid.since ++ two ∷ []) =
    calls.adds.own ∙ ap (λ (es : List Entry). es ++ one ∷ two ∷ []) is.own_are
    ∙ append_assoc q.earlier (opening_by old.actor q ∷ q.since) (one ∷ two ∷ [])
    ∙ ap (λ (es : List Entry). q.earlier ++ opening_by old.actor q ∷ es) since in
    let Still : Entry → Type 0 = λ entry. (is_about place entry && is_close entry.event) ≡ false in
    let same : numbers_given (further mid two) ≡ ns =
    over_own-push place with_given [] mid.since two
    ∙ unchanged (is_about place two) (numbers_given mid) (with_given (numbers_given mid) two.reply) (gives_second (numbers_given mid))
    ∙ over_own-push place with_given [] q.since one ∙ unchanged (is_about place one) ns (with_given ns one.reply) (gives_first ns) in
    record {
      point = further mid two;
      place = is.place;
      own_are =
          subst (λ (a : ℕ). own a new.seen ≡ q.earlier ++ opening_by a (further mid two) ∷ (mid.since ++ two ∷ [])) (sym actor_same) begun;
      not_closed =
          All-push Still mid.since two (All-push Still q.since one is.not_closed (not_closing (is_about place one) (is_close one.event) first))
          (not_closing (is_about place two) (is_close two.event) second);
      ahead = λ n rise. is.ahead n (subst (λ (l : List ℕ). IsStrictlyIncreasing (l ++ n ∷ [])) same rise);
    }

-- a cursor that was just opened
pub ahead_opened : (old new : PassView) (k feed : ℕ) (start : Start) → Grows old new (event.OpenCursor (record { 0 = feed }) start) (reply.Opened k) → IsAhead new k 0
ahead_opened old new k feed start grows =
    let q : OwnPoint = record { earlier = own old.actor old.seen; feed = feed; start = start; k = k; since = [] } in
    let actor_same : new.actor ≡ old.actor = ap (λ (p : PassView). p.actor) grows.makes.same in
    record {
      point = q;
      place = refl;
      own_are = subst (λ (a : ℕ). own a new.seen ≡ own old.actor old.seen ++ opening_by a q ∷ []) (sym actor_same) grows.makes.adds.own;
      not_closed = All-nil (λ (entry : Entry). (is_about k entry && is_close entry.event) ≡ false);
      ahead = λ n rise. omega arith;
    }

-- ---- a pass that has seen more, with no call of its own

pub ahead_kept : (old new : PassView) (k least : ℕ) → Calls old new [] → IsAhead old k least → IsAhead new k least
ahead_kept old new k least calls is =
    let q = is.point in
    let actor_same : new.actor ≡ old.actor = ap (λ (p : PassView). p.actor) calls.same in
    record {
      point = q;
      place = is.place;
      own_are =
          subst (λ (a : ℕ). own a new.seen ≡ q.earlier ++ opening_by a q ∷ q.since) (sym actor_same)
          (calls.adds.own ∙ append-nil (own old.actor old.seen) ∙ is.own_are);
      not_closed = is.not_closed;
      ahead = is.ahead;
    }

pub cursor_kept : (old new : PassView) (k : ℕ) → HasCursor old k None → Calls old new [] → HasCursor new k None
cursor_kept old new k has calls = elim calls.has_seen [
  | inl same ↦ subst (λ (p : PassView). HasCursor p k None) (sym same) has
  | inr seen ↦
      (let actor_same : new.actor ≡ old.actor = ap (λ (p : PassView). p.actor) calls.same in
      record {
        has_seen = seen;
        earlier = has.earlier;
        feed = has.feed;
        start = has.start;
        since = has.since;
        own_are =
            subst
            (λ (a : ℕ). own a new.seen ≡ has.earlier
            ++ opening_by a (record { earlier = has.earlier; feed = has.feed; start = has.start; k = k; since = has.since }) ∷ has.since)
            (sym actor_same) (calls.adds.own ∙ append-nil (own old.actor old.seen) ∙ has.own_are);
        not_closed = has.not_closed;
        holds = has.holds;
      })
]

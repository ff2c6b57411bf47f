-- What the queue does at the calls on reservations, by what the book keeps.
use Rattle.std.proofs.Common.{◌≡◌, ℕ, zero, suc, ◌+◌, ◌-◌, ◌<◌, ◌≤◌, Bool, true, false, cond, ltb, List, [], ◌∷◌, ◌++◌, length, map}
use Rattle.std.proofs.Common.{set, Option, Some, None, refl, sym, ap, subst, ◌∙◌, inl, inr, get_or-set_other, arith}
use Rattle.std.specs.Prelude.{◌==◌, slice_index_or}
use Rattle.std.specs.List.{between}
use Rattle.std.specs.Option.{option_map}
use Rattle.std.proofs.lemmas.Bool.{cases_eq, lt-ltb, le-ltb}
use Rattle.std.proofs.lemmas.Option.{none-some}
use Rattle.std.proofs.lemmas.List.{map-set}
use Rattle.ldm_types.specs.Info.{metadata_len}
use Rattle.ldm_model.specs.declared.event.Reply.{Reply}
use Rattle.ldm_model.specs.declared.event.Reply.TheVariants as reply
use Rattle.ldm_model.specs.State.{State, Queued, Reservation, end_of, last_time, queued, queued_with}
use Rattle.ldm_model.specs.Outcome.{Outcome, unchanged}
use Rattle.ldm_model.specs.Insert.{admit, is_last, time_after}
use Rattle.ldm_model.specs.Reservation as model
use Rattle.ldm_model.specs.Fill.{discard}
use Rattle.ldm_model.specs.Commit.{commit, commit_new, commit_open, commit_whole}
use Rattle.ldm_book.specs.View.{BookView, Kept, KeptReservation, Reservations, kept, kept_of, kept_reservation}
use Rattle.ldm_book.specs.Products.{committed, if_reserved_by, reservation_at}
use Rattle.ldm_book.specs.Making.{reserving, with_committed}
use Rattle.ldm_book.specs.Stored.{AreStored, IsStored}
use Rattle.ldm_book.specs.Stands.{StandsFor}
use Rattle.ldm_book.specs.Lookup.{kept_with, look_kept}
use Rattle.ldm_book.specs.Answers.{Follows, KeepsReserved}
use Rattle.ldm_book.proofs.EveryLemmas.{every_push}
use Rattle.ldm_book.proofs.InsertLemmas.{grown_rows}
use Rattle.ldm_book.proofs.QueuedLemmas.{look-from_kept, none_from_absent, some_from_queued}
use Rattle.ldm_book.proofs.StoredLemmas.{filled_ended, filled_one_at}

-- the reservation places of a state and those of a book
kept_places : List (Option Reservation) → Reservations
kept_places places = map (option_map kept_reservation) places

at-kept : (places : List (Option Reservation)) (r : ℕ) → reservation_at (map (option_map kept_reservation) places) r ≡ option_map kept_reservation (slice_index_or places r None)
at-kept [] r = refl
at-kept (place ∷ places) zero = refl
at-kept (place ∷ places) (suc r) = at-kept places r

owner-kept : (actor : ℕ) (o : Option Reservation) → if_reserved_by actor (option_map kept_reservation o) ≡ option_map kept_reservation (model.if_reserved_by actor o)
owner-kept actor None = refl
owner-kept actor (Some v) = by_test (v.actor == actor)
  where
    by_test : (b : Bool) → cond b (Some (kept_reservation v)) None ≡ option_map kept_reservation (cond b (Some v) None)
    by_test true = refl
    by_test false = refl

-- the actor's reservation at a place
pub own-stands : (book : BookView) (s : State) (actor r : ℕ) → StandsFor book s
    → if_reserved_by actor (reservation_at book.reservations r) ≡ option_map kept_reservation (model.reservation_of s actor r)
own-stands book s actor r stands =
    ap (λ (rs : Reservations). if_reserved_by actor (reservation_at rs r)) stands.reservations ∙ ap (if_reserved_by actor) (at-kept s.reservations r)
    ∙ owner-kept actor (slice_index_or s.reservations r None)

-- a reservation that the state has for the actor, and what is kept of it
pub record IsOwn (s : State) (actor r : ℕ) (v : KeptReservation) : Type 0 where
  pub reservation : Reservation
  pub own : model.reservation_of s actor r ≡ Some reservation
  pub at : slice_index_or s.reservations r None ≡ Some reservation
  pub kept : kept_reservation reservation ≡ v

if-owned : (actor : ℕ) (o : Option Reservation) (v : Reservation) → model.if_reserved_by actor o ≡ Some v → o ≡ Some v
if-owned actor None v e = absurd cc
if-owned actor (Some x) v e = by_test (x.actor == actor) e
  where
    by_test : (b : Bool) → cond b (Some x) None ≡ Some v → Some x ≡ Some v
    by_test true e = e
    by_test false e = absurd cc

some-kept : (o : Option Reservation) (v : KeptReservation) → option_map kept_reservation o ≡ Some v → (x : Reservation) × (o ≡ Some x) × (kept_reservation x ≡ v)
some-kept None v e = absurd cc
some-kept (Some x) v e = (x, refl, cc)

none-kept : (o : Option Reservation) → option_map kept_reservation o ≡ None → o ≡ None
none-kept None e = refl
none-kept (Some x) e = absurd cc

pub is_own : (book : BookView) (s : State) (actor r : ℕ) (v : KeptReservation) → StandsFor book s → Some v ≡ if_reserved_by actor (reservation_at book.reservations r) → IsOwn s actor r v
is_own book s actor r v stands own =
    let found = some-kept (model.reservation_of s actor r) v (sym (own ∙ own-stands book s actor r stands)) in
    record { reservation = found.0; own = found.1; at = if-owned actor (slice_index_or s.reservations r None) found.0 found.1; kept = found.2 }

-- what is the actor's is at the place
pub at_own : (actor : ℕ) (o : Option KeptReservation) (v : KeptReservation) → Some v ≡ if_reserved_by actor o → o ≡ Some v
at_own actor None v e = absurd cc
at_own actor (Some x) v e = by_test (x.actor == actor) e
  where
    by_test : (b : Bool) → Some v ≡ cond b (Some x) None → Some x ≡ Some v
    by_test true e = sym e
    by_test false e = absurd cc

pub no_reservation : (book : BookView) (s : State) (o : Option Reservation) (act : Reservation → Outcome) → o ≡ None → StandsFor book s
    → Follows reply.NoReservation book (model.on_reservation s o act)
no_reservation book s o act none stands = subst (λ (p : Option Reservation). Follows reply.NoReservation book (model.on_reservation s p act)) (sym none) (record { reply = refl; state = stands })

pub known : (r : Reply) (book : BookView) (s : State) (o : Option Reservation) (act : Reservation → Outcome) (v : Reservation) → o ≡ Some v → Follows r book (act v)
    → Follows r book (model.on_reservation s o act)
known r book s o act v some follows = subst (λ (p : Option Reservation). Follows r book (model.on_reservation s p act)) (sym some) follows

-- what is left of its body
pub left-of : (s : State) (actor r : ℕ) (v : KeptReservation) (is : IsOwn s actor r v) → model.left_of is.reservation ≡ v.product.size - v.filled
left-of s actor r v is = ap (λ (x : KeptReservation). x.product.size - x.filled) is.kept

-- a reservation ends
pub StandsFor-ended : (book : BookView) (s : State) (r : ℕ) → StandsFor book s → StandsFor (reserving book r None) (model.with_reservation s r None)
StandsFor-ended book s r stands = record {
  arena = stands.arena;
  sized = stands.sized;
  slots = stands.slots;
  admitted = stands.admitted;
  last = stands.last;
  rows = stands.rows;
  stored = stands.stored;
  cursors = stands.cursors;
  reservations = ap (λ (rs : Reservations). set rs r None) stands.reservations ∙ sym (map-set (option_map kept_reservation) s.reservations r None);
  filled = filled_ended book.bytes s.reservations r stands.filled;
}

module _ (book : BookView) (s : State) (stands : StandsFor book s) (actor r : ℕ) where
  pub no_own : None ≡ if_reserved_by actor (reservation_at book.reservations r) → model.reservation_of s actor r ≡ None
  no_own none = none-kept (model.reservation_of s actor r) (sym (own-stands book s actor r stands) ∙ sym none)

  -- giving one up
  pub discard-none : None ≡ if_reserved_by actor (reservation_at book.reservations r) → Follows reply.NoReservation book (discard s actor r)
  unfolding discard
  discard-none none = no_reservation book s (model.reservation_of s actor r) (λ reservation. record { reply = reply.Discarded; state = model.with_reservation s r None }) (no_own none) stands

  pub discard-some : (v : KeptReservation) → Some v ≡ if_reserved_by actor (reservation_at book.reservations r) → Follows reply.Discarded (reserving book r None) (discard s actor r)
  unfolding discard
  discard-some v own =
      let is = is_own book s actor r v stands own in
      known reply.Discarded (reserving book r None) s (model.reservation_of s actor r)
      (λ reservation. record { reply = reply.Discarded; state = model.with_reservation s r None }) is.reservation is.own
      (record { reply = refl; state = StandsFor-ended book s r stands })

  -- committing one
  module _ (now : ℕ) where
    pub commit-none : None ≡ if_reserved_by actor (reservation_at book.reservations r) → Follows reply.NoReservation book (commit s actor r now)
    unfolding commit
    commit-none none = no_reservation book s (model.reservation_of s actor r) (commit_open s r now) (no_own none) stands

    open_own : (answer : Reply) (new : BookView) (is : (v : KeptReservation) × (IsOwn s actor r v)) → Follows answer new (commit_open s r now is.1.reservation)
        → Follows answer new (commit s actor r now)
    unfolding commit
    open_own answer new is follows = known answer new s (model.reservation_of s actor r) (commit_open s r now) is.1.reservation is.1.own follows

    pub commit-unfilled : (v : KeptReservation) → Some v ≡ if_reserved_by actor (reservation_at book.reservations r) → 0 < v.product.size - v.filled
        → Follows (reply.Unfilled (v.product.size - v.filled)) book (commit s actor r now)
    commit-unfilled v own some =
        let is = is_own book s actor r v stands own in
        let left = left-of s actor r v is in
        let x = is.reservation in
        let test : ltb 0 (model.left_of x) ≡ true = lt-ltb 0 (model.left_of x) (omega (arith, left)) in
        open_own (reply.Unfilled (v.product.size - v.filled)) book (v, is)
        (subst (λ (o : Outcome). Follows (reply.Unfilled (v.product.size - v.filled)) book o)
        (sym (ap (λ (b : Bool). cond b (unchanged s (reply.Unfilled (model.left_of x))) (commit_whole (model.with_reservation s r None) now x (queued_with x.info.signature (queued s)))) test))
        (record { reply = ap reply.Unfilled (sym left); state = stands }))

    -- of one that is whole
    module _ (v : KeptReservation) (own : Some v ≡ if_reserved_by actor (reservation_at book.reservations r)) (whole : v.product.size - v.filled ≡ 0) where
      is : IsOwn s actor r v
      is = is_own book s actor r v stands own

      abbrev x : Reservation
      x = is.reservation

      signature : x.info.signature ≡ v.product.signature
      signature = ap (λ (k : KeptReservation). k.product.signature) is.kept

      whole_open : (answer : Reply) (new : BookView) (o : Option Queued) → queued_with x.info.signature (queued s) ≡ o → Follows answer new (commit_whole (model.with_reservation s r None) now x o)
          → Follows answer new (commit s actor r now)
      whole_open answer new o found follows =
          let left = left-of s actor r v is in
          let test : ltb 0 (model.left_of x) ≡ false = le-ltb 0 (model.left_of x) (omega (arith, left, whole)) in
          open_own answer new (v, is)
          (subst (λ (o : Outcome). Follows answer new o)
          (sym (ap (λ (b : Bool). cond b (unchanged s (reply.Unfilled (model.left_of x))) (commit_whole (model.with_reservation s r None) now x (queued_with x.info.signature (queued s)))) test
          ∙ ap (commit_whole (model.with_reservation s r None) now x) found))
          follows)

      look-stands : look_kept (kept_with v.product.signature book.rows) ≡ look_kept (kept_with x.info.signature (map kept (queued s)))
      look-stands = (λ i. look_kept (kept_with (sym signature i) (stands.rows i)))

      pub commit-duplicate : (n t : ℕ) → look_kept (kept_with v.product.signature book.rows) ≡ reply.Queued n t → Follows (reply.Duplicate n) (reserving book r None) (commit s actor r now)
      commit-duplicate n t found =
          let q = some_from_queued (queued_with x.info.signature (queued s)) n t (look-from_kept x.info.signature (queued s) ∙ sym look-stands ∙ found) in
          whole_open (reply.Duplicate n) (reserving book r None) (Some q.0) q.1
          (record { reply = ap reply.Duplicate (sym q.2); state = StandsFor-ended book s r stands })

      new_open : (answer : Reply) (new : BookView) → look_kept (kept_with v.product.signature book.rows) ≡ reply.Absent → Follows answer new (commit_new (model.with_reservation s r None) now x)
          → Follows answer new (commit s actor r now)
      new_open answer new absent follows =
          whole_open answer new None (none_from_absent (queued_with x.info.signature (queued s)) (look-from_kept x.info.signature (queued s) ∙ sym look-stands ∙ absent)) follows

      abbrev ended : State
      ended = model.with_reservation s r None

      abbrev admitted_then : Outcome
      admitted_then = record { reply = reply.Committed (end_of ended) (time_after (last_time ended) now); state = admit ended now (model.product_of x) (Some x.place) }

      pub commit-time_end : look_kept (kept_with v.product.signature book.rows) ≡ reply.Absent → is_last book.last ≡ true → Follows reply.TimeEnd (reserving book r None) (commit s actor r now)
      commit-time_end absent last =
          let test : is_last (last_time s) ≡ true = ap is_last (sym stands.last) ∙ last in
          new_open reply.TimeEnd (reserving book r None) absent
          (subst (λ (o : Outcome). Follows reply.TimeEnd (reserving book r None) o) (sym (ap (λ (b : Bool). cond b (unchanged ended reply.TimeEnd) admitted_then) test))
          (record { reply = refl; state = StandsFor-ended book s r stands }))

      -- its bytes are those of the product
      stored-whole : v.filled ≤ v.product.size → IsStored book.bytes (record { number = 0 + length s.rows; product = model.product_of x; time = time_after (last_time s) now; place = x.place })
      stored-whole part =
          let filled = filled_one_at book.bytes s.reservations r x is.at stands.filled in
          let size : x.info.size ≡ length x.filled = omega (arith, whole, part, ap (λ (k : KeptReservation). k.product.size) is.kept, ap (λ (k : KeptReservation). k.filled) is.kept) in
          record { fits = filled.fits; stands = ap (λ (n : ℕ). between x.place (x.place + metadata_len x.info + n) book.bytes) size ∙ filled.stands }

      pub commit-committed : look_kept (kept_with v.product.signature book.rows) ≡ reply.Absent → is_last book.last ≡ false → v.filled ≤ v.product.size
          → Follows (reply.Committed book.admitted (time_after book.last now)) (with_committed book r (time_after book.last now) v) (commit s actor r now)
      commit-committed absent last part =
          let test : is_last (last_time s) ≡ false = ap is_last (sym stands.last) ∙ last in
          let time = time_after book.last now in
          let new = with_committed book r time v in
          let gone = StandsFor-ended book s r stands in
          let rows = grown_rows (reserving book r None) ended gone now (model.product_of x) (Some x.place) x.place refl in
          let one : committed book.admitted time v ≡ kept_of book.admitted time x.place x.info = ap (committed book.admitted time) (sym is.kept) in
          let same : time ≡ time_after (last_time s) now = ap (λ (o : Option ℕ). time_after o now) stands.last in
          let q : Queued = record { number = 0 + length s.rows; product = model.product_of x; time = time_after (last_time s) now; place = x.place } in
          new_open (reply.Committed book.admitted time) new absent
          (subst (λ (o : Outcome). Follows (reply.Committed book.admitted time) new o) (sym (ap (λ (b : Bool). cond b (unchanged ended reply.TimeEnd) admitted_then) test))
          (record {
            reply = λ i. reply.Committed (stands.admitted i) (same i);
            state = record {
              arena = gone.arena;
              sized = gone.sized;
              slots = gone.slots;
              admitted = rows.admitted;
              last = rows.last;
              rows = ap (λ (k : Kept). book.rows ++ k ∷ []) one ∙ rows.rows;
              stored = subst (AreStored book.bytes) (sym rows.queued) (every_push (IsStored book.bytes) (queued s) q stands.stored (stored-whole part));
              cursors = gone.cursors;
              reservations = gone.reservations;
              filled = gone.filled;
            };
          }))

-- where a reservation ends, the others stay
pub keeps-ended : (book : BookView) (r : ℕ) → KeepsReserved book (reserving book r None)
keeps-ended book r k before after was now = elim (cases_eq k r) [
  | inl same ↦ absurd (none-some after (sym (ended book.reservations r) ∙ ap (reservation_at (set book.reservations r None)) (sym same) ∙ now))
  | inr other ↦
      let still : reservation_at book.reservations k ≡ Some after = sym (get_or-set_other book.reservations r k None None other) ∙ now in
      let both : Some after ≡ Some before = sym still ∙ was in
      let one : after ≡ before = cc in
      let count : before.filled ≤ after.filled = omega (arith, ap (λ (x : KeptReservation). x.filled) one) in
      record { actor = ap (λ (x : KeptReservation). x.actor) one; product = ap (λ (x : KeptReservation). x.product) one; filled = count; bytes = refl }
]
  where
    ended : (rs : Reservations) (r : ℕ) → reservation_at (set rs r None) r ≡ None
    ended [] r = refl
    ended (o ∷ rs) zero = refl
    ended (o ∷ rs) (suc r) = ended rs r

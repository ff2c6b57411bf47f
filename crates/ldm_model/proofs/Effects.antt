-- What a call does to a reservation place: it leaves it, makes a reservation there, fills bytes in, or ends the reservation.
use Rattle.std.proofs.Common.{◌≡◌, ◌∙◌, ℕ, ◌≤◌, Bool, true, false, cond, List, [], ◌∷◌, length, take, Option, Some, None, refl, sym, ap, inl, inr, arith, get_or-set_same, get_or-set_other}
use Rattle.std.specs.Prelude.{◌==◌, is_some, slice_get, slice_index_or}
use Rattle.std.specs.Option.{option_map}
use Rattle.std.proofs.lemmas.Bool.{false≢true, and_right, cases_eq, cond_both, eq-eqb, ne_eqb}
use Rattle.ldm_types.specs.Info.{Metadata}
use Rattle.ldm_model.specs.declared.event.Event.{Event}
use Rattle.ldm_model.specs.declared.event.Event.TheVariants as event
use Rattle.ldm_model.specs.declared.event.Reply.TheVariants as reply
use Rattle.ldm_model.specs.declared.event.Entry.{Entry}
use Rattle.ldm_model.specs.Product.{Product, extent_of}
use Rattle.ldm_model.specs.State.{State, Row, Reservation}
use Rattle.ldm_model.specs.Outcome.{Outcome}
use Rattle.ldm_model.specs.Room.{fit_in}
use Rattle.ldm_model.specs.Evict.{unheld, evict, evict_row, evict_all}
use Rattle.ldm_model.specs.Insert.{insert, evictions, after_evicting}
use Rattle.ldm_model.specs.Cursor.{least_empty}
use Rattle.ldm_model.specs.Reservation.{reservation_at, reservation_of, with_reservation, new_reservation, with_bytes, left_of}
use Rattle.ldm_model.specs.Reserve.{reserve, with_reserved}
use Rattle.ldm_model.specs.Fill.{fill, discard}
use Rattle.ldm_model.specs.Commit.{commit}
use Rattle.ldm_model.specs.Expire.{expire}
use Rattle.ldm_model.specs.Next.{next}
use Rattle.ldm_model.specs.Filled.{bytes_of_fill, bytes_of_entry, ends_place, ends}
use Rattle.ldm_model.proofs.Cases.{by_quiet, by_insert, by_expire}
use Rattle.ldm_model.proofs.ReservationCases.{by_reserve, by_fill, by_discard, by_commit, reservation-owned}
use Rattle.ldm_model.proofs.Places.{place-within, least-empty}
use Rattle.ldm_model.proofs.TiedOthers.{fit-found}

-- a call of an actor, with its reply
abbrev pub entry_of : ℕ → Event → Outcome → Entry
entry_of actor e o = record { actor = actor; event = e; reply = o.reply }

-- an entry that does nothing to an actor's reservation
abbrev pub HasNothing : ℕ → ℕ → Entry → Type 0
HasNothing owner r entry = (ends owner r entry ≡ false) × (bytes_of_entry owner r entry ≡ [])

module _ (s : State) (actor : ℕ) (e : Event) (r : ℕ) (o : Outcome) where
  pub record IsKept : Type 0 where
    pub same : reservation_at o.state r ≡ reservation_at s r
    pub nothing : (q : Reservation) → reservation_at s r ≡ Some q → HasNothing q.actor r (entry_of actor e o)

  pub record IsMade : Type 0 where
    pub info : Metadata
    pub evicted : ℕ
    pub place : ℕ
    pub is_event : e ≡ event.Reserve info
    pub is_reply : o.reply ≡ reply.Reserved r evicted
    pub was : reservation_at s r ≡ None
    pub at : reservation_at o.state r ≡ Some (new_reservation actor info place)

  pub record IsFilled : Type 0 where
    pub reservation : Reservation
    pub bytes : List ℕ
    pub was : reservation_at s r ≡ Some reservation
    pub own : reservation.actor ≡ actor
    pub is_event : e ≡ event.Fill r bytes
    pub is_reply : o.reply ≡ reply.Filled (left_of (with_bytes bytes reservation))
    pub fits : length bytes ≤ left_of reservation
    pub at : reservation_at o.state r ≡ Some (with_bytes bytes reservation)

  pub record IsEnded : Type 0 where
    pub reservation : Reservation
    pub was : reservation_at s r ≡ Some reservation
    pub own : reservation.actor ≡ actor
    pub ending : ends_place r e o.reply ≡ true
    pub at : reservation_at o.state r ≡ None

  pub data Effect : Type 0 where
    kept : IsKept → Effect
    made : IsMade → Effect
    filled : IsFilled → Effect
    ended : IsEnded → Effect

nothing-from : (owner r : ℕ) (entry : Entry) → ends_place r entry.event entry.reply ≡ false → bytes_of_fill r entry.event entry.reply ≡ [] → HasNothing owner r entry
nothing-from owner r entry no_end no_bytes = (
  and_right (entry.actor == owner) (ends_place r entry.event entry.reply) no_end,
  cond_both (entry.actor == owner) (bytes_of_fill r entry.event entry.reply) [] (λ (bytes : List ℕ). bytes ≡ []) (λ e. no_bytes) (λ e. refl),
)

reservations-evict_all : (ms : List ℕ) (s : State) → (evict_all s ms).reservations ≡ s.reservations
reservations-evict_all [] s = refl
reservations-evict_all (m ∷ ms) s = reservations-evict_all ms (evict s m) ∙ by_row (slice_get s.rows m)
  where
    by_row : (row : Option Row) → (evict_row s m row).reservations ≡ s.reservations
    by_row None = refl
    by_row (Some row) = refl

-- the reservation that reserving makes
pub reserved-at : (s : State) (actor : ℕ) (info : Metadata) (r j : ℕ) → least_empty s.reservations ≡ Some r → evictions s (extent_of info) ≡ Some j
    → (place : ℕ) × (reservation_at (with_reserved (after_evicting s j) actor info r) r ≡ Some (new_reservation actor info place))
reserved-at s actor info r j empty room = by_fit (fit_in (after_evicting s j) (extent_of info)) (fit-found s (extent_of info) j room)
  where
    same : (after_evicting s j).reservations ≡ s.reservations
    same = reservations-evict_all (take j (unheld s)) s

    by_fit : (place : Option ℕ) → is_some place ≡ true
        → (p : ℕ) × (reservation_at (with_reservation (after_evicting s j) r (option_map (new_reservation actor info) place)) r ≡ Some (new_reservation actor info p))
    by_fit None h = absurd (false≢true h)
    by_fit (Some place) h = (
      place,
      get_or-set_same (after_evicting s j).reservations r (Some (new_reservation actor info place)) None
          (omega (arith, (least-empty s.reservations r empty).0, ap (λ (places : List (Option Reservation)). length places) same)),
    )

module _ (s : State) (actor r : ℕ) where
  abbrev Affects : Event → Outcome → Type 0
  Affects e o = Effect s actor e r o

  -- a call that leaves the place, and is about no reservation
  leaves : (e : Event) (o : Outcome) → reservation_at o.state r ≡ reservation_at s r → ends_place r e o.reply ≡ false → bytes_of_fill r e o.reply ≡ [] → Affects e o
  leaves e o same no_end no_bytes = kept (record { same = same; nothing = λ q at. nothing-from q.actor r (entry_of actor e o) no_end no_bytes })

  leaves-evicted : (j : ℕ) → reservation_at (after_evicting s j) r ≡ reservation_at s r
  leaves-evicted j = ap (λ (places : List (Option Reservation)). slice_index_or places r None) (reservations-evict_all (take j (unheld s)) s)

  at_insert : (now : ℕ) (p : Product) → Affects (event.Insert now p.info p.body) (insert s now p)
  at_insert now p = by_insert s (Affects (event.Insert now p.info p.body)) now p (λ answer none. leaves _ _ refl refl refl) (λ j e. leaves _ _ (leaves-evicted j) refl refl)

  at_expire : Affects event.Expire (expire s)
  at_expire = by_expire s (Affects event.Expire) (leaves _ _ refl refl refl) (λ n ns e. leaves _ _ (ap (λ (places : List (Option Reservation)). slice_index_or places r None)
      (reservations-evict_all (n ∷ []) s)) refl refl)

  at_reserve : (info : Metadata) → Affects (event.Reserve info) (reserve s actor info)
  at_reserve info = by_reserve s (Affects (event.Reserve info)) actor info (record {
    too_big = leaves _ _ refl refl refl;
    duplicate = λ n. leaves _ _ refl refl refl;
    all_reserved = leaves _ _ refl refl refl;
    locked = λ held. leaves _ _ refl refl refl;
    reserved = by_place;
  })
    where
      by_place : (q j : ℕ) → least_empty s.reservations ≡ Some q → evictions s (extent_of info) ≡ Some j
          → Affects (event.Reserve info) (record { reply = reply.Reserved q j; state = with_reserved (after_evicting s j) actor info q })
      by_place q j empty room = elim (cases_eq r q) [
        | inl same ↦
            let there = reserved-at s actor info q j empty room in
            made (record {
              info = info;
              evicted = j;
              place = there.0;
              is_event = refl;
              is_reply = ap (λ (i : ℕ). reply.Reserved i j) (sym same);
              was = ap (λ (i : ℕ). slice_index_or s.reservations i None) same ∙ (least-empty s.reservations q empty).1;
              at = ap (λ (i : ℕ). reservation_at (with_reserved (after_evicting s j) actor info q) i) same ∙ there.1;
            })
        | inr other ↦ leaves _ _ (get_or-set_other (after_evicting s j).reservations q r _ None other ∙ leaves-evicted j) refl refl
      ]

  module _ (q : ℕ) where
    -- another place changes
    leaves-other : (place : Option Reservation) → (r ≡ q → ⊥) → reservation_at (with_reservation s q place) r ≡ reservation_at s r
    leaves-other place other = get_or-set_other s.reservations q r place None other

    not-this : (r ≡ q → ⊥) → (q == r) ≡ false
    not-this other = ne_eqb q r (λ e. other (sym e))

    at-this : (place : Option Reservation) (reservation : Reservation) → r ≡ q → reservation_at s q ≡ Some reservation → reservation_at (with_reservation s q place) r ≡ place
    at-this place reservation same was = ap (λ (i : ℕ). reservation_at (with_reservation s q place) i) same
        ∙ get_or-set_same s.reservations q place None (place-within q reservation s.reservations was)

    -- the actor's reservation at this place
    mine : (reservation : Reservation) → r ≡ q → reservation_of s actor q ≡ Some reservation → (reservation_at s r ≡ Some reservation) × (reservation.actor ≡ actor)
    mine reservation same own =
        let parts = reservation-owned actor (reservation_at s q) reservation own in
        (ap (reservation_at s) same ∙ parts.0, parts.1)

    at_fill : (bytes : List ℕ) → Affects (event.Fill q bytes) (fill s actor q bytes)
    at_fill bytes = by_fill s (Affects (event.Fill q bytes)) actor q bytes (record {
      no_reservation = λ none. leaves _ _ refl refl refl;
      overfill = λ reservation own. leaves _ _ refl refl refl;
      filled = λ reservation own fits. elim (cases_eq r q) [
        | inl same ↦ filled (record {
          reservation = reservation;
          bytes = bytes;
          was = (mine reservation same own).0;
          own = (mine reservation same own).1;
          is_event = ap (λ (i : ℕ). event.Fill i bytes) (sym same);
          is_reply = refl;
          fits = fits;
          at = at-this (Some (with_bytes bytes reservation)) reservation same (reservation-owned actor (reservation_at s q) reservation own).0;
        })
        | inr other ↦ leaves _ _ (leaves-other _ other) refl (ap (λ (b : Bool). cond b bytes []) (not-this other))
      ];
    })

    ends-it : (e : Event) (o : Outcome) (reservation : Reservation) → reservation_of s actor q ≡ Some reservation → o.state.reservations ≡ (with_reservation s q None).reservations
        → ends_place r e o.reply ≡ (q == r) → bytes_of_fill r e o.reply ≡ [] → Affects e o
    ends-it e o reservation own leaves_others ending no_bytes = elim (cases_eq r q) [
      | inl same ↦ ended (record {
        reservation = reservation;
        was = (mine reservation same own).0;
        own = (mine reservation same own).1;
        ending = ending ∙ eq-eqb q r (sym same);
        at = ap (λ (places : List (Option Reservation)). slice_index_or places r None) leaves_others
            ∙ at-this None reservation same (reservation-owned actor (reservation_at s q) reservation own).0;
      })
      | inr other ↦ leaves e o (ap (λ (places : List (Option Reservation)). slice_index_or places r None) leaves_others ∙ leaves-other None other)
          (ending ∙ not-this other) no_bytes
    ]

    at_discard : Affects (event.Discard q) (discard s actor q)
    at_discard = by_discard s (Affects (event.Discard q)) actor q (λ none. leaves _ _ refl refl refl) (λ reservation own. ends-it _ _ reservation own refl refl refl)

    at_commit : (now : ℕ) → Affects (event.Commit q now) (commit s actor q now)
    at_commit now = by_commit s (Affects (event.Commit q now)) actor q now (record {
      no_reservation = λ none. leaves _ _ refl refl refl;
      unfilled = λ reservation own. leaves _ _ refl refl refl;
      duplicate = λ reservation own n. ends-it _ _ reservation own refl refl refl;
      time_end = λ reservation own. ends-it _ _ reservation own refl refl refl;
      committed = λ reservation own whole. ends-it _ _ reservation own refl refl refl;
    })

  pub Effect-next : (e : Event) → Affects e (next s actor e)
  Effect-next (event.Insert now info body) = at_insert now (record { info = info; body = body })
  Effect-next event.Expire = at_expire
  Effect-next (event.Reserve info) = at_reserve info
  Effect-next (event.Fill q bytes) = at_fill q bytes
  Effect-next (event.Commit q now) = at_commit q now
  Effect-next (event.Discard q) = at_discard q
  Effect-next e = by_quiet s (Affects e) (λ answer cursors none. leaves e _ refl refl refl) actor e refl

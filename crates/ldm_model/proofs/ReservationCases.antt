-- What the events on reservations lead to, case by case: what holds in each case holds of the event.
use Rattle.std.proofs.Common.{◌≡◌, ◌∙◌, ℕ, ◌<◌, ◌≤◌, List, length, Option, Some, None, refl, sym, ap, arith}
use Rattle.std.specs.Prelude.{◌==◌, nat_lt}
use Rattle.std.proofs.lemmas.Bool.{cond_both, eqb-true, ltb-true, ltb-false}
use Rattle.std.proofs.lemmas.Option.{cond_some}
use Rattle.ldm_types.specs.Info.{Metadata}
use Rattle.ldm_model.specs.declared.event.Reply.TheVariants as reply
use Rattle.ldm_model.specs.Product.{extent_of}
use Rattle.ldm_model.specs.State.{State, Queued, Reservation, end_of, last_time, queued, queued_with}
use Rattle.ldm_model.specs.Outcome.{Outcome, unchanged}
use Rattle.ldm_model.specs.Evict.{count_held}
use Rattle.ldm_model.specs.Insert.{admit, time_after, is_last, evictions, after_evicting}
use Rattle.ldm_model.specs.Cursor.{least_empty}
use Rattle.ldm_model.specs.Reservation.{if_reserved_by, reservation_of, on_reservation, with_reservation, with_bytes, left_of, product_of}
use Rattle.ldm_model.specs.Reserve.{reserve, reserve_fitting, reserve_at, reserve_by_evictions, with_reserved}
use Rattle.ldm_model.specs.Fill.{fill, fill_open, discard}
use Rattle.ldm_model.specs.Commit.{commit, commit_open, commit_whole}

-- an actor's reservation is the one of the place, and its own
pub reservation-owned : (actor : ℕ) (place : Option Reservation) (reservation : Reservation) → if_reserved_by actor place ≡ Some reservation → (place ≡ Some reservation) × (reservation.actor ≡ actor)
reservation-owned actor None reservation e = absurd cc
reservation-owned actor (Some other) reservation e =
    let parts = cond_some (other.actor == actor) other reservation e in
    (ap (λ (q : Reservation). Some q) parts.1, ap (λ (q : Reservation). q.actor) (sym parts.1) ∙ eqb-true other.actor actor parts.0)

module _ (s : State) (P : Outcome → Type 0) where
  -- a region is reserved, or the answer is one of four that change nothing
  pub record ReserveCases (actor : ℕ) (info : Metadata) : Type 0 where
    pub too_big : P (unchanged s (reply.TooBig (extent_of info) s.arena))
    pub duplicate : (n : ℕ) → P (unchanged s (reply.Duplicate n))
    pub all_reserved : P (unchanged s reply.AllReserved)
    pub locked : (held : ℕ) → P (unchanged s (reply.Locked held))
    pub reserved : (r j : ℕ) → least_empty s.reservations ≡ Some r → evictions s (extent_of info) ≡ Some j
        → P (record { reply = reply.Reserved r j; state = with_reserved (after_evicting s j) actor info r })

  module _ (actor : ℕ) (info : Metadata) (cases : ReserveCases actor info) where
    by_evictions : (r : ℕ) → least_empty s.reservations ≡ Some r → (j : Option ℕ) → evictions s (extent_of info) ≡ j → P (reserve_by_evictions s actor info r j)
    by_evictions r place None e = cases.locked (count_held s)
    by_evictions r place (Some j) e = cases.reserved r j place e

    by_place : (r : Option ℕ) → least_empty s.reservations ≡ r → P (reserve_at s actor info r)
    by_place None e = cases.all_reserved
    by_place (Some r) e = by_evictions r e (evictions s (extent_of info)) refl

    by_duplicate : (q : Option Queued) → P (reserve_fitting s actor info q)
    by_duplicate (Some q) = cases.duplicate q.number
    by_duplicate None = by_place (least_empty s.reservations) refl

    pub by_reserve : P (reserve s actor info)
    unfolding reserve
    by_reserve = cond_both (nat_lt s.arena (extent_of info)) (unchanged s (reply.TooBig (extent_of info) s.arena))
        (reserve_fitting s actor info (queued_with info.signature (queued s))) P (λ e. cases.too_big) (λ e. by_duplicate (queued_with info.signature (queued s)))

  module _ (actor r : ℕ) where
    on_its : (act : Reservation → Outcome) → (reservation_of s actor r ≡ None → P (unchanged s reply.NoReservation))
        → ((reservation : Reservation) → reservation_of s actor r ≡ Some reservation → P (act reservation)) → P (on_reservation s (reservation_of s actor r) act)
    on_its act none some = by_place (reservation_of s actor r) refl
      where
        by_place : (place : Option Reservation) → reservation_of s actor r ≡ place → P (on_reservation s place act)
        by_place None e = none e
        by_place (Some reservation) e = some reservation e

    -- bytes are filled in, or nothing changes
    pub record FillCases (bytes : List ℕ) : Type 0 where
      pub no_reservation : reservation_of s actor r ≡ None → P (unchanged s reply.NoReservation)
      pub overfill : (reservation : Reservation) → reservation_of s actor r ≡ Some reservation → P (unchanged s (reply.Overfill (left_of reservation)))
      pub filled : (reservation : Reservation) → reservation_of s actor r ≡ Some reservation → length bytes ≤ left_of reservation
          → P (record { reply = reply.Filled (left_of (with_bytes bytes reservation)); state = with_reservation s r (Some (with_bytes bytes reservation)) })

    pub by_fill : (bytes : List ℕ) → FillCases bytes → P (fill s actor r bytes)
    unfolding fill
    by_fill bytes cases = on_its (fill_open s r bytes) cases.no_reservation (λ reservation e. cond_both (nat_lt (left_of reservation) (length bytes))
        (unchanged s (reply.Overfill (left_of reservation)))
        (record { reply = reply.Filled (left_of (with_bytes bytes reservation)); state = with_reservation s r (Some (with_bytes bytes reservation)) }) P
        (λ more. cases.overfill reservation e) (λ fits. cases.filled reservation e (ltb-false (left_of reservation) (length bytes) fits)))

    -- the reservation ends, or there is none
    pub by_discard : (reservation_of s actor r ≡ None → P (unchanged s reply.NoReservation))
        → ((reservation : Reservation) → reservation_of s actor r ≡ Some reservation → P (record { reply = reply.Discarded; state = with_reservation s r None })) → P (discard s actor r)
    unfolding discard
    by_discard none some = on_its _ none some

    -- nothing changes; or the reservation ends, and its product is admitted or not
    pub record CommitCases (now : ℕ) : Type 0 where
      pub no_reservation : reservation_of s actor r ≡ None → P (unchanged s reply.NoReservation)
      pub unfilled : (reservation : Reservation) → reservation_of s actor r ≡ Some reservation → P (unchanged s (reply.Unfilled (left_of reservation)))
      pub duplicate : (reservation : Reservation) → reservation_of s actor r ≡ Some reservation → (n : ℕ) → P (unchanged (with_reservation s r None) (reply.Duplicate n))
      pub time_end : (reservation : Reservation) → reservation_of s actor r ≡ Some reservation → P (unchanged (with_reservation s r None) reply.TimeEnd)
      pub committed : (reservation : Reservation) → reservation_of s actor r ≡ Some reservation → left_of reservation ≡ 0 → P (record {
        reply = reply.Committed (end_of s) (time_after (last_time s) now);
        state = admit (with_reservation s r None) now (product_of reservation) (Some reservation.place);
      })

    pub by_commit : (now : ℕ) → CommitCases now → P (commit s actor r now)
    unfolding commit
    by_commit now cases = on_its (commit_open s r now) cases.no_reservation (λ reservation e. cond_both (nat_lt 0 (left_of reservation))
        (unchanged s (reply.Unfilled (left_of reservation)))
        (commit_whole (with_reservation s r None) now reservation (queued_with reservation.info.signature (queued s))) P
        (λ more. cases.unfilled reservation e)
        (λ whole. by_queued reservation e (omega (arith, ltb-false 0 (left_of reservation) whole)) (queued_with reservation.info.signature (queued s))))
      where
        by_queued : (reservation : Reservation) → reservation_of s actor r ≡ Some reservation → left_of reservation ≡ 0 → (q : Option Queued)
            → P (commit_whole (with_reservation s r None) now reservation q)
        by_queued reservation e whole (Some q) = cases.duplicate reservation e q.number
        by_queued reservation e whole None = cond_both (is_last (last_time s)) (unchanged (with_reservation s r None) reply.TimeEnd)
            (record {
              reply = reply.Committed (end_of s) (time_after (last_time s) now);
              state = admit (with_reservation s r None) now (product_of reservation) (Some reservation.place);
            }) P (λ late. cases.time_end reservation e) (λ early. cases.committed reservation e whole)

module _ (s : State) (actor r : ℕ) where
  -- a call that overfills has more bytes than are left
  pub overfill-too_many : (bytes : List ℕ) (left : ℕ) → (fill s actor r bytes).reply ≡ reply.Overfill left → left < length bytes
  unfolding fill
  overfill-too_many bytes left = on_its s (λ (o : Outcome). o.reply ≡ reply.Overfill left → left < length bytes) actor r (fill_open s r bytes) (λ none x. absurd cc)
      (λ reservation own. cond_both (nat_lt (left_of reservation) (length bytes)) (unchanged s (reply.Overfill (left_of reservation)))
      (record { reply = reply.Filled (left_of (with_bytes bytes reservation)); state = with_reservation s r (Some (with_bytes bytes reservation)) })
      (λ (o : Outcome). o.reply ≡ reply.Overfill left → left < length bytes)
      (λ more x. let same : left_of reservation ≡ left = cc in let less = ltb-true (left_of reservation) (length bytes) more in omega (arith, same, less))
      (λ fits x. absurd cc))

  -- a body that is committed too early has bytes left
  abbrev HasLeft : ℕ → Outcome → Type 0
  HasLeft left o = o.reply ≡ reply.Unfilled left → 0 < left

  commit_whole-has_left : (now left : ℕ) (reservation : Reservation) (q : Option Queued) → HasLeft left (commit_whole (with_reservation s r None) now reservation q)
  commit_whole-has_left now left reservation (Some q) = λ x. absurd cc
  commit_whole-has_left now left reservation None = cond_both (is_last (last_time s)) (unchanged (with_reservation s r None) reply.TimeEnd)
      (record {
        reply = reply.Committed (end_of s) (time_after (last_time s) now);
        state = admit (with_reservation s r None) now (product_of reservation) (Some reservation.place);
      }) (HasLeft left) (λ late x. absurd cc) (λ early x. absurd cc)

  pub commit-has_left : (now left : ℕ) → HasLeft left (commit s actor r now)
  unfolding commit
  commit-has_left now left = on_its s (HasLeft left) actor r (commit_open s r now) (λ none x. absurd cc) (λ reservation own. cond_both (nat_lt 0 (left_of reservation))
      (unchanged s (reply.Unfilled (left_of reservation)))
      (commit_whole (with_reservation s r None) now reservation (queued_with reservation.info.signature (queued s))) (HasLeft left)
      (λ more x. let same : left_of reservation ≡ left = cc in let less = ltb-true 0 (left_of reservation) more in omega (arith, same, less))
      (λ whole. commit_whole-has_left now left reservation (queued_with reservation.info.signature (queued s))))

-- What events do to the state: each leaves it, changes cursor places, evicts a row, admits one after evictions, or makes, fills
-- or ends a reservation. So what these keep is true after every legal history.
use Rattle.std.proofs.Common.{◌≡◌, ℕ, ◌≤◌, false, List, [], ◌∷◌, take, Option, Some, None, refl}
use Rattle.std.specs.Prelude.{nat_lt}
use Rattle.std.proofs.lemmas.Bool.{cond_both}
use Rattle.ldm_types.specs.declared.limits.TheConstants.{GREATEST_INSTANT}
use Rattle.ldm_types.specs.Info.{Metadata}
use Rattle.ldm_model.specs.declared.event.Event.{Event}
use Rattle.ldm_model.specs.declared.event.Event.TheVariants as event
use Rattle.ldm_model.specs.declared.event.Reply.TheVariants as reply
use Rattle.ldm_model.specs.declared.event.Entry.{Entry}
use Rattle.ldm_model.specs.Product.{Product, extent_of}
use Rattle.ldm_model.specs.State.{State, Cursor, Queued, Reservation, end_of, last_time, queued, queued_with}
use Rattle.ldm_model.specs.Outcome.{Outcome, unchanged}
use Rattle.ldm_model.specs.Evict.{unheld, evict, evict_all}
use Rattle.ldm_model.specs.Room.{fit_in}
use Rattle.ldm_model.specs.Insert.{insert, insert_fitting, insert_by_evictions, is_last, evictions, after_evicting, admit, time_after}
use Rattle.ldm_model.specs.Reservation.{reservation_at, reservation_of, with_reservation, with_bytes, on_reservation, left_of, product_of}
use Rattle.ldm_model.specs.Reserve.{with_reserved}
use Rattle.ldm_model.specs.Commit.{commit, commit_open, commit_whole}
use Rattle.ldm_model.specs.Next.{next}
use Rattle.ldm_model.specs.History.{IsPossible, IsLegalFrom, after_entries, next_entry}
use Rattle.ldm_model.proofs.Cases.{by_quiet, by_expire}
use Rattle.ldm_model.proofs.ReservationCases.{reservation-owned, by_reserve, by_fill, by_discard}

-- an insertion that is admitted after so many evictions
pub record IsAdmission (s : State) (now : ℕ) (p : Product) (j : ℕ) : Type 0 where
  pub instant : now ≤ GREATEST_INSTANT
  pub absent : queued_with p.info.signature (queued s) ≡ None
  pub in_time : is_last (last_time s) ≡ false
  pub found : evictions s (extent_of p.info) ≡ Some j

-- a reservation that is committed
pub record IsCommit (s : State) (r now : ℕ) (reservation : Reservation) : Type 0 where
  pub instant : now ≤ GREATEST_INSTANT
  pub is_open : reservation_at s r ≡ Some reservation
  pub absent : queued_with reservation.info.signature (queued s) ≡ None
  pub in_time : is_last (last_time s) ≡ false

-- what is true of a state stays true through each of these changes
pub record IsKept (P : State → Type 0) : Type 0 where
  pub placed : (s : State) (cursors : List (Option Cursor)) → P s → P (record s { cursors = cursors })
  pub evicted : (s : State) (n : ℕ) → P s → P (evict s n)
  pub grown : (s : State) (now : ℕ) (p : Product) (j : ℕ) → IsAdmission s now p j → P s → P (after_evicting s j)
      → P (admit (after_evicting s j) now p (fit_in (after_evicting s j) (extent_of p.info)))
  pub reserved : (s : State) (actor : ℕ) (info : Metadata) (r j : ℕ) → evictions s (extent_of info) ≡ Some j → P (after_evicting s j) → P (with_reserved (after_evicting s j) actor info r)
  pub filled : (s : State) (r : ℕ) (reservation : Reservation) (bytes : List ℕ) → reservation_at s r ≡ Some reservation → P s → P (with_reservation s r (Some (with_bytes bytes reservation)))
  pub ended : (s : State) (r : ℕ) → P s → P (with_reservation s r None)
  pub committed : (s : State) (r now : ℕ) (reservation : Reservation) → IsCommit s r now reservation → P s → P (with_reservation s r None)
      → P (admit (with_reservation s r None) now (product_of reservation) (Some reservation.place))

module _ (P : State → Type 0) (kept : IsKept P) where
  evicted-all : (ns : List ℕ) (s : State) → P s → P (evict_all s ns)
  evicted-all [] s h = h
  evicted-all (n ∷ ns) s h = evicted-all ns (evict s n) (kept.evicted s n h)

  module _ (s : State) (h : P s) where
    abbrev Leaves : Outcome → Type 0
    Leaves outcome = P outcome.state

    after_evictions : (now : ℕ) (p : Product) (j : Option ℕ) → ((i : ℕ) → j ≡ Some i → IsAdmission s now p i) → Leaves (insert_by_evictions s now p j)
    after_evictions now p None admission = h
    after_evictions now p (Some j) admission = kept.grown s now p j (admission j refl) h (evicted-all (take j (unheld s)) s h)

    after_fitting : (now : ℕ) (p : Product) → now ≤ GREATEST_INSTANT → (q : Option Queued) → queued_with p.info.signature (queued s) ≡ q → Leaves (insert_fitting s now p q)
    after_fitting now p instant (Some q) found = h
    after_fitting now p instant None absent = cond_both (is_last (last_time s)) (unchanged s reply.TimeEnd) (insert_by_evictions s now p (evictions s (extent_of p.info)))
        Leaves (λ e. h) (λ e. after_evictions now p (evictions s (extent_of p.info)) (λ j found. record { instant = instant; absent = absent; in_time = e; found = found }))

    after_insert : (now : ℕ) (p : Product) → now ≤ GREATEST_INSTANT → Leaves (insert s now p)
    unfolding insert
    after_insert now p instant = cond_both (nat_lt s.arena (extent_of p.info)) (unchanged s (reply.TooBig (extent_of p.info) s.arena))
        (insert_fitting s now p (queued_with p.info.signature (queued s)))
        Leaves (λ e. h) (λ e. after_fitting now p instant (queued_with p.info.signature (queued s)) refl)

    after_commit : (actor r now : ℕ) → now ≤ GREATEST_INSTANT → Leaves (commit s actor r now)
    unfolding commit
    after_commit actor r now instant = by_place (reservation_of s actor r) refl
      where
        by_queued : (reservation : Reservation) → reservation_at s r ≡ Some reservation → (q : Option Queued) → queued_with reservation.info.signature (queued s) ≡ q
            → Leaves (commit_whole (with_reservation s r None) now reservation q)
        by_queued reservation is (Some q) found = kept.ended s r h
        by_queued reservation is None absent = cond_both (is_last (last_time s)) (unchanged (with_reservation s r None) reply.TimeEnd)
            (record {
              reply = reply.Committed (end_of s) (time_after (last_time s) now);
              state = admit (with_reservation s r None) now (product_of reservation) (Some reservation.place);
            }) Leaves (λ late. kept.ended s r h)
            (λ early. kept.committed s r now reservation (record { instant = instant; is_open = is; absent = absent; in_time = early }) h (kept.ended s r h))

        by_place : (place : Option Reservation) → reservation_of s actor r ≡ place → Leaves (on_reservation s place (commit_open s r now))
        by_place None e = h
        by_place (Some reservation) e = cond_both (nat_lt 0 (left_of reservation)) (unchanged s (reply.Unfilled (left_of reservation)))
            (commit_whole (with_reservation s r None) now reservation (queued_with reservation.info.signature (queued s))) Leaves (λ more. h)
            (λ whole. by_queued reservation (reservation-owned actor (reservation_at s r) reservation e).0 (queued_with reservation.info.signature (queued s)) refl)

    kept-next : (actor : ℕ) (e : Event) → IsPossible e → Leaves (next s actor e)
    kept-next actor (event.Insert now info body) possible = after_insert now (record { info = info; body = body }) possible.0
    kept-next actor event.Expire possible = by_expire s Leaves h (λ n ns e. kept.evicted s n h)
    kept-next actor (event.Reserve info) possible = by_reserve s Leaves actor info (record {
      too_big = h;
      duplicate = λ n. h;
      all_reserved = h;
      locked = λ held. h;
      reserved = λ r j place e. kept.reserved s actor info r j e (evicted-all (take j (unheld s)) s h);
    })
    kept-next actor (event.Fill r bytes) possible = by_fill s Leaves actor r bytes (record {
      no_reservation = λ e. h;
      overfill = λ reservation e. h;
      filled = λ reservation own fits. kept.filled s r reservation bytes (reservation-owned actor (reservation_at s r) reservation own).0 h;
    })
    kept-next actor (event.Commit r now) possible = after_commit actor r now possible.1
    kept-next actor (event.Discard r) possible = by_discard s Leaves actor r (λ e. h) (λ reservation e. kept.ended s r h)
    kept-next actor e possible = by_quiet s Leaves (λ r cursors none. kept.placed s cursors h) actor e refl

  -- so it is true of the state that entries lead to
  pub kept-entries : (entries : List Entry) (s : State) → IsLegalFrom s entries → P s → P (after_entries s entries)
  kept-entries [] s legal h = h
  kept-entries (entry ∷ entries) s legal h = kept-entries entries (next_entry s entry).state legal.1 (kept-next s h entry.actor entry.event legal.0.possible)

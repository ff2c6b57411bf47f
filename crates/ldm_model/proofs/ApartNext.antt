-- After each event the regions of the state lie within the arena and apart.
use Rattle.std.proofs.Common.{◌≡◌, ◌∙◌, ℕ, zero, suc, List, [], ◌∷◌, take, Option, Some, None, refl, ap, subst}
use Rattle.std.specs.Prelude.{replicate, slice_index_or}
use Rattle.std.specs.Option.{option_map}
use Rattle.std.proofs.lemmas.Option.{same_Some}
use Rattle.ldm_types.specs.Info.{Metadata}
use Rattle.ldm_types.specs.Arena.{Region}
use Rattle.ldm_model.specs.declared.event.Event.{Event}
use Rattle.ldm_model.specs.declared.event.Event.TheVariants as event
use Rattle.ldm_model.specs.declared.event.Entry.{Entry}
use Rattle.ldm_model.specs.Product.{Product, extent_of}
use Rattle.ldm_model.specs.State.{State, empty, last_time, reserved_region}
use Rattle.ldm_model.specs.Outcome.{Outcome}
use Rattle.ldm_model.specs.Room.{fit_in}
use Rattle.ldm_model.specs.Evict.{unheld}
use Rattle.ldm_model.specs.Insert.{insert, after_evicting, time_after, admit}
use Rattle.ldm_model.specs.Reservation.{reservation_at, with_reservation, new_reservation, with_bytes}
use Rattle.ldm_model.specs.Reserve.{reserve, with_reserved}
use Rattle.ldm_model.specs.Fill.{fill, discard}
use Rattle.ldm_model.specs.Commit.{commit}
use Rattle.ldm_model.specs.Expire.{expire}
use Rattle.ldm_model.specs.Next.{next}
use Rattle.ldm_model.specs.History.{after, after_entries, next_entry}
use Rattle.ldm_model.proofs.Cases.{by_quiet, by_insert, by_expire}
use Rattle.ldm_model.proofs.ReservationCases.{by_reserve, by_fill, by_discard, by_commit, reservation-owned}
use Rattle.ldm_model.proofs.ApartRegions.{Key, of_row, of_place, region_at, row_region, IsBeside, Laid, Laid-evict}
use Rattle.ldm_model.proofs.ApartRegions.{Laid-evict_all, IsLaid-row, IsLaid-place, IsLaid-same_place, IsBeside-ended, IsBeside-fit}

module _ (arena : ℕ) where
  abbrev Leaves : Outcome → Type 0
  Leaves outcome = Laid arena outcome.state

  -- where the best fit is found, it is free
  admitted-laid : (t : State) → Laid arena t → (now : ℕ) (p : Product) → Laid arena (admit t now p (fit_in t (extent_of p.info)))
  admitted-laid t laid now p = (laid.0, IsLaid-row arena t.rows t.reservations laid.1 _ (by_fit (fit_in t (extent_of p.info)) refl))
    where
      by_fit : (place : Option ℕ) → fit_in t (extent_of p.info) ≡ place → (g : Region) → row_region (Some (record { product = p; time = time_after (last_time t) now; place = place })) ≡ Some g
          → IsBeside arena t.rows t.reservations g
      by_fit None found g e = absurd cc
      by_fit (Some place) found g e = subst (IsBeside arena t.rows t.reservations) (same_Some _ g e) (IsBeside-fit arena t laid.0 p.info place found)

  reserved-laid : (t : State) → Laid arena t → (actor : ℕ) (info : Metadata) (r : ℕ) → Laid arena (with_reserved t actor info r)
  reserved-laid t laid actor info r = (laid.0, IsLaid-place arena t.rows t.reservations laid.1 r _ (by_fit (fit_in t (extent_of info)) refl))
    where
      by_fit : (place : Option ℕ) → fit_in t (extent_of info) ≡ place → (g : Region) → option_map reserved_region (option_map (new_reservation actor info) place) ≡ Some g
          → IsBeside arena t.rows t.reservations g
      by_fit None found g e = absurd cc
      by_fit (Some place) found g e = subst (IsBeside arena t.rows t.reservations) (same_Some _ g e) (IsBeside-fit arena t laid.0 info place found)

  module _ (s : State) (laid : Laid arena s) where
    evicted-laid : (j : ℕ) → Laid arena (after_evicting s j)
    evicted-laid j = Laid-evict_all arena (take j (unheld s)) s laid

    ended-laid : (r : ℕ) → Laid arena (with_reservation s r None)
    ended-laid r = (laid.0, IsLaid-same_place arena s.rows s.reservations laid.1 r None (λ g e. absurd cc))

    after_insert : (now : ℕ) (p : Product) → Leaves (insert s now p)
    after_insert now p = by_insert s Leaves now p (λ r e. laid) (λ j e. admitted-laid (after_evicting s j) (evicted-laid j) now p)

    after_expire : Leaves (expire s)
    after_expire = by_expire s Leaves laid (λ n ns e. Laid-evict arena s n laid)

    after_reserve : (actor : ℕ) (info : Metadata) → Leaves (reserve s actor info)
    after_reserve actor info = by_reserve s Leaves actor info (record {
      too_big = laid;
      duplicate = λ n. laid;
      all_reserved = laid;
      locked = λ held. laid;
      reserved = λ r j place e. reserved-laid (after_evicting s j) (evicted-laid j) actor info r;
    })

    after_fill : (actor r : ℕ) (bytes : List ℕ) → Leaves (fill s actor r bytes)
    after_fill actor r bytes = by_fill s Leaves actor r bytes (record {
      no_reservation = λ e. laid;
      overfill = λ reservation e. laid;
      filled = λ reservation own fits. (
        laid.0,
        IsLaid-same_place arena s.rows s.reservations laid.1 r (Some (with_bytes bytes reservation))
            (λ g e. ap (option_map reserved_region) (reservation-owned actor (reservation_at s r) reservation own).0 ∙ e),
      );
    })

    after_discard : (actor r : ℕ) → Leaves (discard s actor r)
    after_discard actor r = by_discard s Leaves actor r (λ e. laid) (λ reservation e. ended-laid r)

    after_commit : (actor r now : ℕ) → Leaves (commit s actor r now)
    after_commit actor r now = by_commit s Leaves actor r now (record {
      no_reservation = λ e. laid;
      unfilled = λ reservation e. laid;
      duplicate = λ reservation e n. ended-laid r;
      time_end = λ reservation e. ended-laid r;
      committed = λ reservation own whole. (
        laid.0,
        IsLaid-row arena s.rows (with_reservation s r None).reservations (ended-laid r).1 _ (λ g e.
            subst (IsBeside arena s.rows (with_reservation s r None).reservations) (same_Some (reserved_region reservation) g e)
            (IsBeside-ended arena s.rows s.reservations laid.1 r reservation (reservation-owned actor (reservation_at s r) reservation own).0)),
      );
    })

    pub Laid-next : (actor : ℕ) (e : Event) → Leaves (next s actor e)
    Laid-next actor (event.Insert now info body) = after_insert now (record { info = info; body = body })
    Laid-next actor event.Expire = after_expire
    Laid-next actor (event.Reserve info) = after_reserve actor info
    Laid-next actor (event.Fill r bytes) = after_fill actor r bytes
    Laid-next actor (event.Commit r now) = after_commit actor r now
    Laid-next actor (event.Discard r) = after_discard actor r
    Laid-next actor e = by_quiet s Leaves (λ r cursors none. laid) actor e refl

Laid-entries : (arena : ℕ) (entries : List Entry) (s : State) → Laid arena s → Laid arena (after_entries s entries)
Laid-entries arena [] s laid = laid
Laid-entries arena (entry ∷ entries) s laid = Laid-entries arena entries (next_entry s entry).state (Laid-next arena s laid entry.actor entry.event)

-- at the beginning nothing occupies the arena
no-region : (k : Key) (g : Region) → region_at [] (replicate 64 None) k ≡ Some g → ⊥
no-region (of_row n) g at = absurd cc
no-region (of_place r) g at = none 64 r at
  where
    none : (count r : ℕ) → option_map reserved_region (slice_index_or (replicate count None) r None) ≡ Some g → ⊥
    none zero r at = absurd cc
    none (suc count) zero at = absurd cc
    none (suc count) (suc r) at = none count r at

pub Laid-after : (arena slots : ℕ) (history : List Entry) → Laid arena (after arena slots history)
Laid-after arena slots history = Laid-entries arena history (empty arena slots) (
  refl,
  record {
    within = λ k g at. absurd (no-region k g at);
    apart = λ k l g h other at at'. absurd (no-region k g at);
  },
)

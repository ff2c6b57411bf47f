-- A product that was evicted never comes back.
use Rattle.std.proofs.Common.{◌≡◌, ◌∙◌, ℕ, zero, suc, ◌<◌, Bool, false, List, [], ◌∷◌, ◌++◌, length, take, Option, Some, None, refl, sym, ap, subst, arith, length-append}
use Rattle.std.specs.Prelude.{slice_get, is_some}
use Rattle.ldm_model.specs.declared.event.Event.{Event}
use Rattle.ldm_model.specs.declared.event.Event.TheVariants as event
use Rattle.ldm_model.specs.declared.event.Entry.{Entry}
use Rattle.ldm_model.specs.Product.{Product}
use Rattle.ldm_model.specs.State.{State, Row, empty, place_of_row, is_queued}
use Rattle.ldm_model.specs.Outcome.{Outcome}
use Rattle.ldm_model.specs.Evict.{unheld, without_place, evict, evict_row, evict_all}
use Rattle.ldm_model.specs.Insert.{after_evicting, admit}
use Rattle.ldm_model.specs.Reservation.{with_reservation}
use Rattle.ldm_model.specs.Next.{next}
use Rattle.ldm_model.specs.History.{after, after_entries, next_entry}
use Rattle.ldm_model.proofs.Rows.{slice_get-front, length-without_place}
use Rattle.ldm_model.proofs.Appended.{after_entries-append}
use Rattle.ldm_model.proofs.Cases.{by_quiet, by_insert, by_expire}
use Rattle.ldm_model.proofs.ReservationCases.{by_reserve, by_fill, by_discard, by_commit}

-- whether the row of that number is present among these rows
abbrev pub present : List Row → ℕ → Bool
present rows n = is_some (place_of_row (slice_get rows n))

-- a product of that number was admitted and is not queued any more
abbrev pub IsGone : ℕ → State → Type 0
IsGone n s = (n < length s.rows) × (is_queued s n ≡ false)

absent-still : (rows : List Row) (m n : ℕ) → present rows n ≡ false → present (without_place rows m) n ≡ false
absent-still [] m n gone = gone
absent-still (row ∷ rows) zero zero gone = refl
absent-still (row ∷ rows) zero (suc n) gone = gone
absent-still (row ∷ rows) (suc m) zero gone = gone
absent-still (row ∷ rows) (suc m) (suc n) gone = absent-still rows m n gone

module _ (n : ℕ) where
  gone-evict : (s : State) (m : ℕ) → IsGone n s → IsGone n (evict s m)
  gone-evict s m gone = by_row (slice_get s.rows m)
    where
      by_row : (one : Option Row) → IsGone n (evict_row s m one)
      by_row None = gone
      by_row (Some one) = (omega (arith, gone.0, length-without_place s.rows m), absent-still s.rows m n gone.1)

  gone-evict_all : (ms : List ℕ) (s : State) → IsGone n s → IsGone n (evict_all s ms)
  gone-evict_all [] s gone = gone
  gone-evict_all (m ∷ ms) s gone = gone-evict_all ms (evict s m) (gone-evict s m gone)

  gone-admit : (s : State) (now : ℕ) (p : Product) (place : Option ℕ) → IsGone n s → IsGone n (admit s now p place)
  gone-admit s now p place gone =
      (omega (arith, gone.0, length-append {A = Row}), ap (λ (row : Option Row). is_some (place_of_row row)) (slice_get-front s.rows _ n gone.0) ∙ gone.1)

  module _ (s : State) (gone : IsGone n s) where
    abbrev Leaves : Outcome → Type 0
    Leaves o = IsGone n o.state

    gone-next : (actor : ℕ) (e : Event) → Leaves (next s actor e)
    gone-next actor (event.Insert now info body) = by_insert s Leaves now (record { info = info; body = body }) (λ r none. gone)
        (λ j e. gone-admit (after_evicting s j) now (record { info = info; body = body }) _ (gone-evict_all (take j (unheld s)) s gone))
    gone-next actor event.Expire = by_expire s Leaves gone (λ m ms e. gone-evict s m gone)
    gone-next actor (event.Reserve info) = by_reserve s Leaves actor info (record {
      too_big = gone;
      duplicate = λ m. gone;
      all_reserved = gone;
      locked = λ held. gone;
      reserved = λ r j place e. gone-evict_all (take j (unheld s)) s gone;
    })
    gone-next actor (event.Fill r bytes) =
        by_fill s Leaves actor r bytes (record { no_reservation = λ e. gone; overfill = λ reservation e. gone; filled = λ reservation e fits. gone })
    gone-next actor (event.Commit r now) = by_commit s Leaves actor r now (record {
      no_reservation = λ e. gone;
      unfilled = λ reservation e. gone;
      duplicate = λ reservation e m. gone;
      time_end = λ reservation e. gone;
      committed = λ reservation e whole. gone-admit (with_reservation s r None) now _ _ gone;
    })
    gone-next actor (event.Discard r) = by_discard s Leaves actor r (λ e. gone) (λ reservation e. gone)
    gone-next actor e = by_quiet s Leaves (λ r cursors none. gone) actor e refl

  pub gone-entries : (entries : List Entry) (s : State) → IsGone n s → IsGone n (after_entries s entries)
  gone-entries [] s gone = gone
  gone-entries (entry ∷ entries) s gone = gone-entries entries (next_entry s entry).state (gone-next s gone entry.actor entry.event)

pub gone-after : (n arena slots : ℕ) (front behind : List Entry) → IsGone n (after arena slots front) → IsGone n (after arena slots (front ++ behind))
gone-after n arena slots front behind gone =
    subst (IsGone n) (sym (after_entries-append front behind (empty arena slots))) (gone-entries n behind (after arena slots front) gone)

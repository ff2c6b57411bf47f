-- No more products are queued than a queue has slots.
use Rattle.std.proofs.Common.{◌≡◌, ℕ, ◌≤◌, List, [], ◌∷◌, take, Option, Some, None, length, refl, arith}
use Rattle.std.specs.Prelude.{slice_get}
use Rattle.ldm_model.specs.declared.event.Event.{Event}
use Rattle.ldm_model.specs.declared.event.Event.TheVariants as event
use Rattle.ldm_model.specs.declared.event.Entry.{Entry}
use Rattle.ldm_model.specs.State.{State, Row, empty, queued}
use Rattle.ldm_model.specs.Always.{Always, HasSlots}
use Rattle.ldm_model.specs.Evict.{evict, evict_all, evict_row, unheld}
use Rattle.ldm_model.specs.History.{after, after_entries, IsLegal, next_entry}
use Rattle.ldm_model.specs.Next.{next}
use Rattle.ldm_model.specs.Outcome.{Outcome}
use Rattle.ldm_model.proofs.Cases.{by_expire, by_insert, by_quiet}
use Rattle.ldm_model.proofs.ReservationCases.{by_commit, by_discard, by_fill, by_reserve}

-- a state of so many slots
abbrev HasCount : ℕ → State → Type 0
HasCount slots s = s.slots ≡ slots

evict-count : (slots : ℕ) (s : State) (n : ℕ) → HasCount slots s → HasCount slots (evict s n)
evict-count slots s n has = by_row (slice_get s.rows n)
  where
    by_row : (row : Option Row) → HasCount slots (evict_row s n row)
    by_row None = has
    by_row (Some row) = has

evict_all-count : (slots : ℕ) (ns : List ℕ) (s : State) → HasCount slots s → HasCount slots (evict_all s ns)
evict_all-count slots [] s has = has
evict_all-count slots (n ∷ ns) s has = evict_all-count slots ns (evict s n) (evict-count slots s n has)

module _ (slots : ℕ) (s : State) (has : HasCount slots s) where
  abbrev Keeps : Outcome → Type 0
  Keeps o = HasCount slots o.state

  evicted : (j : ℕ) → HasCount slots (evict_all s (take j (unheld s)))
  evicted j = evict_all-count slots (take j (unheld s)) s has

  next-count : (actor : ℕ) (e : Event) → Keeps (next s actor e)
  next-count actor (event.Insert now info body) = by_insert s Keeps now (record { info = info; body = body }) (λ r quiet. has) (λ j e. evicted j)
  next-count actor event.Expire = by_expire s Keeps has (λ n ns e. evict-count slots s n has)
  next-count actor (event.Reserve info) = by_reserve s Keeps actor info (record {
    too_big = has;
    duplicate = λ n. has;
    all_reserved = has;
    locked = λ held. has;
    reserved = λ r j place e. evicted j;
  })
  next-count actor (event.Fill r bytes) = by_fill s Keeps actor r bytes (record {
    no_reservation = λ e. has;
    overfill = λ reservation e. has;
    filled = λ reservation e few. has;
  })
  next-count actor (event.Commit r now) = by_commit s Keeps actor r now (record {
    no_reservation = λ e. has;
    unfilled = λ reservation e. has;
    duplicate = λ reservation e n. has;
    time_end = λ reservation e. has;
    committed = λ reservation e whole. has;
  })
  next-count actor (event.Discard r) = by_discard s Keeps actor r (λ e. has) (λ reservation e. has)
  next-count actor e = by_quiet s Keeps (λ r cursors none. has) actor e refl

entries-count : (slots : ℕ) (entries : List Entry) (s : State) → HasCount slots s → HasCount slots (after_entries s entries)
entries-count slots [] s has = has
entries-count slots (entry ∷ entries) s has = entries-count slots entries (next_entry s entry).state (next-count slots s has entry.actor entry.event)

pub few-queued : Always HasSlots → (arena slots : ℕ) (history : List Entry) → IsLegal arena slots history → length (queued (after arena slots history)) ≤ slots
few-queued has_slots arena slots history legal =
    let count = entries-count slots history (empty arena slots) refl in
    omega (arith, has_slots arena slots history legal, count)

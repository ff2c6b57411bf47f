-- Every row of the state that a legal history leads to is a product that the history admitted.
use Rattle.std.proofs.Common.{◌≡◌, ◌∙◌, ℕ, zero, suc, List, [], ◌∷◌, ◌++◌, length, take, Option, Some, None, refl, sym, ap, subst, inl, inr, append_assoc}
use Rattle.std.proofs.Common.{append-nil, arith, length-append}
use Rattle.std.specs.Prelude.{replicate, slice_get, slice_index_or}
use Rattle.std.proofs.lemmas.Bool.{cases_lt}
use Rattle.std.proofs.lemmas.Option.{same_Some, slice_get_within}
use Rattle.ldm_types.specs.Info.{Metadata}
use Rattle.ldm_model.specs.declared.event.Event.{Event}
use Rattle.ldm_model.specs.declared.event.Event.TheVariants as event
use Rattle.ldm_model.specs.declared.event.Reply.{Reply}
use Rattle.ldm_model.specs.declared.event.Reply.TheVariants as reply
use Rattle.ldm_model.specs.declared.event.Entry.{Entry}
use Rattle.ldm_model.specs.Product.{Product, extent_of}
use Rattle.ldm_model.specs.State.{State, Row, Reservation, empty, end_of, last_time}
use Rattle.ldm_model.specs.Outcome.{Outcome, unchanged}
use Rattle.ldm_model.specs.Evict.{unheld, without_place, evict, evict_row, evict_all}
use Rattle.ldm_model.specs.Insert.{insert, evictions, after_evicting, time_after, admitted}
use Rattle.ldm_model.specs.Reservation.{reservation_at, with_reservation, with_bytes, product_of}
use Rattle.ldm_model.specs.Reserve.{reserve, with_reserved}
use Rattle.ldm_model.specs.Fill.{fill, discard}
use Rattle.ldm_model.specs.Commit.{commit}
use Rattle.ldm_model.specs.Next.{next}
use Rattle.ldm_model.specs.History.{after, after_entries, next_entry, IsLegalFrom, IsLegal, IsInserted, IsCommitted, IsAdmitted}
use Rattle.ldm_model.proofs.Rows.{slice_get-front, slice_get-last}
use Rattle.ldm_model.proofs.Cases.{by_quiet, by_insert, by_expire}
use Rattle.ldm_model.proofs.ReservationCases.{by_reserve, by_fill, by_discard, by_commit, reservation-owned}
use Rattle.ldm_model.proofs.Effects.{entry_of}
use Rattle.ldm_model.proofs.Opened.{IsOpened, AreOpened, AreOpened-next}

-- each of these rows has the product and the time of the row of its number among others
abbrev pub Keeps : List Row → List Row → Type 0
Keeps rows rows' = (n : ℕ) (row' : Row) → slice_get rows' n ≡ Some row' → (row : Row) × (slice_get rows n ≡ Some row) × (row'.product ≡ row.product) × (row'.time ≡ row.time)

Keeps-itself : (rows : List Row) → Keeps rows rows
Keeps-itself rows n row at = (row, at, refl, refl)

Keeps-without_place : (rows : List Row) (m : ℕ) → Keeps rows (without_place rows m)
Keeps-without_place [] m n row' at = absurd cc
Keeps-without_place (row ∷ rows) zero zero row' at = (row, refl, ap (λ (r : Row). r.product) (sym (same_Some _ _ at)), ap (λ (r : Row). r.time) (sym (same_Some _ _ at)))
Keeps-without_place (row ∷ rows) zero (suc n) row' at = (row', at, refl, refl)
Keeps-without_place (row ∷ rows) (suc m) zero row' at = (row', at, refl, refl)
Keeps-without_place (row ∷ rows) (suc m) (suc n) row' at = Keeps-without_place rows m n row' at

pub Keeps-evict : (s : State) (m : ℕ) → Keeps s.rows (evict s m).rows
Keeps-evict s m = by_row (slice_get s.rows m)
  where
    by_row : (row : Option Row) → Keeps s.rows (evict_row s m row).rows
    by_row None = Keeps-itself s.rows
    by_row (Some row) = Keeps-without_place s.rows m

Keeps-evict_all : (ms : List ℕ) (s : State) → Keeps s.rows (evict_all s ms).rows
Keeps-evict_all [] s n row' at = (row', at, refl, refl)
Keeps-evict_all (m ∷ ms) s n row' at =
    let later = Keeps-evict_all ms (evict s m) n row' at in
    let sooner = Keeps-evict s m n later.0 later.1 in
    (sooner.0, sooner.1, later.2 ∙ sooner.2, later.3 ∙ sooner.3)

-- a longer history admitted it too
IsInserted-longer : (history more : List Entry) (n : ℕ) (product : Product) (time : ℕ) → IsInserted history n product time → IsInserted (history ++ more) n product time
IsInserted-longer history more n product time h = record {
  front = h.front;
  actor = h.actor;
  now = h.now;
  evicted = h.evicted;
  behind = h.behind ++ more;
  is_entry = ap (λ (es : List Entry). es ++ more) h.is_entry
      ∙ append_assoc h.front (record { actor = h.actor; event = event.Insert h.now product.info product.body; reply = reply.Admitted n time h.evicted } ∷ h.behind) more;
}

IsCommitted-longer : (history more : List Entry) (n : ℕ) (product : Product) (time : ℕ) → IsCommitted history n product time → IsCommitted (history ++ more) n product time
IsCommitted-longer history more n product time h =
    let reserving : Entry = record { actor = h.actor; event = event.Reserve product.info; reply = reply.Reserved h.r h.evicted } in
    let committing : Entry = record { actor = h.actor; event = event.Commit h.r h.now; reply = reply.Committed n time } in
    record {
      front = h.front;
      actor = h.actor;
      r = h.r;
      evicted = h.evicted;
      between = h.between;
      now = h.now;
      behind = h.behind ++ more;
      is_entries = ap (λ (es : List Entry). es ++ more) h.is_entries
          ∙ append_assoc h.front (reserving ∷ (h.between ++ committing ∷ h.behind)) more
          ∙ ap (λ (es : List Entry). h.front ++ reserving ∷ es) (append_assoc h.between (committing ∷ h.behind) more);
      not_ended = h.not_ended;
      body = h.body;
    }

pub IsAdmitted-longer : (history more : List Entry) (n : ℕ) (product : Product) (time : ℕ) → IsAdmitted history n product time → IsAdmitted (history ++ more) n product time
IsAdmitted-longer history more n product time h = elim h [
  | inl x ↦ inl (IsInserted-longer history more n product time x)
  | inr x ↦ inr (IsCommitted-longer history more n product time x)
]

-- each row was admitted
abbrev pub AreAdmitted : List Entry → State → Type 0
AreAdmitted history s = (n : ℕ) (row : Row) → slice_get s.rows n ≡ Some row → IsAdmitted history n row.product row.time

module _ (s : State) (history : List Entry) (all : AreAdmitted history s) (open_ones : AreOpened history s) (actor : ℕ) where
  abbrev Leaves : Event → Outcome → Type 0
  Leaves e outcome = AreAdmitted (history ++ entry_of actor e outcome ∷ []) outcome.state

  -- where the rows keep their products, nothing is to be shown
  kept : (e : Event) (outcome : Outcome) → Keeps s.rows outcome.state.rows → Leaves e outcome
  kept e outcome keeps n row' at =
      let old = keeps n row' at in
      coe 0 1 (i. IsAdmitted (history ++ entry_of actor e outcome ∷ []) n (sym old.2 i) (sym old.3 i))
      (IsAdmitted-longer history (entry_of actor e outcome ∷ []) n old.0.product old.0.time (all n old.0 old.1))

  same : (e : Event) (r : Reply) → Leaves e (unchanged s r)
  same e r = kept e (unchanged s r) (Keeps-itself s.rows)

  -- reservations alone change
  reserves : (e : Event) (answer : Reply) (r : ℕ) (place : Option Reservation) → Leaves e (record { reply = answer; state = with_reservation s r place })
  reserves e answer r place = kept e (record { reply = answer; state = with_reservation s r place }) (Keeps-itself s.rows)

  -- a row that comes behind these is the last one
  added : (e : Event) (answer : Reply) (t : State) (new : Row) → Keeps s.rows t.rows
      → IsAdmitted (history ++ record { actor = actor; event = e; reply = answer } ∷ []) (length t.rows) new.product new.time
      → Leaves e (record { reply = answer; state = record t { rows = t.rows ++ new ∷ [] } })
  added e answer t new keeps is_new n row' at = elim (cases_lt n (length t.rows)) [
    | inl lt ↦ kept e (record { reply = answer; state = t }) keeps n row' (sym (slice_get-front t.rows (new ∷ []) n lt) ∙ at)
    | inr le ↦
        let within = slice_get_within (t.rows ++ new ∷ []) n row' at in
        let last : n ≡ length t.rows = omega (arith, within, length-append t.rows (new ∷ [])) in
        let is : new ≡ row' = same_Some new row' (sym (slice_get-last t.rows new n last) ∙ at) in
        coe 0 1 (i. IsAdmitted (history ++ record { actor = actor; event = e; reply = answer } ∷ []) (sym last i) (is i).product (is i).time) is_new
  ]

  after_insert : (now : ℕ) (product : Product) → Leaves (event.Insert now product.info product.body) (insert s now product)
  after_insert now product = by_insert s (Leaves (event.Insert now product.info product.body)) now product (λ r none. same (event.Insert now product.info product.body) r) admits
    where
      admits : (j : ℕ) → evictions s (extent_of product.info) ≡ Some j → Leaves (event.Insert now product.info product.body) (admitted (after_evicting s j) now product j)
      admits j e = added (event.Insert now product.info product.body) (admitted (after_evicting s j) now product j).reply (after_evicting s j) _ (Keeps-evict_all (take j (unheld s)) s)
          (inl (record { front = history; actor = actor; now = now; evicted = j; behind = []; is_entry = refl }))

  after_reserve : (info : Metadata) → Leaves (event.Reserve info) (reserve s actor info)
  after_reserve info = by_reserve s (Leaves (event.Reserve info)) actor info (record {
    too_big = same (event.Reserve info) _;
    duplicate = λ n. same (event.Reserve info) _;
    all_reserved = same (event.Reserve info) _;
    locked = λ held. same (event.Reserve info) _;
    reserved = λ r j place e. kept (event.Reserve info) (record { reply = reply.Reserved r j; state = with_reserved (after_evicting s j) actor info r })
        (Keeps-evict_all (take j (unheld s)) s);
  })

  after_fill : (r : ℕ) (bytes : List ℕ) → Leaves (event.Fill r bytes) (fill s actor r bytes)
  after_fill r bytes = by_fill s (Leaves (event.Fill r bytes)) actor r bytes (record {
    no_reservation = λ e. same (event.Fill r bytes) _;
    overfill = λ reservation e. same (event.Fill r bytes) _;
    filled = λ reservation e fits. reserves (event.Fill r bytes) _ r (Some (with_bytes bytes reservation));
  })

  after_discard : (r : ℕ) → Leaves (event.Discard r) (discard s actor r)
  after_discard r = by_discard s (Leaves (event.Discard r)) actor r (λ e. same (event.Discard r) _) (λ reservation e. reserves (event.Discard r) _ r None)

  -- a commit of a reservation that the history opened
  is-committed : (r now time : ℕ) (reservation : Reservation) → reservation.actor ≡ actor → IsOpened history r reservation
      → IsCommitted (history ++ record { actor = actor; event = event.Commit r now; reply = reply.Committed (end_of s) time } ∷ []) (end_of s) (product_of reservation) time
  is-committed r now time reservation own h =
      let committing : Entry = record { actor = actor; event = event.Commit r now; reply = reply.Committed (end_of s) time } in
      let reserving : Entry = record { actor = reservation.actor; event = event.Reserve reservation.info; reply = reply.Reserved r h.evicted } in
      record {
        front = h.front;
        actor = reservation.actor;
        r = r;
        evicted = h.evicted;
        between = h.between;
        now = now;
        behind = [];
        is_entries = ap (λ (es : List Entry). es ++ committing ∷ []) h.is_entries ∙ append_assoc h.front (reserving ∷ h.between) (committing ∷ [])
            ∙ ap (λ (i : ℕ). h.front ++ reserving ∷ (h.between ++ record { actor = i; event = event.Commit r now; reply = reply.Committed (end_of s) time } ∷ [])) (sym own);
        not_ended = h.not_ended;
        body = h.filled;
      }

  after_commit : (r now : ℕ) → Leaves (event.Commit r now) (commit s actor r now)
  after_commit r now = by_commit s (Leaves (event.Commit r now)) actor r now (record {
    no_reservation = λ e. same (event.Commit r now) _;
    unfilled = λ reservation e. same (event.Commit r now) _;
    duplicate = λ reservation e n. reserves (event.Commit r now) _ r None;
    time_end = λ reservation e. reserves (event.Commit r now) _ r None;
    committed = λ reservation e whole.
        let own = reservation-owned actor (reservation_at s r) reservation e in
        added (event.Commit r now) (reply.Committed (end_of s) (time_after (last_time s) now)) (with_reservation s r None) _ (Keeps-itself s.rows)
        (inr (is-committed r now (time_after (last_time s) now) reservation own.1 (open_ones r reservation own.0)));
  })

  AreAdmitted-next : (e : Event) → Leaves e (next s actor e)
  AreAdmitted-next (event.Insert now info body) = after_insert now (record { info = info; body = body })
  AreAdmitted-next event.Expire = by_expire s (Leaves event.Expire) (same event.Expire _) (λ n ns e. kept event.Expire (record { reply = reply.Expired n; state = evict s n }) (Keeps-evict s n))
  AreAdmitted-next (event.Reserve info) = after_reserve info
  AreAdmitted-next (event.Fill r bytes) = after_fill r bytes
  AreAdmitted-next (event.Commit r now) = after_commit r now
  AreAdmitted-next (event.Discard r) = after_discard r
  AreAdmitted-next e = by_quiet s (Leaves e) (λ r cursors none. kept e (record { reply = r; state = record s { cursors = cursors } }) (Keeps-itself s.rows)) actor e refl

-- both hold at each state of a history
AreBoth-entries : (entries history : List Entry) (s : State) → AreAdmitted history s × AreOpened history s → IsLegalFrom s entries
    → AreAdmitted (history ++ entries) (after_entries s entries) × AreOpened (history ++ entries) (after_entries s entries)
AreBoth-entries [] history s both legal = subst (λ (es : List Entry). AreAdmitted es s × AreOpened es s) (sym (append-nil history)) both
AreBoth-entries (entry ∷ entries) history s both legal =
    subst (λ (es : List Entry). AreAdmitted es (after_entries (next_entry s entry).state entries) × AreOpened es (after_entries (next_entry s entry).state entries))
    (append_assoc history (entry ∷ []) entries)
    (AreBoth-entries entries (history ++ entry ∷ []) (next_entry s entry).state
    (subst (λ (r : Reply). AreAdmitted (history ++ record { actor = entry.actor; event = entry.event; reply = r } ∷ []) (next_entry s entry).state
    × AreOpened (history ++ record { actor = entry.actor; event = entry.event; reply = r } ∷ []) (next_entry s entry).state) (sym legal.0.reply)
    (AreAdmitted-next s history both.0 both.1 entry.actor entry.event, AreOpened-next history s both.1 entry.actor entry.event))
    legal.1)

-- at the beginning no place has a reservation
none-reserved : (count r : ℕ) (reservation : Reservation) → slice_index_or (replicate count None) r None ≡ Some reservation → ⊥
none-reserved zero r reservation at = absurd cc
none-reserved (suc count) zero reservation at = absurd cc
none-reserved (suc count) (suc r) reservation at = none-reserved count r reservation at

pub AreBoth-after : (arena slots : ℕ) (history : List Entry) → IsLegal arena slots history → AreAdmitted history (after arena slots history) × AreOpened history (after arena slots history)
AreBoth-after arena slots history legal = AreBoth-entries history [] (empty arena slots) (λ n row at. absurd cc, λ r reservation at. absurd (none-reserved 64 r reservation at)) legal

pub AreAdmitted-after : (arena slots : ℕ) (history : List Entry) → IsLegal arena slots history → AreAdmitted history (after arena slots history)
AreAdmitted-after arena slots history legal = (AreBoth-after arena slots history legal).0

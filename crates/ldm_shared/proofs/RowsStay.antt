-- Every row keeps its product and its time, its body is whole, and its extent fits the arena.
use Rattle.std.proofs.Common.{◌≡◌, ◌∙◌, ℕ, zero, suc, ◌≤◌, List, [], ◌∷◌, ◌++◌, length, take, Option, Some, None, refl, sym, ap, subst, inl, inr, append_assoc, arith}
use Rattle.std.specs.Prelude.{slice_get, Bool, true, ◌&&◌, ◌==◌}
use Rattle.std.proofs.lemmas.Bool.{cond_both, eq-eqb, false≢true, ltb-false}
use Rattle.std.specs.Prelude.{nat_lt}
use Rattle.std.proofs.lemmas.Option.{same_Some, slice_get_within}
use Rattle.ldm_model.specs.declared.event.Event.{Event}
use Rattle.ldm_model.specs.declared.event.Event.TheVariants as event
use Rattle.ldm_model.specs.declared.event.Reply.{Reply}
use Rattle.ldm_model.specs.declared.event.Reply.TheVariants as reply
use Rattle.ldm_model.specs.declared.event.Entry.{Entry}
use Rattle.ldm_model.specs.Product.{Product, extent_of}
use Rattle.ldm_model.specs.State.{State, Row, queued, queued_with}
use Rattle.ldm_model.specs.Outcome.{Outcome, unchanged}
use Rattle.ldm_model.specs.Evict.{unheld, without_place, evict, evict_row, evict_all}
use Rattle.ldm_model.specs.Insert.{insert, insert_fitting, after_evicting, admit}
use Rattle.ldm_model.specs.Reservation.{with_reservation}
use Rattle.ldm_model.specs.Next.{next}
use Rattle.ldm_model.specs.History.{after, after_entries, next_entry, IsLegal, IsInserted, IsCommitted, IsAdmitted, is_admission}
use Rattle.ldm_model.specs.Filling.{Filling, IsFillingOf, IsFillingAnswered, IsReserved}
use Rattle.ldm_shared.specs.Staying.{HasRow}
use Rattle.ldm_model.proofs.Rows.{slice_get-front}
use Rattle.ldm_model.proofs.Appended.{after_entries-append, IsLegalFrom-append}
use Rattle.ldm_model.proofs.Cases.{by_quiet, by_insert, by_expire}
use Rattle.ldm_model.proofs.ReservationCases.{by_reserve, by_fill, by_discard, by_commit}
use Rattle.ldm_model.proofs.Admitted.{AreAdmitted-after}
use Rattle.ldm_model.proofs.ApartNext.{Laid-after}
use Rattle.ldm_model.proofs.FillingAnswered.{ObeysFilling-legal}
use Rattle.ldm_model.specs.State.{empty}

stays-without_place : (rows : List Row) (m n : ℕ) (row : Row) → slice_get rows n ≡ Some row → (place : Option ℕ) × (slice_get (without_place rows m) n ≡ Some (record row { place = place }))
stays-without_place [] m n row at = absurd cc
stays-without_place (one ∷ rows) zero zero row at = (None, ap (λ (r : Row). Some (record r { place = None })) (same_Some one row at))
stays-without_place (one ∷ rows) zero (suc n) row at = (row.place, at)
stays-without_place (one ∷ rows) (suc m) zero row at = (row.place, at)
stays-without_place (one ∷ rows) (suc m) (suc n) row at = stays-without_place rows m n row at

module _ (n : ℕ) (product : Product) (time : ℕ) where
  HasRow-evict : (s : State) (m : ℕ) → HasRow n product time s → HasRow n product time (evict s m)
  HasRow-evict s m h = by_row (slice_get s.rows m)
    where
      by_row : (one : Option Row) → HasRow n product time (evict_row s m one)
      by_row None = h
      by_row (Some one) = stays-without_place s.rows m n (record { product = product; time = time; place = h.0 }) h.1

  -- a row that comes behind the others
  HasRow-admit : (s : State) (now : ℕ) (p : Product) (place : Option ℕ) → HasRow n product time s → HasRow n product time (admit s now p place)
  HasRow-admit s now p place h =
      let within = slice_get_within s.rows n (record { product = product; time = time; place = h.0 }) h.1 in
      (h.0, slice_get-front s.rows _ n within ∙ h.1)

  HasRow-evict_all : (ms : List ℕ) (s : State) → HasRow n product time s → HasRow n product time (evict_all s ms)
  HasRow-evict_all [] s h = h
  HasRow-evict_all (m ∷ ms) s h = HasRow-evict_all ms (evict s m) (HasRow-evict s m h)

  module _ (s : State) (h : HasRow n product time s) where
    abbrev Leaves : Outcome → Type 0
    Leaves o = HasRow n product time o.state

    HasRow-next : (actor : ℕ) (e : Event) → Leaves (next s actor e)
    HasRow-next actor (event.Insert now info body) = by_insert s Leaves now (record { info = info; body = body }) (λ r none. h)
        (λ j e. HasRow-admit (after_evicting s j) now (record { info = info; body = body }) _ (HasRow-evict_all (take j (unheld s)) s h))
    HasRow-next actor event.Expire = by_expire s Leaves h (λ m ms e. HasRow-evict s m h)
    HasRow-next actor (event.Reserve info) = by_reserve s Leaves actor info (record {
      too_big = h;
      duplicate = λ m. h;
      all_reserved = h;
      locked = λ held. h;
      reserved = λ r j place e. HasRow-evict_all (take j (unheld s)) s h;
    })
    HasRow-next actor (event.Fill r bytes) = by_fill s Leaves actor r bytes (record { no_reservation = λ e. h; overfill = λ reservation e. h; filled = λ reservation e fits. h })
    HasRow-next actor (event.Commit r now) = by_commit s Leaves actor r now (record {
      no_reservation = λ e. h;
      unfilled = λ reservation e. h;
      duplicate = λ reservation e m. h;
      time_end = λ reservation e. h;
      committed = λ reservation e whole. HasRow-admit (with_reservation s r None) now _ _ h;
    })
    HasRow-next actor (event.Discard r) = by_discard s Leaves actor r (λ e. h) (λ reservation e. h)
    HasRow-next actor e = by_quiet s Leaves (λ r cursors none. h) actor e refl

  HasRow-entries : (entries : List Entry) (s : State) → HasRow n product time s → HasRow n product time (after_entries s entries)
  HasRow-entries [] s h = h
  HasRow-entries (entry ∷ entries) s h = HasRow-entries entries (next_entry s entry).state (HasRow-next s h entry.actor entry.event)

pub stays : (arena slots : ℕ) (front behind : List Entry) → IsLegal arena slots (front ++ behind) → (n : ℕ) (product : Product) (time : ℕ)
    → HasRow n product time (after arena slots front) → HasRow n product time (after arena slots (front ++ behind))
stays arena slots front behind legal n product time h =
    subst (HasRow n product time) (sym (after_entries-append front behind (empty arena slots)))
    (HasRow-entries n product time behind (after arena slots front) h)

-- the product was admitted
admitted-row : (arena slots : ℕ) (history : List Entry) → IsLegal arena slots history → (n : ℕ) (product : Product) (time : ℕ)
    → HasRow n product time (after arena slots history) → IsAdmitted history n product time
admitted-row arena slots history legal n product time h = AreAdmitted-after arena slots history legal n (record { product = product; time = time; place = h.0 }) h.1

both_true : (a b : Bool) → a ≡ true → b ≡ true → (a && b) ≡ true
both_true a b x y = ap (λ (c : Bool). c && b) x ∙ y

-- an insertion that is admitted was not too large
not-too-big : (s : State) (now : ℕ) (p : Product) (r : Reply) → is_admission r ≡ true → r ≡ (insert s now p).reply → extent_of p.info ≤ s.arena
unfolding insert
not-too-big s now p r admits = cond_both (nat_lt s.arena (extent_of p.info)) (unchanged s (reply.TooBig (extent_of p.info) s.arena))
    (insert_fitting s now p (queued_with p.info.signature (queued s))) (λ (o : Outcome). r ≡ o.reply → extent_of p.info ≤ s.arena)
    (λ e is. absurd (false≢true (ap is_admission (sym is) ∙ admits))) (λ e is. ltb-false s.arena (extent_of p.info) e)

module _ (arena slots : ℕ) (history : List Entry) (legal : IsLegal arena slots history) (n : ℕ) (product : Product) (time : ℕ) where
  inserted : (h : IsInserted history n product time) → (length product.body ≡ product.info.size) × (extent_of product.info ≤ arena)
  inserted h =
      let entry : Entry = record { actor = h.actor; event = event.Insert h.now product.info product.body; reply = reply.Admitted n time h.evicted } in
      let parts = (IsLegalFrom-append h.front (entry ∷ h.behind) (empty arena slots)).0 (subst (λ (es : List Entry). IsLegal arena slots es) h.is_entry legal) in
      let fits = not-too-big (after arena slots h.front) h.now product (reply.Admitted n time h.evicted) refl parts.1.0.reply in
      let same = (Laid-after arena slots h.front).0 in
      (parts.1.0.possible.3, subst (λ (a : ℕ). extent_of product.info ≤ a) same fits)

  committed : (h : IsCommitted history n product time) → (length product.body ≡ product.info.size) × (extent_of product.info ≤ arena)
  committed h =
      let entry : Entry = record { actor = h.actor; event = event.Commit h.r h.now; reply = reply.Committed n time } in
      let reserving : Entry = record { actor = h.actor; event = event.Reserve product.info; reply = reply.Reserved h.r h.evicted } in
      let f : Filling = record { arena = arena; slots = slots; before = h.front; owner = h.actor; info = product.info; r = h.r; evicted = h.evicted; since = h.between } in
      let at : IsFillingOf arena slots history f = record { same_arena = refl; same_slots = refl; rest = entry ∷ h.behind; front = append_assoc h.front (reserving ∷ h.between) (entry ∷ h.behind) ∙ sym h.is_entries; not_ended = h.not_ended } in
      let obeys = ObeysFilling-legal arena slots history legal in
      let answered : IsFillingAnswered f entry = obeys.answered f at entry h.behind refl (both_true (h.actor == h.actor) (h.r == h.r) (eq-eqb h.actor h.actor refl) (eq-eqb h.r h.r refl)) in
      let reserved : IsReserved f = obeys.reserved f at in
      (ap length h.body ∙ (answered.committed n time refl).whole, omega (arith, reserved.within))

pub whole : (arena slots : ℕ) (history : List Entry) → IsLegal arena slots history → (n : ℕ) (product : Product) (time : ℕ)
    → HasRow n product time (after arena slots history) → length product.body ≡ product.info.size
whole arena slots history legal n product time h = elim (admitted-row arena slots history legal n product time h) [
  | inl x ↦ (inserted arena slots history legal n product time x).0
  | inr x ↦ (committed arena slots history legal n product time x).0
]

pub fits : (arena slots : ℕ) (history : List Entry) → IsLegal arena slots history → (n : ℕ) (product : Product) (time : ℕ)
    → HasRow n product time (after arena slots history) → extent_of product.info ≤ arena
fits arena slots history legal n product time h = elim (admitted-row arena slots history legal n product time h) [
  | inl x ↦ (inserted arena slots history legal n product time x).1
  | inr x ↦ (committed arena slots history legal n product time x).1
]

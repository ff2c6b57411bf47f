-- What an insertion is answered, and a commit: for `ObeysInsertions`.
use Rattle.std.proofs.Common.{◌≡◌, ◌≤◌, ◌↔◌, ◌++◌, ◌∙◌, ℕ, Bool, true, false, cond, List, [], ◌∷◌, Option, Some, None, zero, suc, inl, inr, refl, sym, ap, subst, arith}
use Rattle.std.specs.Prelude.{◌==◌, nat_lt}
use Rattle.std.specs.List.{find, Contains}
use Rattle.std.proofs.lemmas.Bool.{ltb-true, ltb-false, leb-true, cond-true, eq-eqb}
use Rattle.std.proofs.lemmas.Slice.Eq.{bytes_eq-Decides}
use Rattle.ldm_types.specs.declared.limits.TheConstants.{GREATEST_INSTANT}
use Rattle.ldm_model.specs.declared.event.Event.{Event}
use Rattle.ldm_model.specs.declared.event.Event.TheVariants.{Insert, Commit}
use Rattle.ldm_model.specs.declared.event.Reply.{Reply}
use Rattle.ldm_model.specs.declared.event.Reply.TheVariants.{TooBig, TimeEnd, Locked, Unfilled, Committed}
use Rattle.ldm_model.specs.declared.event.Entry.{Entry}
use Rattle.ldm_model.specs.Product.{Product, extent_of}
use Rattle.ldm_model.specs.State.{State, Queued, Reservation, end_of, last_time, queued, queued_with, has_signature}
use Rattle.ldm_model.specs.Outcome.{Outcome, unchanged}
use Rattle.ldm_model.specs.Room.{has_room}
use Rattle.ldm_model.specs.Evict.{count_held, unheld, evict_all}
use Rattle.ldm_model.specs.Insert.{insert, insert_by_evictions, insert_fitting, evictions, is_last, admit, time_after}
use Rattle.ldm_model.specs.Reservation.{if_reserved_by, reservation_of, with_reservation, on_reservation, left_of, product_of}
use Rattle.ldm_model.specs.Commit.{commit, commit_open, commit_whole}
use Rattle.ldm_model.specs.Next.{next}
use Rattle.ldm_model.specs.Always.{IsInsertable}
use Rattle.ldm_model.specs.History.{IsLegal, IsLegalFrom, IsAnswered, after, after_entries, next_entry}
use Rattle.ldm_model.specs.Lawful.{IsAdmittedOrRefused, IsWholeAt, IsCommittedOrRefused, ObeysInsertions}

-- what is found is an element, and passes
found-is : {X : Type 0} (test : X → Bool) (xs : List X) (x : X) → find test xs ≡ Some x → Contains xs x × (test x ≡ true)
found-is test [] x e = cc
found-is {X = X} test (y ∷ ys) x e = go (test y) refl e (found-is test ys x)
  where
    go : (b : Bool) → test y ≡ b → cond b (Some y) (find test ys) ≡ Some x → (find test ys ≡ Some x → Contains ys x × (test x ≡ true)) → Contains (y ∷ ys) x × (test x ≡ true)
    go true passes found later = let same : y ≡ x = cc in ((zero, omega arith, same), subst (λ (z : X). test z ≡ true) same passes)
    go false fails found later =
        let there = later found in
        ((suc there.0.0, let less = there.0.1 in omega (arith, less), there.0.2), there.1)

out-of-times : (last : Option ℕ) → is_last last ≡ true → (time : ℕ) × (last ≡ Some time) × (GREATEST_INSTANT ≤ time)
out-of-times None e = cc
out-of-times (Some time) e = (time, refl, leb-true GREATEST_INSTANT time e)

module _ (s : State) (now : ℕ) (p : Product)
    (locked : IsInsertable s p → ((held : ℕ) × ((insert s now p).reply ≡ Locked held)) ↔ (has_room (evict_all s (unheld s)) (extent_of p.info) ≡ false)) where
  abbrev IsGood : Outcome → Type 0
  IsGood outcome = IsAdmittedOrRefused s p outcome.reply outcome.state

  by-evictions : (found : Option ℕ) → IsInsertable s p → insert s now p ≡ insert_by_evictions s now p found → IsGood (insert_by_evictions s now p found)
  by-evictions (Some j) can is = inl (_, _, _, refl)
  by-evictions None can is = inr ((locked can).0 (count_held s, ap (λ (o : Outcome). o.reply) is), refl)

  by-time : (b : Bool) → is_last (last_time s) ≡ b → extent_of p.info ≤ s.arena → queued_with p.info.signature (queued s) ≡ None
      → insert s now p ≡ cond b (unchanged s TimeEnd) (insert_by_evictions s now p (evictions s (extent_of p.info)))
      → IsGood (cond b (unchanged s TimeEnd) (insert_by_evictions s now p (evictions s (extent_of p.info))))
  by-time true e fits absent is = let out = out-of-times (last_time s) e in inr (record { last = out.0; is_last = out.1; none_later = out.2 }, refl)
  by-time false e fits absent is = by-evictions (evictions s (extent_of p.info)) (record { fits = fits; absent = absent; in_time = e }) is

  by-signature : (found : Option Queued) → queued_with p.info.signature (queued s) ≡ found → extent_of p.info ≤ s.arena
      → insert s now p ≡ insert_fitting s now p found → IsGood (insert_fitting s now p found)
  by-signature (Some q) e fits is =
      let there = found-is (has_signature p.info.signature) (queued s) q e in
      inr (record { row = q; among = there.0; number = refl; same_signature = (bytes_eq-Decides q.product.info.signature p.info.signature).0 there.1 }, refl)
  by-signature None e fits is = by-time (is_last (last_time s)) refl fits e is

  by-size : (b : Bool) → nat_lt s.arena (extent_of p.info) ≡ b
      → insert s now p ≡ cond b (unchanged s (TooBig (extent_of p.info) s.arena)) (insert_fitting s now p (queued_with p.info.signature (queued s)))
      → IsGood (cond b (unchanged s (TooBig (extent_of p.info) s.arena)) (insert_fitting s now p (queued_with p.info.signature (queued s))))
  by-size true e is = inr ((refl, refl, ltb-true s.arena (extent_of p.info) e), refl)
  by-size false e is = by-signature (queued_with p.info.signature (queued s)) refl (ltb-false s.arena (extent_of p.info) e) is

  pub inserted : IsGood (insert s now p)
  unfolding insert
  inserted = by-size (nat_lt s.arena (extent_of p.info)) refl refl

-- a commit of the actor's whole reservation
module _ (s : State) (actor r now : ℕ) (reservation : Reservation) (at : IsWholeAt s actor r reservation) where
  abbrev IsGoodCommit : Outcome → Type 0
  IsGoodCommit outcome = IsCommittedOrRefused s r reservation.info outcome.reply outcome.state

  mine : reservation_of s actor r ≡ Some reservation
  mine = ap (if_reserved_by actor) at.is_open ∙ cond-true (reservation.actor == actor) (Some reservation) None (eq-eqb reservation.actor actor at.own)

  abbrev ended : State
  ended = with_reservation s r None

  by-commit-time : (b : Bool) → is_last (last_time s) ≡ b
      → IsGoodCommit (cond b (unchanged ended TimeEnd) (record { reply = Committed (end_of s) (time_after (last_time s) now); state = admit ended now (product_of reservation) (Some reservation.place) }))
  by-commit-time true e = let out = out-of-times (last_time s) e in inr (record { last = out.0; is_last = out.1; none_later = out.2 }, refl)
  by-commit-time false e = inl (_, _, refl)

  by-commit-signature : (found : Option Queued) → queued_with reservation.info.signature (queued s) ≡ found → IsGoodCommit (commit_whole ended now reservation found)
  by-commit-signature (Some q) e =
      let there = found-is (has_signature reservation.info.signature) (queued s) q e in
      inr (record { row = q; among = there.0; number = refl; same_signature = (bytes_eq-Decides q.product.info.signature reservation.info.signature).0 there.1 }, refl)
  by-commit-signature None e = by-commit-time (is_last (last_time s)) refl

  by-left : (b : Bool) → nat_lt 0 (left_of reservation) ≡ b
      → IsGoodCommit (cond b (unchanged s (Unfilled (left_of reservation))) (commit_whole ended now reservation (queued_with reservation.info.signature (queued s))))
  by-left true e = let more = ltb-true 0 (left_of reservation) e in let whole = at.whole in absurd (omega (arith, more, whole))
  by-left false e = by-commit-signature (queued_with reservation.info.signature (queued s)) refl

  pub committed : IsGoodCommit (commit s actor r now)
  unfolding commit
  committed = subst (λ (place : Option Reservation). IsGoodCommit (on_reservation s place (commit_open s r now))) (sym mine) (by-left (nat_lt 0 (left_of reservation)) refl)

module _ (arena slots : ℕ)
    (append : (front behind : List Entry) → IsLegal arena slots (front ++ behind) ↔ (IsLegal arena slots front × IsLegalFrom (after arena slots front) behind))
    (state : (front behind : List Entry) → after arena slots (front ++ behind) ≡ after_entries (after arena slots front) behind)
    (locked : (s : State) (now : ℕ) (p : Product) → IsInsertable s p → ((held : ℕ) × ((insert s now p).reply ≡ Locked held)) ↔ (has_room (evict_all s (unheld s)) (extent_of p.info) ≡ false))
    (history : List Entry) (legal : IsLegal arena slots history) where
  -- what holds of the reply of an entry and the state that it leaves, is what holds of the outcome of its call
  at-entry : (front : List Entry) (entry : Entry) (behind : List Entry) → front ++ entry ∷ behind ≡ history
      → (P : Reply → State → Type 0) (event : Event) → entry.event ≡ event
      → P (next (after arena slots front) entry.actor event).reply (next (after arena slots front) entry.actor event).state → P entry.reply (after arena slots (front ++ entry ∷ []))
  at-entry front entry behind is P event is_event p =
      let s = after arena slots front in
      let parts = (append front (entry ∷ behind)).0 (subst (λ (h : List Entry). IsLegal arena slots h) (sym is) legal) in
      let answered : IsAnswered s entry = parts.1.0 in
      let outcome : next_entry s entry ≡ next s entry.actor event = ap (λ (e : Event). next s entry.actor e) is_event in
      let reply : (next s entry.actor event).reply ≡ entry.reply = sym (answered.reply ∙ ap (λ (o : Outcome). o.reply) outcome) in
      let new : (next s entry.actor event).state ≡ after arena slots (front ++ entry ∷ []) = sym (state front (entry ∷ []) ∙ ap (λ (o : Outcome). o.state) outcome) in
      subst (λ (r : Reply). P r (after arena slots (front ++ entry ∷ []))) reply
      (subst (λ (t : State). P (next s entry.actor event).reply t) new p)

  pub insertions : ObeysInsertions arena slots history
  insertions = record {
    inserted = λ front entry behind is now info body event.
        let s = after arena slots front in
        let p : Product = record { info = info; body = body } in
        at-entry front entry behind is (IsAdmittedOrRefused s p) (Insert now info body) event (inserted s now p (locked s now p));
    committed = λ front entry behind is r now reservation event whole.
        let s = after arena slots front in
        at-entry front entry behind is (IsCommittedOrRefused s r reservation.info) (Commit r now) event (committed s entry.actor r now reservation whole);
  }

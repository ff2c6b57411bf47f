-- What the owner of a reservation is answered on it, and so every legal history obeys the law of filling.
use Rattle.std.proofs.Common.{◌≡◌, ◌∙◌, ◌≢◌, ℕ, ◌+◌, ◌≤◌, Bool, true, false, List, ◌∷◌, ◌++◌, length, Some, None, refl, sym, ap, subst, arith, length-append}
use Rattle.std.specs.Prelude.{◌==◌, ◌&&◌, slice_get}
use Rattle.std.proofs.lemmas.Bool.{false≢true, both_ways, and_parts, and_right, eq-eqb, eqb-true, cond-true}
use Rattle.std.proofs.lemmas.Option.{none-some, same_Some}
use Rattle.ldm_model.specs.declared.event.Event.{Event}
use Rattle.ldm_model.specs.declared.event.Event.TheVariants as event
use Rattle.ldm_model.specs.declared.event.Reply.{Reply}
use Rattle.ldm_model.specs.declared.event.Reply.TheVariants as reply
use Rattle.ldm_model.specs.declared.event.Entry.{Entry}
use Rattle.ldm_model.specs.State.{Reservation, end_of, last_time}
use Rattle.ldm_model.specs.Outcome.{Outcome}
use Rattle.ldm_model.specs.Reservation.{if_reserved_by, reservation_of, with_reservation, left_of, with_bytes}
use Rattle.ldm_model.specs.Fill.{fill, discard}
use Rattle.ldm_model.specs.Commit.{commit}
use Rattle.ldm_model.specs.Insert.{time_after}
use Rattle.ldm_model.specs.Next.{next}
use Rattle.ldm_model.specs.History.{IsAnswered, IsLegalFrom, IsLegal}
use Rattle.ldm_model.specs.Filled.{bytes_of_entry}
use Rattle.ldm_model.specs.Filling.{Filling, state_filling, body_so_far, place_filled, is_that, is_filling, IsFillingAnswered, ObeysFilling}
use Rattle.ldm_model.proofs.Rows.{slice_get-last}
use Rattle.ldm_model.proofs.ReservationCases.{by_fill, by_discard, by_commit, overfill-too_many, commit-has_left}
use Rattle.ldm_model.proofs.Effects.{entry_of}
use Rattle.ldm_model.proofs.Opened.{bytes_filled-push, filled-bytes}
use Rattle.ldm_model.proofs.FillingPoints.{with_filled, LivesAt, LivesAt-point, IsLegalFilling-point, IsReserved-lives}

-- a reply that says nothing of the bytes of a reservation
is_plain : Reply → Bool
is_plain (reply.Duplicate n) = true
is_plain reply.TimeEnd = true
is_plain reply.Discarded = true
is_plain _ = false

module _ (f : Filling) (h : LivesAt f) where
  -- what is answered, and done, by a call at the point
  record Answers (actor : ℕ) (e : Event) (o : Outcome) : Type 0 where
    has_reservation : o.reply ≢ reply.NoReservation
    filled : (left : ℕ) → o.reply ≡ reply.Filled left → left + length (body_so_far f ++ bytes_of_entry f.owner f.r (entry_of actor e o)) ≡ f.info.size
    overfill : (left : ℕ) → o.reply ≡ reply.Overfill left → (left + length (body_so_far f) ≡ f.info.size) × ((bytes : List ℕ) × (e ≡ event.Fill f.r bytes))
    unfilled : (left : ℕ) → o.reply ≡ reply.Unfilled left → (left + length (body_so_far f) ≡ f.info.size) × ((now : ℕ) × (e ≡ event.Commit f.r now))
    committed : (n time : ℕ) → o.reply ≡ reply.Committed n time → (length (body_so_far f) ≡ f.info.size)
        × (slice_get o.state.rows n ≡ Some (record { product = record { info = f.info; body = body_so_far f }; time = time; place = Some h.place }))

  -- the reservation that the owner has there
  abbrev its : Reservation
  its = with_filled f.owner f.info f.r h.place (body_so_far f)

  mine : reservation_of (state_filling f) f.owner f.r ≡ Some its
  mine = ap (if_reserved_by f.owner) h.live.at ∙ cond-true (f.owner == f.owner) (Some its) None (eq-eqb f.owner f.owner refl)

  not-none : {A : Type 0} → reservation_of (state_filling f) f.owner f.r ≡ None → A
  not-none none = absurd (none-some its (sym none ∙ mine))

  is-its : (reservation : Reservation) → reservation_of (state_filling f) f.owner f.r ≡ Some reservation → its ≡ reservation
  is-its reservation own = same_Some its reservation (sym mine ∙ own)

  -- a case of it is one of every reservation that the owner has there
  by_its : (P : Reservation → Type 0) → P its → (reservation : Reservation) → reservation_of (state_filling f) f.owner f.r ≡ Some reservation → P reservation
  by_its P p reservation own = subst P (is-its reservation own) p

  left-is : left_of its + length (body_so_far f) ≡ f.info.size
  left-is = omega (arith, h.live.fits)

  at_fill : (bytes : List ℕ) → Answers f.owner (event.Fill f.r bytes) (fill (state_filling f) f.owner f.r bytes)
  at_fill bytes = by_fill (state_filling f) (Answers f.owner (event.Fill f.r bytes)) f.owner f.r bytes (record {
    no_reservation = not-none;
    overfill = by_its _ (record {
      has_reservation = λ x. absurd cc;
      filled = λ left x. absurd cc;
      overfill = λ left x. let same : left_of its ≡ left = cc in (ap (λ (n : ℕ). n + length (body_so_far f)) (sym same) ∙ left-is, (bytes, refl));
      unfilled = λ left x. absurd cc;
      committed = λ n time x. absurd cc;
    });
    filled = λ reservation own fits. filled-in reservation (is-its reservation own) fits;
  })
    where
      filled-in : (reservation : Reservation) → its ≡ reservation → length bytes ≤ left_of reservation → Answers f.owner (event.Fill f.r bytes) (record {
        reply = reply.Filled (left_of (with_bytes bytes reservation));
        state = with_reservation (state_filling f) f.r (Some (with_bytes bytes reservation));
      })
      filled-in reservation is fits = record {
        has_reservation = λ x. absurd cc;
        filled = λ left x.
            let same : left_of (with_bytes bytes reservation) ≡ left = cc in
            let more = filled-bytes f.owner f.owner f.r (left_of (with_bytes bytes reservation)) bytes refl in
            omega (
              arith,
              h.live.fits,
              fits,
              same,
              length-append (body_so_far f) bytes,
              length-append reservation.filled bytes,
              ap (λ (q : Reservation). length q.filled) is,
              ap (λ (q : Reservation). q.info.size) is,
              ap (λ (added : List ℕ). length (body_so_far f ++ added)) more,
            );
        overfill = λ left x. absurd cc;
        unfilled = λ left x. absurd cc;
        committed = λ n time x. absurd cc;
      }

  -- an answer that says nothing of the bytes
  plain : (e : Event) (o : Outcome) → is_plain o.reply ≡ true → Answers f.owner e o
  unfolding is_plain
  plain e o silent = record {
    has_reservation = λ x. false≢true (ap is_plain (sym x) ∙ silent);
    filled = λ left x. absurd (false≢true (ap is_plain (sym x) ∙ silent));
    overfill = λ left x. absurd (false≢true (ap is_plain (sym x) ∙ silent));
    unfilled = λ left x. absurd (false≢true (ap is_plain (sym x) ∙ silent));
    committed = λ n time x. absurd (false≢true (ap is_plain (sym x) ∙ silent));
  }

  at_discard : Answers f.owner (event.Discard f.r) (discard (state_filling f) f.owner f.r)
  unfolding is_plain
  at_discard = by_discard (state_filling f) (Answers f.owner (event.Discard f.r)) f.owner f.r not-none (λ reservation own. plain _ _ refl)

  at_commit : (now : ℕ) → Answers f.owner (event.Commit f.r now) (commit (state_filling f) f.owner f.r now)
  unfolding is_plain
  at_commit now = by_commit (state_filling f) (Answers f.owner (event.Commit f.r now)) f.owner f.r now (record {
    no_reservation = not-none;
    unfilled = by_its _ (record {
      has_reservation = λ x. absurd cc;
      filled = λ left x. absurd cc;
      overfill = λ left x. absurd cc;
      unfilled = λ left x. let same : left_of its ≡ left = cc in (ap (λ (n : ℕ). n + length (body_so_far f)) (sym same) ∙ left-is, (now, refl));
      committed = λ n time x. absurd cc;
    });
    duplicate = λ reservation own n. plain _ _ refl;
    time_end = λ reservation own. plain _ _ refl;
    committed = by_its _ (λ whole. record {
      has_reservation = λ x. absurd cc;
      filled = λ left x. absurd cc;
      overfill = λ left x. absurd cc;
      unfilled = λ left x. absurd cc;
      committed = λ n time x.
          let same_number : end_of (state_filling f) ≡ n = cc in
          let same_time : time_after (last_time (state_filling f)) now ≡ time = cc in (
            omega (arith, whole, left-is),
            slice_get-last (state_filling f).rows _ n (sym same_number)
                ∙ ap (λ (i : ℕ). Some (record { product = record { info = f.info; body = body_so_far f }; time = i; place = Some h.place })) same_time,
          );
    });
  })

  -- what holds of the owner at its place holds of an actor that is the owner, at that place
  at-its : (P : ℕ → ℕ → Type 0) → P f.owner f.r → (actor q : ℕ) → (actor == f.owner && q == f.r) ≡ true → P actor q
  at-its P p actor q own =
      let parts = and_parts (actor == f.owner) (q == f.r) own in
      coe 0 1 (i. P (sym (eqb-true actor f.owner parts.0) i) (sym (eqb-true q f.r parts.1) i)) p

  answered-call : (actor : ℕ) (e : Event) → (actor == f.owner && is_that f.r (place_filled e)) ≡ true → Answers actor e (next (state_filling f) actor e)
  answered-call actor (event.Fill q bytes) own = at-its (λ a k. Answers a (event.Fill k bytes) (fill (state_filling f) a k bytes)) (at_fill bytes) actor q own
  answered-call actor (event.Commit q now) own = at-its (λ a k. Answers a (event.Commit k now) (commit (state_filling f) a k now)) (at_commit now) actor q own
  answered-call actor (event.Discard q) own = at-its (λ a k. Answers a (event.Discard k) (discard (state_filling f) a k)) at_discard actor q own
  answered-call actor e own = absurd (both_ways (actor == f.owner && false) (and_right (actor == f.owner) false refl) own)

  -- what an entry is answered, where its event is known
  at-event : (entry : Entry) (e : Event) → entry.event ≡ e → (next (state_filling f) entry.actor e).reply ≡ (next (state_filling f) entry.actor entry.event).reply
  at-event entry e is = ap (λ (it : Event). (next (state_filling f) entry.actor it).reply) (sym is)

  answered-entry : (entry : Entry) → IsAnswered (state_filling f) entry → is_filling f entry ≡ true → IsFillingAnswered f entry
  answered-entry entry answered own =
      let call = answered-call entry.actor entry.event own in
      let same : entry.reply ≡ (next (state_filling f) entry.actor entry.event).reply = answered.reply in
      record {
        has_reservation = λ x. call.has_reservation (sym same ∙ x);
        filled = λ left x.
            ap (λ (bytes : List ℕ). left + length bytes) (bytes_filled-push f.owner f.r f.since entry
            ∙ ap (λ (answer : Reply). body_so_far f ++ bytes_of_entry f.owner f.r (record { actor = entry.actor; event = entry.event; reply = answer })) same)
            ∙ call.filled left (sym same ∙ x);
        overfill = λ left x.
            let done = call.overfill left (sym same ∙ x) in record {
              is_left = done.0;
              bytes = done.1.0;
              is_fill = done.1.1;
              too_many = overfill-too_many (state_filling f) entry.actor f.r done.1.0 left (at-event entry (event.Fill f.r done.1.0) done.1.1 ∙ sym same ∙ x);
            };
        unfilled = λ left x.
            let done = call.unfilled left (sym same ∙ x) in record {
              is_left = done.0;
              some = commit-has_left (state_filling f) entry.actor f.r done.1.0 left (at-event entry (event.Commit f.r done.1.0) done.1.1 ∙ sym same ∙ x);
            };
        committed = λ n time x. let done = call.committed n time (sym same ∙ x) in record { whole = done.0; place = h.place; made = h.made; row = done.1 };
      }

pub ObeysFilling-legal : (arena slots : ℕ) (history : List Entry) → IsLegal arena slots history → ObeysFilling arena slots history
ObeysFilling-legal arena slots history legal = record {
  reserved = λ f at. IsReserved-lives f (LivesAt-point arena slots history legal f at);
  answered = λ f at entry later behind own.
      let life = IsLegalFilling-point arena slots history legal f at in
      let rest : IsLegalFrom (state_filling f) (entry ∷ later) = subst (λ (entries : List Entry). IsLegalFrom (state_filling f) entries) behind life.behind in
      answered-entry f (LivesAt-point arena slots history legal f at) entry rest.0 own;
}

-- At every point of a reservation it is open, with the bytes that its owner filled in, in a region of its own.
use Rattle.std.proofs.Common.{◌≡◌, ◌∙◌, ◌≢◌, ℕ, ◌≤◌, false, List, [], ◌∷◌, ◌++◌, length, All, Option, Some, None, refl, sym, ap, subst, arith, append_assoc, append-nil, length-append}
use Rattle.std.specs.Prelude.{◌==◌, IfSome}
use Rattle.std.specs.Option.{option_map}
use Rattle.std.proofs.lemmas.Bool.{both_ways, and_from, eq-eqb}
use Rattle.std.proofs.lemmas.Option.{none-some, same_Some}
use Rattle.std.proofs.lemmas.List.Elements.{All-head, All-tail}
use Rattle.ldm_types.specs.Info.{Metadata}
use Rattle.ldm_types.specs.Arena.{Region, AreApart}
use Rattle.ldm_model.specs.declared.event.Event.{Event}
use Rattle.ldm_model.specs.declared.event.Reply.{Reply}
use Rattle.ldm_model.specs.declared.event.Reply.TheVariants as reply
use Rattle.ldm_model.specs.declared.event.Entry.{Entry}
use Rattle.ldm_model.specs.Product.{extent_of}
use Rattle.ldm_model.specs.State.{State, Reservation, empty, reserved_region}
use Rattle.ldm_model.specs.Outcome.{Outcome}
use Rattle.ldm_model.specs.Reservation.{reservation_at, new_reservation}
use Rattle.ldm_model.specs.Reserve.{reserve, with_reserved}
use Rattle.ldm_model.specs.Insert.{after_evicting}
use Rattle.ldm_model.specs.Next.{next}
use Rattle.ldm_model.specs.History.{after, after_entries, next_entry, IsAnswered, IsLegalFrom, IsLegal}
use Rattle.ldm_model.specs.Filled.{bytes_of_entry, bytes_filled, ends_place, ends}
use Rattle.ldm_model.specs.Filling.{Filling, reserving, filling_history, state_reserved, state_filling, body_so_far, IsFillingOf, IsReserved}
use Rattle.ldm_model.proofs.Appended.{after_entries-append, IsLegalFrom-append}
use Rattle.ldm_model.proofs.ReservationCases.{by_reserve}
use Rattle.ldm_model.proofs.ApartRegions.{of_row, of_place, region_at, Laid, rows-hold}
use Rattle.ldm_model.proofs.ApartNext.{Laid-after}
use Rattle.ldm_model.proofs.Effects.{entry_of, Effect, kept, made, filled, ended, Effect-next, reserved-at}
use Rattle.ldm_model.proofs.Opened.{bytes_filled-push, fill-bytes}

module _ (owner : ℕ) (info : Metadata) (r place : ℕ) where
  -- the reservation with these bytes
  abbrev pub with_filled : List ℕ → Reservation
  with_filled bytes = record { actor = owner; info = info; place = place; filled = bytes }

  -- it is open, and they are no more than the size of the body
  pub record IsLive (s : State) (bytes : List ℕ) : Type 0 where
    pub at : reservation_at s r ≡ Some (with_filled bytes)
    pub fits : length bytes ≤ info.size

  IsLive-next : (s : State) (bytes : List ℕ) → IsLive s bytes → (actor : ℕ) (e : Event) → ends owner r (entry_of actor e (next s actor e)) ≡ false
      → IsLive (next s actor e).state (bytes ++ bytes_of_entry owner r (entry_of actor e (next s actor e)))
  IsLive-next s bytes live actor e goes_on = by_effect (Effect-next s actor r e)
    where
      by_effect : Effect s actor e r (next s actor e) → IsLive (next s actor e).state (bytes ++ bytes_of_entry owner r (entry_of actor e (next s actor e)))
      by_effect (kept h) =
          let none : bytes ++ bytes_of_entry owner r (entry_of actor e (next s actor e)) ≡ bytes =
          ap (λ (more : List ℕ). bytes ++ more) (h.nothing (with_filled bytes) live.at).1 ∙ append-nil bytes in
          subst (IsLive (next s actor e).state) (sym none) (record { at = h.same ∙ live.at; fits = live.fits })
      by_effect (made h) = absurd (none-some (with_filled bytes) (sym h.was ∙ live.at))
      by_effect (filled h) =
          let is : h.reservation ≡ with_filled bytes = same_Some h.reservation (with_filled bytes) (sym h.was ∙ live.at) in
          let more : bytes_of_entry owner r (entry_of actor e (next s actor e)) ≡ h.bytes =
          ap (λ (q : Reservation). bytes_of_entry q.actor r (entry_of actor e (next s actor e))) (sym is) ∙ fill-bytes s actor e r (next s actor e) h in
          subst (λ (new : List ℕ). IsLive (next s actor e).state (bytes ++ new)) (sym more) (record {
            at = h.at ∙ ap (λ (q : Reservation). Some (record q { filled = q.filled ++ h.bytes })) is;
            fits = omega (arith, live.fits, h.fits, length-append bytes h.bytes, ap (λ (q : Reservation). length q.filled) is, ap (λ (q : Reservation). q.info.size) is);
          })
      by_effect (ended h) =
          let is : h.reservation ≡ with_filled bytes = same_Some h.reservation (with_filled bytes) (sym h.was ∙ live.at) in
          let mine : actor ≡ owner = sym h.own ∙ ap (λ (q : Reservation). q.actor) is in
          absurd (both_ways (ends owner r (entry_of actor e (next s actor e))) goes_on (and_from (actor == owner) (ends_place r e (next s actor e).reply) (eq-eqb actor owner mine) h.ending))

  IsLive-entries : (entries so_far : List Entry) (s : State) → IsLive s (bytes_filled owner r so_far) → IsLegalFrom s entries → All (λ entry. ends owner r entry ≡ false) entries
      → IsLive (after_entries s entries) (bytes_filled owner r (so_far ++ entries))
  IsLive-entries [] so_far s live legal open_still = subst (λ (es : List Entry). IsLive s (bytes_filled owner r es)) (sym (append-nil so_far)) live
  IsLive-entries (entry ∷ entries) so_far s live legal open_still =
      let head = All-head (λ (e : Entry). ends owner r e ≡ false) entry entries open_still in
      let same : entry.reply ≡ (next s entry.actor entry.event).reply = legal.0.reply in
      let goes_on : ends owner r (entry_of entry.actor entry.event (next s entry.actor entry.event)) ≡ false =
      subst (λ (answer : Reply). ends owner r (record { actor = entry.actor; event = entry.event; reply = answer }) ≡ false) same head in
      let here = IsLive-next s (bytes_filled owner r so_far) live entry.actor entry.event goes_on in
      let there = subst (λ (answer : Reply). IsLive (next s entry.actor entry.event).state
      (bytes_filled owner r so_far ++ bytes_of_entry owner r (record { actor = entry.actor; event = entry.event; reply = answer }))) (sym same) here in
      subst (λ (es : List Entry). IsLive (after_entries (next_entry s entry).state entries) (bytes_filled owner r es)) (append_assoc so_far (entry ∷ []) entries)
      (IsLive-entries entries (so_far ++ entry ∷ []) (next_entry s entry).state
      (subst (IsLive (next_entry s entry).state) (sym (bytes_filled-push owner r so_far entry)) there) legal.1 (All-tail (λ (e : Entry). ends owner r e ≡ false) entry entries open_still))

-- a call that is answered so made the reservation
reserved-answer : (s : State) (owner : ℕ) (info : Metadata) (r evicted : ℕ) → reply.Reserved r evicted ≡ (reserve s owner info).reply
    → (place : ℕ) × (reservation_at (reserve s owner info).state r ≡ Some (new_reservation owner info place))
reserved-answer s owner info r evicted =
    by_reserve s (λ (o : Outcome). reply.Reserved r evicted ≡ o.reply → (place : ℕ) × (reservation_at o.state r ≡ Some (new_reservation owner info place))) owner info
    (record {
      too_big = λ e. absurd cc;
      duplicate = λ n e. absurd cc;
      all_reserved = λ e. absurd cc;
      locked = λ held e. absurd cc;
      reserved = λ q j empty room e.
          let same : r ≡ q = cc in
          let there = reserved-at s owner info q j empty room in
          (there.0, ap (λ (i : ℕ). reservation_at (with_reserved (after_evicting s j) owner info q) i) same ∙ there.1);
    })

-- the states of a point
pub state-reserved : (f : Filling) → state_reserved f ≡ (next_entry (after f.arena f.slots f.before) (reserving f)).state
state-reserved f = after_entries-append f.before (reserving f ∷ []) (empty f.arena f.slots)

pub state-filling : (f : Filling) → state_filling f ≡ after_entries (state_reserved f) f.since
state-filling f = ap (after_entries (empty f.arena f.slots)) (sym (append_assoc f.before (reserving f ∷ []) f.since))
    ∙ after_entries-append (f.before ++ reserving f ∷ []) f.since (empty f.arena f.slots)

-- what a legal history says of the entries of a reservation, and of those behind the point
pub record IsLegalFilling (f : Filling) (rest : List Entry) : Type 0 where
  pub made : IsAnswered (after f.arena f.slots f.before) (reserving f)
  pub since : IsLegalFrom (state_reserved f) f.since
  pub behind : IsLegalFrom (state_filling f) rest

pub IsLegalFilling-point : (arena slots : ℕ) (history : List Entry) → IsLegal arena slots history → (f : Filling) (at : IsFillingOf arena slots history f) → IsLegalFilling f at.rest
IsLegalFilling-point arena slots history legal f at =
    let whole : IsLegal f.arena f.slots (filling_history f ++ at.rest) = coe 0 1 (i. IsLegal (sym at.same_arena i) (sym at.same_slots i) (sym at.front i)) legal in
    let parts = (IsLegalFrom-append (filling_history f) at.rest (empty f.arena f.slots)).0 whole in
    let life = ((IsLegalFrom-append f.before (reserving f ∷ f.since) (empty f.arena f.slots)).0 parts.0).1 in
    record {
      made = life.0;
      since = subst (λ (s : State). IsLegalFrom s f.since) (sym (state-reserved f)) life.1;
      behind = parts.1;
    }

-- the reservation at a point, and how it began
pub record LivesAt (f : Filling) : Type 0 where
  pub place : ℕ
  pub made : reservation_at (state_reserved f) f.r ≡ Some (new_reservation f.owner f.info place)
  pub live : IsLive f.owner f.info f.r place (state_filling f) (body_so_far f)

pub LivesAt-point : (arena slots : ℕ) (history : List Entry) → IsLegal arena slots history → (f : Filling) → IsFillingOf arena slots history f → LivesAt f
LivesAt-point arena slots history legal f at =
    let life = IsLegalFilling-point arena slots history legal f at in
    let begun = reserved-answer (after f.arena f.slots f.before) f.owner f.info f.r f.evicted life.made.reply in
    let there : reservation_at (state_reserved f) f.r ≡ Some (new_reservation f.owner f.info begun.0) = ap (λ (s : State). reservation_at s f.r) (state-reserved f) ∙ begun.1 in
    record {
      place = begun.0;
      made = there;
      live = subst (λ (s : State). IsLive f.owner f.info f.r begun.0 s (body_so_far f)) (sym (state-filling f))
          (IsLive-entries f.owner f.info f.r begun.0 f.since [] (state_reserved f) (record { at = there; fits = omega arith }) life.since at.not_ended);
    }

module _ (f : Filling) (h : LivesAt f) where
  abbrev region : Region
  region = record { start = h.place; extent = extent_of f.info }

  laid : Laid f.arena (state_filling f)
  laid = Laid-after f.arena f.slots (filling_history f)

  mine : region_at (state_filling f).rows (state_filling f).reservations (of_place f.r) ≡ Some region
  mine = ap (option_map reserved_region) h.live.at

  beside-other : (q : ℕ) → q ≢ f.r → (place : Option Reservation) → reservation_at (state_filling f) q ≡ place → IfSome place (λ other. AreApart region (reserved_region other))
  beside-other q apart None e = tt
  beside-other q apart (Some other) e = laid.1.apart (of_place f.r) (of_place q) region (reserved_region other)
      (λ x. let same : f.r ≡ q = cc in apart (sym same)) mine (ap (option_map reserved_region) e)

  pub IsReserved-lives : IsReserved f
  IsReserved-lives = record {
    place = h.place;
    made = h.made;
    is_open = h.live.at;
    fits = h.live.fits;
    within = laid.1.within (of_place f.r) region mine;
    beside_rows = rows-hold (AreApart region) 0 (state_filling f).rows (λ n other at. laid.1.apart (of_place f.r) (of_row n) region other (λ x. absurd cc) mine at);
    beside_others = λ q apart. beside-other q apart (reservation_at (state_filling f) q) refl;
  }

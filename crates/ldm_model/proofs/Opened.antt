-- Every open reservation of the state that a legal history leads to was made by an entry of the history, none since ended it,
-- and it has the bytes that its actor filled in.
use Rattle.std.proofs.Common.{◌≡◌, ◌∙◌, ℕ, ◌≤◌, false, cond, List, [], ◌∷◌, ◌++◌, length, All, Some, refl, sym, ap, subst, arith, append_assoc, append-nil, length-append}
use Rattle.std.specs.Prelude.{◌==◌}
use Rattle.std.proofs.lemmas.Bool.{and_right, eq-eqb, cond-true}
use Rattle.std.proofs.lemmas.Option.{none-some, same_Some}
use Rattle.std.proofs.lemmas.List.Elements.{All-nil, All-push}
use Rattle.ldm_model.specs.declared.event.Event.{Event}
use Rattle.ldm_model.specs.declared.event.Event.TheVariants as event
use Rattle.ldm_model.specs.declared.event.Reply.TheVariants as reply
use Rattle.ldm_model.specs.declared.event.Entry.{Entry}
use Rattle.ldm_model.specs.State.{State, Reservation}
use Rattle.ldm_model.specs.Outcome.{Outcome}
use Rattle.ldm_model.specs.Reservation.{reservation_at, new_reservation, with_bytes, left_of}
use Rattle.ldm_model.specs.Next.{next}
use Rattle.ldm_model.specs.Filled.{bytes_of_entry, bytes_filled, ends_place, ends}
use Rattle.ldm_model.proofs.Effects.{entry_of, HasNothing, IsFilled, Effect, kept, made, filled, ended, Effect-next}

-- one entry more
pub bytes_filled-push : (owner r : ℕ) (entries : List Entry) (entry : Entry) → bytes_filled owner r (entries ++ entry ∷ []) ≡ bytes_filled owner r entries ++ bytes_of_entry owner r entry
bytes_filled-push owner r [] entry = append-nil (bytes_of_entry owner r entry)
bytes_filled-push owner r (other ∷ entries) entry = ap (λ (bytes : List ℕ). bytes_of_entry owner r other ++ bytes) (bytes_filled-push owner r entries entry)
    ∙ sym (append_assoc (bytes_of_entry owner r other) (bytes_filled owner r entries) (bytes_of_entry owner r entry))

-- the bytes of the owner's fill that is answered so
pub filled-bytes : (actor owner r left : ℕ) (bytes : List ℕ) → owner ≡ actor
    → bytes_of_entry owner r (record { actor = actor; event = event.Fill r bytes; reply = reply.Filled left }) ≡ bytes
filled-bytes actor owner r left bytes own =
    cond-true (actor == owner) (cond (r == r) bytes []) [] (eq-eqb actor owner (sym own)) ∙ cond-true (r == r) bytes [] (eq-eqb r r refl)

-- what the entries of a history make of a reservation
pub record IsOpened (history : List Entry) (r : ℕ) (q : Reservation) : Type 0 where
  pub front : List Entry
  pub evicted : ℕ
  pub between : List Entry
  pub is_entries : history ≡ front ++ record { actor = q.actor; event = event.Reserve q.info; reply = reply.Reserved r evicted } ∷ between
  pub not_ended : All (λ entry. ends q.actor r entry ≡ false) between
  pub filled : q.filled ≡ bytes_filled q.actor r between
  pub fits : length q.filled ≤ q.info.size

abbrev pub AreOpened : List Entry → State → Type 0
AreOpened history s = (r : ℕ) (q : Reservation) → reservation_at s r ≡ Some q → IsOpened history r q

-- with an entry more that does not end it, it has these bytes more
IsOpened-longer : (history : List Entry) (r : ℕ) (q : Reservation) (entry : Entry) → IsOpened history r q → ends q.actor r entry ≡ false → (bytes : List ℕ) → bytes_of_entry q.actor r entry ≡ bytes
    → length (q.filled ++ bytes) ≤ q.info.size → IsOpened (history ++ entry ∷ []) r (with_bytes bytes q)
IsOpened-longer history r q entry h goes_on bytes same fits = record {
  front = h.front;
  evicted = h.evicted;
  between = h.between ++ entry ∷ [];
  is_entries = ap (λ (es : List Entry). es ++ entry ∷ []) h.is_entries
      ∙ append_assoc h.front (record { actor = q.actor; event = event.Reserve q.info; reply = reply.Reserved r h.evicted } ∷ h.between) (entry ∷ []);
  not_ended = All-push (λ (e : Entry). ends q.actor r e ≡ false) h.between entry h.not_ended goes_on;
  filled = (λ i. h.filled i ++ sym same i) ∙ sym (bytes_filled-push q.actor r h.between entry);
  fits = fits;
}

-- no byte more
IsOpened-still : (history : List Entry) (r : ℕ) (q : Reservation) (entry : Entry) → IsOpened history r q → HasNothing q.actor r entry → IsOpened (history ++ entry ∷ []) r q
IsOpened-still history r q entry h nothing =
    let none : q.filled ++ [] ≡ q.filled = append-nil q.filled in
    coe 0 1 (i. IsOpened (history ++ entry ∷ []) r (record q { filled = none i }))
    (IsOpened-longer history r q entry h nothing.0 [] nothing.1 (omega (arith, h.fits, ap (λ (bytes : List ℕ). length bytes) none)))

-- a fill does not end the reservation, and its bytes are those that were given
module _ (s : State) (actor : ℕ) (e : Event) (r : ℕ) (o : Outcome) (h : IsFilled s actor e r o) where
  pub fill-goes_on : (owner : ℕ) → ends owner r (entry_of actor e o) ≡ false
  fill-goes_on owner = and_right (actor == owner) (ends_place r e o.reply) (λ i. ends_place r (h.is_event i) (h.is_reply i))

  pub fill-bytes : bytes_of_entry h.reservation.actor r (entry_of actor e o) ≡ h.bytes
  fill-bytes = (λ i. bytes_of_entry h.reservation.actor r (record { actor = actor; event = h.is_event i; reply = h.is_reply i }))
      ∙ filled-bytes actor h.reservation.actor r (left_of (with_bytes h.bytes h.reservation)) h.bytes h.own

module _ (history : List Entry) (s : State) (all : AreOpened history s) (actor : ℕ) (e : Event) where
  pub AreOpened-next : AreOpened (history ++ entry_of actor e (next s actor e) ∷ []) (next s actor e).state
  AreOpened-next r q at = by_effect (Effect-next s actor r e)
    where
      by_effect : Effect s actor e r (next s actor e) → IsOpened (history ++ entry_of actor e (next s actor e) ∷ []) r q
      by_effect (kept h) =
          let was : reservation_at s r ≡ Some q = sym h.same ∙ at in
          IsOpened-still history r q (entry_of actor e (next s actor e)) (all r q was) (h.nothing q was)
      by_effect (made h) =
          let is : new_reservation actor h.info h.place ≡ q = same_Some _ q (sym h.at ∙ at) in
          subst (λ (x : Reservation). IsOpened (history ++ entry_of actor e (next s actor e) ∷ []) r x) is (record {
            front = history;
            evicted = h.evicted;
            between = [];
            is_entries = λ i. history ++ record { actor = actor; event = h.is_event i; reply = h.is_reply i } ∷ [];
            not_ended = All-nil (λ (x : Entry). ends actor r x ≡ false);
            filled = refl;
            fits = omega arith;
          })
      by_effect (filled h) =
          let is : with_bytes h.bytes h.reservation ≡ q = same_Some _ q (sym h.at ∙ at) in
          let was = all r h.reservation h.was in
          subst (λ (x : Reservation). IsOpened (history ++ entry_of actor e (next s actor e) ∷ []) r x) is
          (IsOpened-longer history r h.reservation (entry_of actor e (next s actor e)) was
          (fill-goes_on s actor e r (next s actor e) h h.reservation.actor) h.bytes (fill-bytes s actor e r (next s actor e) h)
          (omega (arith, was.fits, h.fits, length-append h.reservation.filled h.bytes)))
      by_effect (ended h) = absurd (none-some q (sym h.at ∙ at))

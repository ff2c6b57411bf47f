-- What a call of a book leads to, by the definition of the queue.
use Rattle.std.specs.Prelude.{◌≡◌, ◌<◌, ◌≤◌, ℕ, Some}
use Rattle.std.specs.List.{Contains}
use Rattle.ldm_model.specs.declared.event.Reply.{Reply}
use Rattle.ldm_model.specs.Outcome.{Outcome}
use Rattle.ldm_book.specs.View.{BookView, Kept, KeptReservation, filled_bytes, stored_bytes}
use Rattle.ldm_book.specs.Products.{reservation_at}
use Rattle.ldm_book.specs.Stands.{StandsFor}

-- the reply of the queue and the state that follows, for a book
pub record Follows (answer : Reply) (new : BookView) (outcome : Outcome) : Type 0 where
  pub reply : answer ≡ outcome.reply
  pub state : StandsFor new outcome.state

-- a product was queued before as it is now, at its place, and there its bytes are what they were
pub record Stays (old new : BookView) (k : Kept) : Type 0 where
  pub queued : Contains old.rows k
  pub bytes : stored_bytes new.bytes k ≡ stored_bytes old.bytes k

-- each product that was queued before, and is still queued, stays
abbrev pub KeepsPlaces : BookView → BookView → Type 0
KeepsPlaces old new = (k : Kept) → Contains new.rows k → k.number < old.admitted → Stays old new k

-- A reservation that was open before stays: it has the same actor and the same product, and no byte that was filled in is lost
-- or changed.
pub record StaysReserved (old new : BookView) (before after : KeptReservation) : Type 0 where
  pub actor : after.actor ≡ before.actor
  pub product : after.product ≡ before.product
  pub filled : before.filled ≤ after.filled
  pub bytes : filled_bytes new.bytes before ≡ filled_bytes old.bytes before

-- so it is for each place that has a reservation before and after
abbrev pub KeepsReserved : BookView → BookView → Type 0
KeepsReserved old new = (r : ℕ) (before after : KeptReservation) → reservation_at old.reservations r ≡ Some before → reservation_at new.reservations r ≡ Some after → StaysReserved old new before after

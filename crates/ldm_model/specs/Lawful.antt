-- What is true of every history of a queue, whoever made its calls.
use Rattle.std.specs.Prelude.{◌≡◌, ◌⊎◌, ℕ, ◌<◌, ◌≤◌, List, [], ◌∷◌, ◌++◌, length, false, Some, None}
use Rattle.std.specs.List.{Contains}
use Rattle.ldm_types.specs.Info.{Metadata}
use Rattle.ldm_types.specs.declared.limits.TheConstants.{GREATEST_INSTANT}
use Rattle.ldm_model.specs.declared.event.Event.TheVariants.{Insert, Commit}
use Rattle.ldm_model.specs.declared.event.Reply.{Reply}
use Rattle.ldm_model.specs.declared.event.Reply.TheVariants.{Admitted, TooBig, Duplicate, TimeEnd, Locked, Committed}
use Rattle.ldm_model.specs.declared.event.Entry.{Entry}
use Rattle.ldm_model.specs.Product.{Product, extent_of}
use Rattle.ldm_model.specs.State.{State, Queued, Reservation, last_time, queued}
use Rattle.ldm_model.specs.Room.{has_room}
use Rattle.ldm_model.specs.Evict.{unheld, evict_all}
use Rattle.ldm_model.specs.Reservation.{reservation_at, with_reservation}
use Rattle.ldm_model.specs.History.{IsLegal, after}
use Rattle.ldm_model.specs.Law.{ObeysLaw}
use Rattle.ldm_model.specs.Filling.{ObeysFilling}

-- The product of that number is queued, and has that signature.
pub record IsQueuedAs (s : State) (n : ℕ) (signature : List ℕ) : Type 0 where
  pub row : Queued
  pub among : Contains (queued s) row
  pub number : row.number ≡ n
  pub same_signature : row.product.info.signature ≡ signature

-- The last insertion time is the greatest instant, so there is none behind it.
pub record IsOutOfTimes (s : State) : Type 0 where
  pub last : ℕ
  pub is_last : last_time s ≡ Some last
  pub none_later : GREATEST_INSTANT ≤ last

-- Why an insertion of a product is refused.
abbrev pub IsRefusedFor : State → Product → Reply → Type 0
-- it is larger than the arena
IsRefusedFor s p (TooBig need arena) = (need ≡ extent_of p.info) × (arena ≡ s.arena) × (arena < need)
-- a product with its signature is still queued
IsRefusedFor s p (Duplicate n) = IsQueuedAs s n p.info.signature
IsRefusedFor s p TimeEnd = IsOutOfTimes s
-- there would be no room for it beside what is held, were every product evicted that nobody holds
IsRefusedFor s p (Locked held) = has_room (evict_all s (unheld s)) (extent_of p.info) ≡ false
IsRefusedFor s p _ = ⊥

-- what an insertion of a product is answered in a state, and the state that it leaves
abbrev pub IsAdmittedOrRefused : State → Product → Reply → State → Type 0
IsAdmittedOrRefused s p reply new =
    ((n time evicted : ℕ) × (reply ≡ Admitted n time evicted)) ⊎ (IsRefusedFor s p reply × (new ≡ s))

-- The actor has that reservation open at the place, and its body is whole.
pub record IsWholeAt (s : State) (actor r : ℕ) (reservation : Reservation) : Type 0 where
  pub is_open : reservation_at s r ≡ Some reservation
  pub own : reservation.actor ≡ actor
  pub whole : length reservation.filled ≡ reservation.info.size

-- Why a commit of a whole reservation is refused. It has its room, so it is never larger than the arena, and never locked.
abbrev pub IsCommitRefusedFor : State → Metadata → Reply → Type 0
-- a product with its signature is still queued
IsCommitRefusedFor s info (Duplicate n) = IsQueuedAs s n info.signature
IsCommitRefusedFor s info TimeEnd = IsOutOfTimes s
IsCommitRefusedFor s info _ = ⊥

-- what a commit of a whole reservation is answered in a state, and the state that it leaves: a refusal empties its place, and
-- changes nothing else
abbrev pub IsCommittedOrRefused : State → ℕ → Metadata → Reply → State → Type 0
IsCommittedOrRefused s r info reply new =
    ((n time : ℕ) × (reply ≡ Committed n time)) ⊎ (IsCommitRefusedFor s info reply × (new ≡ with_reservation s r None))

-- The law of insertions. A product comes in by one call, or by the commit of a reservation that was filled in.
pub record ObeysInsertions (arena slots : ℕ) (history : List Entry) : Type 0 where
  -- each insertion is admitted, or it is refused for one of four causes, and then changes nothing
  pub inserted : (front : List Entry) (entry : Entry) (behind : List Entry) → front ++ entry ∷ behind ≡ history
      → (now : ℕ) (info : Metadata) (body : List ℕ) → entry.event ≡ Insert now info body
      → IsAdmittedOrRefused (after arena slots front) (record { info = info; body = body }) entry.reply (after arena slots (front ++ entry ∷ []))
  -- each commit of a whole reservation by its owner is admitted, or it is refused for one of two causes, and then just the
  -- reservation ends
  pub committed : (front : List Entry) (entry : Entry) (behind : List Entry) → front ++ entry ∷ behind ≡ history
      → (r now : ℕ) (reservation : Reservation) → entry.event ≡ Commit r now → IsWholeAt (after arena slots front) entry.actor r reservation
      → IsCommittedOrRefused (after arena slots front) r reservation.info entry.reply (after arena slots (front ++ entry ∷ []))

-- The law of the queue, of a history of its calls.
pub record IsLawful (arena slots : ℕ) (history : List Entry) : Type 0 where
  -- each call can be made, and has the reply of the queue
  pub legal : IsLegal arena slots history
  -- each reader is given the queued products of its feeds whole, in insertion order and each once, and is told exactly how many
  -- were evicted unread before anything later is given
  pub readers : ObeysLaw arena slots history
  -- a reservation keeps its region and what is filled in, and a commit admits that
  pub reservations : ObeysFilling arena slots history
  -- an insertion is refused only as a duplicate still queued, larger than the arena, locked by held regions, or out of
  -- insertion times, and then changes nothing; a commit of a whole reservation only as a duplicate still queued or out of
  -- insertion times, and then just the reservation ends
  pub insertions : ObeysInsertions arena slots history

-- The law of reservations: from the entry that reserves a region to the one that ends the reservation.
use Rattle.std.specs.Prelude.{◌≡◌, ◌≢◌, ℕ, ◌+◌, ◌<◌, ◌≤◌, ◌==◌, Bool, false, true, ◌&&◌, List, [], ◌∷◌, ◌++◌, length, All, IfSome, Option, Some, None, slice_get}
use Rattle.ldm_types.specs.Info.{Metadata}
use Rattle.ldm_types.specs.Arena.{AreApart}
use Rattle.ldm_model.specs.declared.event.Event.{Event}
use Rattle.ldm_model.specs.declared.event.Event.TheVariants.{Reserve, Fill, Commit, Discard}
use Rattle.ldm_model.specs.declared.event.Reply.TheVariants as reply
use Rattle.ldm_model.specs.declared.event.Entry.{Entry}
use Rattle.ldm_model.specs.Product.{extent_of}
use Rattle.ldm_model.specs.State.{State, queued, region_of, reserved_region}
use Rattle.ldm_model.specs.Reservation.{reservation_at, new_reservation}
use Rattle.ldm_model.specs.History.{after, next_entry}
use Rattle.ldm_model.specs.Filled.{bytes_filled, ends}

-- A point of a reservation: the entries before it was made, the entry that made it, and those since then, of all actors.
pub record Filling : Type 0 where
  pub arena : ℕ
  pub slots : ℕ
  pub before : List Entry
  -- whose it is, for which metadata, its place, and how many products were evicted for it
  pub owner : ℕ
  pub info : Metadata
  pub r : ℕ
  pub evicted : ℕ
  pub since : List Entry

-- the entry that made the reservation
abbrev pub reserving : Filling → Entry
reserving f = record { actor = f.owner; event = Reserve f.info; reply = reply.Reserved f.r f.evicted }

-- the history up to the point
abbrev pub filling_history : Filling → List Entry
filling_history f = f.before ++ reserving f ∷ f.since

-- the state right after the reservation was made, and at the point
abbrev pub state_reserved : Filling → State
state_reserved f = after f.arena f.slots (f.before ++ reserving f ∷ [])

abbrev pub state_filling : Filling → State
state_filling f = after f.arena f.slots (filling_history f)

-- the body so far: what the owner's calls filled in, joined in order
abbrev pub body_so_far : Filling → List ℕ
body_so_far f = bytes_filled f.owner f.r f.since

-- A point of a reservation in a history: its entries are a front of the history, and none since ended the reservation.
pub record IsFillingOf (arena slots : ℕ) (history : List Entry) (f : Filling) : Type 0 where
  pub same_arena : f.arena ≡ arena
  pub same_slots : f.slots ≡ slots
  pub rest : List Entry
  pub front : filling_history f ++ rest ≡ history
  pub not_ended : All (λ entry. ends f.owner f.r entry ≡ false) f.since

-- the reservation place that an event is about, if it is about one
abbrev pub place_filled : Event → Option ℕ
place_filled (Fill r bytes) = Some r
place_filled (Commit r now) = Some r
place_filled (Discard r) = Some r
place_filled _ = None

abbrev pub is_that : ℕ → Option ℕ → Bool
is_that r None = false
is_that r (Some q) = q == r

-- whether an entry is the owner's, and about its reservation
abbrev pub is_filling : Filling → Entry → Bool
is_filling f entry = entry.actor == f.owner && is_that f.r (place_filled entry.event)

-- What is true at every point of a reservation, of the place where it was made.
pub record IsReserved (f : Filling) : Type 0 where
  pub place : ℕ
  pub made : reservation_at (state_reserved f) f.r ≡ Some (new_reservation f.owner f.info place)
  -- it is open, and has the bytes that its owner filled in
  pub is_open : reservation_at (state_filling f) f.r ≡ Some (record { actor = f.owner; info = f.info; place = place; filled = body_so_far f })
  -- no more than the size of the body
  pub fits : length (body_so_far f) ≤ f.info.size
  -- its region lies within the arena, and no row and no other reservation shares a position with it
  pub within : place + extent_of f.info ≤ f.arena
  pub beside_rows : All (λ q. AreApart (record { start = place; extent = extent_of f.info }) (region_of q)) (queued (state_filling f))
  pub beside_others : (q : ℕ) → q ≢ f.r → IfSome (reservation_at (state_filling f) q) (λ other. AreApart (record { start = place; extent = extent_of f.info }) (reserved_region other))

-- A commit admits the metadata that were reserved, with the bytes that were filled in, at the place of the reservation.
pub record CommitsFilled (f : Filling) (entry : Entry) (n time : ℕ) : Type 0 where
  pub whole : length (body_so_far f) ≡ f.info.size
  pub place : ℕ
  pub made : reservation_at (state_reserved f) f.r ≡ Some (new_reservation f.owner f.info place)
  pub row : slice_get (next_entry (state_filling f) entry).state.rows n
      ≡ Some (record { product = record { info = f.info; body = body_so_far f }; time = time; place = Some place })

-- So many bytes of the body are left, and a call was to fill in more.
pub record IsOverfill (f : Filling) (event : Event) (left : ℕ) : Type 0 where
  pub is_left : left + length (body_so_far f) ≡ f.info.size
  pub bytes : List ℕ
  pub is_fill : event ≡ Fill f.r bytes
  pub too_many : left < length bytes

-- So many bytes of the body are left, and at least one.
pub record IsUnfilled (f : Filling) (left : ℕ) : Type 0 where
  pub is_left : left + length (body_so_far f) ≡ f.info.size
  pub some : 0 < left

-- What the owner is answered on its reservation.
pub record IsFillingAnswered (f : Filling) (entry : Entry) : Type 0 where
  pub has_reservation : entry.reply ≢ reply.NoReservation
  pub filled : (left : ℕ) → entry.reply ≡ reply.Filled left → left + length (bytes_filled f.owner f.r (f.since ++ entry ∷ [])) ≡ f.info.size
  pub overfill : (left : ℕ) → entry.reply ≡ reply.Overfill left → IsOverfill f entry.event left
  pub unfilled : (left : ℕ) → entry.reply ≡ reply.Unfilled left → IsUnfilled f left
  pub committed : (n time : ℕ) → entry.reply ≡ reply.Committed n time → CommitsFilled f entry n time

-- The law of a history: every reservation is kept so at every point, and its owner answered so at each call on it.
pub record ObeysFilling (arena slots : ℕ) (history : List Entry) : Type 0 where
  pub reserved : (f : Filling) → IsFillingOf arena slots history f → IsReserved f
  pub answered : (f : Filling) (at : IsFillingOf arena slots history f) (entry : Entry) (later : List Entry) → at.rest ≡ entry ∷ later → is_filling f entry ≡ true → IsFillingAnswered f entry

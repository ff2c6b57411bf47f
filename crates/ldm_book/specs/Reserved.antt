-- What is kept of the reservation places, each of which has a slot.
use Rattle.std.specs.Prelude.{◌≡◌, ℕ, List, [], ◌∷◌, length, map, is_none, position, slice_index_or, Option, Some, None}
use Rattle.std.specs.Option.{option_map}
use Rattle.ldm_timeindex.specs.Times.{Queued}
use Rattle.ldm_model.specs.declared.numbers.TheConstants.ReserveNo.{COUNT}
use Rattle.ldm_book.specs.declared.reservations.Place.{Place}
use Rattle.ldm_book.specs.View.{Kept, KeptReservation, Reservations}
use Rattle.ldm_book.specs.RowKept.{kept_row}

-- an open reservation: whose it is, its slot, the product that it is for, and how many bytes of the body were filled in
pub record KeptPlace : Type 0 where
  pub actor : ℕ
  pub slot : ℕ
  pub product : Kept
  pub filled : ℕ

abbrev pub KeptPlaces : Type 0
KeptPlaces = List (Option KeptPlace)

abbrev pub kept_place : Place → KeptPlace
kept_place place = record { actor = place.actor; slot = place.slot; product = kept_row place.row; filled = place.filled }

abbrev pub kept_places : List (Option Place) → KeptPlaces
kept_places places = map (option_map kept_place) places

-- the reservation of a place, if it is open
abbrev pub place_at : KeptPlaces → ℕ → Option KeptPlace
place_at places r = slice_index_or places r None

-- what contracts see of it
abbrev pub reservation_of : KeptPlace → KeptReservation
reservation_of place = record { actor = place.actor; product = place.product; filled = place.filled }

abbrev pub reservations_of : KeptPlaces → Reservations
reservations_of places = map (option_map reservation_of) places

-- the least place that is empty, if one is
abbrev pub least_empty : KeptPlaces → Option ℕ
least_empty places = position is_none places

-- the open ones, in order
abbrev pub open_places : KeptPlaces → List KeptPlace
open_places [] = []
open_places (None ∷ places) = open_places places
open_places (Some place ∷ places) = place ∷ open_places places

-- 1 for an open place, 0 for an empty one
abbrev pub count_one : Option KeptPlace → ℕ
count_one None = 0
count_one (Some place) = 1

-- there are as many places as reservation numbers, and so many of them are open
pub record AreCounted (places : KeptPlaces) (opened : ℕ) : Type 0 where
  pub many : length places ≡ COUNT
  pub counted : opened ≡ length (open_places places)

-- their products, as entries of slots: each has number 0 and time 0
abbrev pub place_entries : KeptPlaces → List Queued
place_entries [] = []
place_entries (None ∷ places) = place_entries places
place_entries (Some place ∷ places) = record { n = 0; time = 0; slot = place.slot } ∷ place_entries places

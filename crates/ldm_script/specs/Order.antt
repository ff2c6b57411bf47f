-- What a line asks for.
use Rattle.std.specs.Prelude.{ℕ}
use Rattle.ldm_model.specs.declared.event.Event.{Event}
use Rattle.ldm_script.specs.declared.order.Place.{Place}
use Rattle.ldm_script.specs.declared.order.ReservePlace.{ReservePlace}

-- an event; or an event on a cursor or on a reservation, by the number of its place
pub data Asked : Type 0 where
  Plain : (event : Event) → Asked
  OnCursor : (place : Place) → (event : ℕ → Event) → Asked
  OnReservation : (place : ReservePlace) → (event : ℕ → Event) → Asked

pub record Order : Type 0 where
  pub actor : ℕ
  pub asked : Asked

-- Room is found on eights, since all products and reservations lie on eights.
use Rattle.std.proofs.Common.{◌≡◌, ℕ, ◌%◌, ◌<◌, Bool, true, false, cond, ltb, map, List, [], ◌∷◌, Some, None, refl, arith}
use Rattle.std.specs.List.{AllByRecursion}
use Rattle.ldm_types.specs.Arena.{fit}
use Rattle.ldm_model.proofs.Fitting.{IsOnEights, fit-spot, spot-eights}
use Rattle.ldm_book.specs.View.{Kept, KeptReservation, Reservations, open_kept}
use Rattle.ldm_book.specs.Products.{ProductsView, occupied_by, occupied_in, reserved_region, room_for, taken_in}
use Rattle.ldm_book.specs.Stored.{AreReserved, HaveMetadata, IsReserved}

-- products and reservations lie on eights
reserved_eights : (bytes : List ℕ) (vs : List KeptReservation) → AllByRecursion (IsReserved bytes) vs → AllByRecursion IsOnEights (map reserved_region vs)
reserved_eights bytes [] are = tt
reserved_eights bytes (v ∷ vs) are = ((are.0.metadata.placed, omega arith), reserved_eights bytes vs are.1)

pub occupied_eights : (bytes : List ℕ) (rows : List Kept) (reservations : Reservations) → HaveMetadata bytes rows → AreReserved bytes reservations
    → AllByRecursion IsOnEights (occupied_by rows reservations)
occupied_eights bytes [] reservations have are = reserved_eights bytes (open_kept reservations) are
occupied_eights bytes (k ∷ ks) reservations have are = ((have.0.placed, omega arith), occupied_eights bytes ks reservations have.1 are)

-- and so does the room that is found beside them
pub room_eights : (p : ProductsView) (bytes : List ℕ) (need at : ℕ) → 0 < need → HaveMetadata bytes p.rows → AreReserved bytes p.reservations → room_for p need ≡ Some at → at % 8 ≡ 0
room_eights p bytes need at some have are found = by_free (ltb (taken_in p) p.slots) found
  where
    by_free : (b : Bool) → cond b (fit need (occupied_in p) p.arena) None ≡ Some at → at % 8 ≡ 0
    by_free true e = spot-eights (occupied_in p) p.arena need at some (occupied_eights bytes p.rows p.reservations have are) (fit-spot (occupied_in p) p.arena need at e)
    by_free false e = absurd cc

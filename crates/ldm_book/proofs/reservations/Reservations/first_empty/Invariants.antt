use Rattle.std.proofs.Common.{◌≡◌, ◌<◌, ℕ, false}
use Rattle.std.specs.Prelude.{is_none}
use Rattle.ldm_book.specs.Reserved.{kept_places, place_at}
use Rattle.ldm_book.proofs.reservations.Reservations.first_empty.Given as goal

-- the places so far are open
abbrev pub invariant-loop-r : goal.invariant-loop-r
invariant-loop-r l = (k : ℕ) → k < l.r → is_none (place_at (kept_places l.self-inside.places.items) k) ≡ false

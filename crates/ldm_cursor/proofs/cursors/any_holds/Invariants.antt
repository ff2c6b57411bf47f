use Rattle.std.proofs.Common.{◌≡◌, drop}
use Rattle.ldm_cursor.specs.Kept.{places_of}
use Rattle.ldm_cursor.specs.Places.{is_held}
use Rattle.ldm_cursor.proofs.cursors.any_holds.Given as goal

abbrev pub invariant-loop-place : goal.invariant-loop-place
invariant-loop-place l = is_held l.n (places_of (drop l.place-index l.places)) ≡ is_held l.n (places_of l.places)

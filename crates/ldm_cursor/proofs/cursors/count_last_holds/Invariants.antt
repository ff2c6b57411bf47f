use Rattle.std.proofs.Common.{◌≡◌, ◌+◌, ◌≤◌, drop}
use Rattle.ldm_cursor.specs.Kept.{places_of}
use Rattle.ldm_cursor.specs.Places.{count_held}
use Rattle.ldm_cursor.proofs.cursors.count_last_holds.Given as goal

abbrev pub invariant-loop-k : goal.invariant-loop-k
invariant-loop-k l = record { counted : l.count + count_held (places_of (drop l.k l.places)) ≡ count_held (places_of l.places); few : l.count ≤ l.k }

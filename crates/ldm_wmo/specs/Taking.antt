-- What a call that takes bytes leaves.
use Rattle.std.specs.Prelude.{◌≡◌, ℕ, ◌+◌, ◌≤◌, List, length, drop}
use Rattle.ldm_wmo.specs.Scanning.{Scanning, after, bytes_taken, place}

-- so many bytes of a piece are taken, and the others remain to be taken
pub record TakesFront (old : Scanning) (piece : List ℕ) (n : ℕ) (new : Scanning) : Type 0 where
  pub within : n ≤ length piece
  pub rest : after old piece ≡ after new (drop n piece)
  pub count : bytes_taken old piece ≡ n + bytes_taken new (drop n piece)

-- so many bytes further on
abbrev pub advanced : Scanning → ℕ → Scanning
advanced s n = record s { place = place (s.place + n) }

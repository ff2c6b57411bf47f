-- How a candidate goes on in a piece.
use Rattle.std.specs.Prelude.{◌≡◌, ◌≢◌, ℕ, ◌+◌, ◌<◌, true, List, length, take, slice_index, ◌==◌, ◌||◌}
use Rattle.ldm_wmo.specs.declared.course.Course.{Course}
use Rattle.ldm_wmo.specs.declared.course.Course.TheVariants.{Open, EndsBefore, EndsWith}
use Rattle.ldm_wmo.specs.Bulletins.{has_no_mark}

-- the bytes before that place are of a candidate that has room for more, and it is open behind them
pub record GoesTo (piece : List ℕ) (most at : ℕ) : Type 0 where
  pub within : at < length piece
  pub room : at < most
  pub no_mark : has_no_mark (take at piece) ≡ true

-- how a candidate goes on that has room for so many more bytes
abbrev pub IsCourse : List ℕ → ℕ → Course → Type 0
IsCourse piece room Open = (length piece < room) × (has_no_mark piece ≡ true)
IsCourse piece room (EndsBefore at) = GoesTo piece room at × (slice_index piece at ≡ 1)
IsCourse piece room (EndsWith at) =
    GoesTo piece room at × (slice_index piece at ≢ 1) × ((slice_index piece at == 3 || at + 1 == room) ≡ true)

-- What is found in a stream: bulletins, and candidates that are none.
use Rattle.std.specs.Prelude.{◌≡◌, ℕ, ◌≤◌, true, if◌then◌else◌, List, length, Option, Some, None}
use Rattle.ldm_wmo.specs.declared.kind.Kind.{Kind}
use Rattle.ldm_wmo.specs.declared.kind.Kind.TheVariants.{Alphanumeric}
use Rattle.ldm_wmo.specs.declared.stage.TheConstants.{LARGEST_BULLETIN}
use Rattle.ldm_wmo.specs.Bulletins.{Reading, bulletin_of}
use Rattle.ldm_wmo.specs.Frames.{is_enclosed}
use Rattle.ldm_wmo.specs.Headings.{is_heading}

pub data Found : Type 0 where
  -- a bulletin: where it begins, its number, its heading, and all its bytes
  Bulletin : (at seqno : ℕ) → (heading bytes : List ℕ) → Found
  -- a candidate that is none: where it begins
  Bad : (at : ℕ) → Found

abbrev pub found_as : ℕ → List ℕ → Option Reading → Found
found_as at bytes None = Bad at
found_as at bytes (Some read) = Bulletin at read.seqno read.heading bytes

-- what a message of that kind is whose frame begins there and that has these bytes
abbrev pub message_at : ℕ → Kind → List ℕ → Found
message_at at kind bytes = found_as at bytes (bulletin_of kind bytes)

-- the same of bytes that may be none, since the length of the frame does not fit
abbrev pub enclosed_at : ℕ → Kind → List ℕ → Found
enclosed_at at kind bytes = if is_enclosed bytes then message_at at kind bytes else Bad at

-- what a candidate is that begins there and has these bytes
abbrev pub found_at : ℕ → List ℕ → Found
found_at at bytes = message_at at Alphanumeric bytes

-- a bulletin's heading is one, and it has no more bytes than a bulletin may have
abbrev pub IsSound : Found → Type 0
IsSound (Bulletin at seqno heading bytes) = (is_heading heading ≡ true) × (length bytes ≤ LARGEST_BULLETIN)
IsSound (Bad at) = Unit {0}

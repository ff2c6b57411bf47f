-- What contracts see of a content of which a front may be all that is kept.
use Rattle.std.specs.Prelude.{◌≡◌, ◌⊎◌, ℕ, ◌<◌, ◌≤◌, Bool, false, List, length, take, max}
use Rattle.std.specs.Vec.{vec_capacity}
use Rattle.ldm_rpc.specs.declared.kept.Kept.TheInside.{Inside}
use Rattle.ldm_rpc.specs.declared.kept.TheConstants.{LEAST_FRONT}

pub record KeptView : Type 0 where
  -- all its bytes so far
  pub content : List ℕ
  -- how many of them are kept, at the front
  pub kept : ℕ
  -- whether bytes behind a front are kept no more
  pub only_front : Bool
  -- how many bytes the memory for those that are kept takes
  pub memory : ℕ

abbrev pub kept_of : Inside → KeptView
kept_of k = record {
  content = k.came.bytes;
  kept = k.filled;
  only_front = k.only_front;
  memory = vec_capacity k.bytes;
}

-- Those that are kept are a front of all, and stand in the buffer. Where these are more, the front is not short, and no
-- more is kept than it.
pub record IsFrontKept (k : Inside) : Type 0 where
  pub room : k.filled ≤ length k.bytes.items
  pub front : take k.filled k.bytes.items ≡ take k.filled k.came.bytes
  pub enough : k.filled < length k.came.bytes → LEAST_FRONT ≤ k.filled
  pub all : k.only_front ≡ false → k.filled ≡ length k.came.bytes
  pub len : k.len ≡ length k.came.bytes

-- Bytes are kept up to the least front, and behind that no more. The memory is that for these.
pub record IsBounded (old new : KeptView) : Type 0 where
  pub kept : new.kept ≤ max old.kept LEAST_FRONT
  pub memory : LEAST_FRONT ≤ old.kept → new.memory ≡ old.memory

-- bytes of which all are kept, or a front that is not short
pub record IsFrontOf (content kept : List ℕ) : Type 0 where
  pub front : kept ≡ take (length kept) content
  pub enough : (kept ≡ content) ⊎ (LEAST_FRONT ≤ length kept)

-- What was heard of the replies, between two moments, and at an end.
use Rattle.std.specs.Prelude.{◌≡◌, ℕ, List, [], ◌++◌, length}
use Rattle.ldm_rpc.specs.Streams.{Placed}
use Rattle.ldm_session.specs.declared.replies.Replies.{Replies}
use Rattle.ldm_session.specs.Hearing.{Heard}
use Rattle.ldm_session.specs.Owed.{Code, IsNoReply, Said, place_told}
use Rattle.ldm_sender.specs.declared.end.SendEnd.{SendEnd}
use Rattle.ldm_sender.specs.declared.end.SendEnd.TheVariants as end

-- The reader went on by these bytes and these replies.
abbrev pub HearsOn : (came : List ℕ) → (codes : List Code) → (old new : Replies) → Type 0
HearsOn came codes old new =
    (given : List ℕ) (earlier : List Code) → Heard given earlier old → Heard (given ++ came) (earlier ++ codes) new

-- what stands behind the replies at an end, of all that the link gave; `next` is the number of the announcement that
-- was not answered
abbrev pub IsBehind : SendEnd → ℕ → List ℕ → List Placed → Type 0
IsBehind (end.PeerEnd at) next given behind = (at ≡ place_told (length given)) × (behind ≡ [])
IsBehind (end.BadReply at) next given behind = IsNoReply next at given behind
IsBehind _ next given behind = Unit {0}

-- The first records that the link gave are these replies.
pub record SaysLast (why : SendEnd) (next : ℕ) (given : List ℕ) (codes : List Code) : Type 0 where
  pub behind : List Placed
  pub said : Said given codes behind
  pub is_behind : IsBehind why next given behind

-- The last replies that were heard, and these bytes behind what was given before.
abbrev pub HearsLast : SendEnd → ℕ → (came : List ℕ) → (codes : List Code) → Replies → Type 0
HearsLast why next came codes old = (given : List ℕ) (earlier : List Code) → Heard given earlier old
    → SaysLast why next (given ++ came) (earlier ++ codes)

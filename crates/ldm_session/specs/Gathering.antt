-- What becomes of bytes that are gathered for a link.
use Rattle.std.specs.Prelude.{◌≡◌, ℕ, List, ◌++◌, Result, Ok, Err}
use Rattle.ldm_outside.specs.declared.link.LinkFailed.{LinkFailed}
use Rattle.ldm_outside.specs.Link.{LinkRecord, Sent, Failing, after_sent}

-- A front of what was gathered was sent, and the rest is gathered still.
pub record MovesOn (gathered : List ℕ) (old : LinkRecord) (left : List ℕ) (new : LinkRecord) : Type 0 where
  pub sent : List ℕ
  pub all : gathered ≡ sent ++ left
  pub is_sent : Sent old sent new

-- the link failed, after a front of what was gathered was sent
pub record Breaks (gathered : List ℕ) (old new : LinkRecord) : Type 0 where
  pub sent : List ℕ
  pub left : List ℕ
  pub all : gathered ≡ sent ++ left
  pub failing : Failing (after_sent sent old) new

abbrev pub SendsSome : Result (Unit {0}) LinkFailed → List ℕ → LinkRecord → List ℕ → LinkRecord → Type 0
SendsSome (Ok done) gathered old left new = MovesOn gathered old left new
SendsSome (Err failed) gathered old left new = Breaks gathered old new

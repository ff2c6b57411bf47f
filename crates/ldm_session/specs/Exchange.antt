-- What passed on a link, and what a clock and a gate answered, from one moment to another, over any number of calls.
use Rattle.std.specs.Prelude.{◌≡◌, ℕ, List, [], ◌∷◌, ◌++◌, Option, Some, None}
use Rattle.std.specs.Option.{option_map}
use Rattle.ldm_outside.specs.declared.gate.Go.{Go}
use Rattle.ldm_outside.specs.declared.link.Passed.{Passed}
use Rattle.ldm_outside.specs.Clock.{ClockRecord}
use Rattle.ldm_outside.specs.Gate.{GateRecord, Idles}
use Rattle.ldm_outside.specs.Link.{LinkRecord, bytes_sent, bytes_given}
use Rattle.ldm_outside.specs.Told.{TellsMore}

-- What passed since then are these bytes one way and those the other, in whatever order.
pub record PassesMore (old new : List Passed) (sent given : List ℕ) : Type 0 where
  pub more : List Passed
  pub goes_on : new ≡ old ++ more
  pub sent_is : bytes_sent more ≡ sent
  pub given_is : bytes_given more ≡ given

-- the same of a link that tells what passed; one that does not goes on not to tell
abbrev pub TellsPassed : Option (List Passed) → Option (List Passed) → List ℕ → List ℕ → Type 0
TellsPassed (Some old) (Some new) sent given = PassesMore old new sent given
TellsPassed None None sent given = Unit {0}
TellsPassed (Some old) None sent given = ⊥
TellsPassed None (Some new) sent given = ⊥

-- A link was sent just these bytes, and gave just those from the front of what it had left.
pub record Exchanged (old : LinkRecord) (sent given : List ℕ) (new : LinkRecord) : Type 0 where
  pub passed : TellsPassed old.passed new.passed sent given
  pub left : old.left ≡ option_map (λ rest. given ++ rest) new.left

-- a clock answered these instants, in order
abbrev pub AnsweredAll : List ℕ → ClockRecord → ClockRecord → Type 0
AnsweredAll instants old new = TellsMore (λ before. before ++ instants) old.answers new.answers

-- a gate answered these, in order, to idle calls
abbrev pub IdledAll : List Go → GateRecord → GateRecord → Type 0
IdledAll [] old new = new ≡ old
IdledAll (go ∷ goes) old new = (mid : GateRecord) × Idles go old mid × IdledAll goes mid new

-- What takes products, one at a time: what it does with one, and with one behind the other.
use Rattle.std.specs.Prelude.{◌≡◌, ◌⊎◌, ℕ, List, [], ◌∷◌, length}
use Rattle.ldm_shared.specs.declared.steps.TheConstants.{MOST_TURNS}
use Rattle.ldm_shared.specs.Passes.{PassView}
use Rattle.ldm_shared.specs.declared.reader.Held.{Held}
use Rattle.ldm_gather.specs.declared.taker.Taken.{Taken}
use Rattle.ldm_gather.specs.declared.taker.Taken.TheVariants as taken
use Rattle.ldm_gather.specs.declared.taker.EachStop.{EachStop}
use Rattle.ldm_gather.specs.declared.taker.EachStop.TheVariants.{ByTaker, LogFault, Worn}
use Rattle.ldm_shared.specs.Givens.{Gave, Given, Lost, Turn}

-- A taker, and what it is lent.
pub record Hands (T A : Type 0) : Type 0 where
  pub taker : T
  pub lent : A

abbrev pub hands_of : {T A : Type 0} → T → A → Hands T A
hands_of taker lent = record { taker = taker; lent = lent }

-- what the cursor was given, with its body
abbrev pub given_of : Held → List ℕ → Given
given_of held body = record { n = held.n; time = held.time; product = record { info = held.info; body = body } }

-- a fact where the taker goes on
abbrev pub IfTaken : Taken → Type 0 → Type 0
IfTaken taken.On P = P
IfTaken taken.Stopped P = Unit {0}
IfTaken taken.Worn P = Unit {0}

-- where it was stopped by that, the queue has had all its calls
abbrev pub IsTakenWorn : Taken → PassView → Type 0
IsTakenWorn taken.Worn pass = length pass.seen ≡ MOST_TURNS
IsTakenWorn taken.On pass = Unit {0}
IsTakenWorn taken.Stopped pass = Unit {0}

module _ {T A : Type 0} (takes : Taken → Given → Hands T A → Hands T A → Type 0) where
  -- these products were taken, one behind the other
  abbrev pub TakesAll : List Given → Hands T A → Hands T A → Type 0
  TakesAll [] old new = new ≡ old
  TakesAll (given ∷ givens) old new = (mid : Hands T A) × takes taken.On given old mid × TakesAll givens mid new

  -- What became of the turn in hand, where it stopped, if there was one: the taker stopped at its product; or its line could not be written;
  -- or the queue has had all its calls, and its product could not be let go or not be taken, or no step could be made.
  abbrev pub TakesLast : EachStop → List Turn → Hands T A → Hands T A → Type 0
  TakesLast ByTaker (Gave given ∷ []) old new = takes taken.Stopped given old new
  TakesLast LogFault (Lost count first last ∷ []) old new = new ≡ old
  TakesLast Worn [] old new = new ≡ old
  TakesLast Worn (Gave given ∷ []) old new = takes taken.On given old new ⊎ takes taken.Worn given old new
  TakesLast _ _ old new = ⊥

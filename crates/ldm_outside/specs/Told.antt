-- What an object tells of itself, where it tells anything.
use Rattle.std.specs.Prelude.{◌≡◌, ◌⊎◌, Option, None}
use Rattle.std.specs.Option.{option_map}

module _ {A : Type 0} where
  -- One that tells, tells this more from now on, or there was no room for it, and it tells nothing any more. One that
  -- does not tell goes on not to tell.
  abbrev pub TellsMore : (A → A) → Option A → Option A → Type 0
  TellsMore more old new = (new ≡ option_map more old) ⊎ (new ≡ None)

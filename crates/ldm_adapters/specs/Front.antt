-- What a call of a reader or a writer moved.
use Rattle.std.specs.Prelude.{◌≡◌, ℕ, Bool, true, ◌<◌, ◌≤◌, List, length}
use Rattle.ldm_outside.specs.declared.io.Got.{Got}
use Rattle.ldm_outside.specs.declared.io.Got.TheVariants.{Bytes, End, Failed}
use Rattle.ldm_outside.specs.declared.io.Put.{Put}
use Rattle.ldm_outside.specs.declared.io.Put.TheVariants as put

-- bytes that came are at least one, and are not more than the buffer has room for
abbrev pub GivesFront : Got → List ℕ → Type 0
GivesFront (Bytes n) into = (0 < n) × (n ≤ length into)
GivesFront End into = Unit {0}
GivesFront Failed into = Unit {0}

-- bytes that were taken are not more than the piece has, and are at least one where it has one
abbrev pub TakesFront : Put → List ℕ → Type 0
TakesFront (put.Took n) piece = (n ≤ length piece) × (0 < length piece → 0 < n)
TakesFront put.Failed piece = Unit {0}

-- such a number of bytes
abbrev pub TakesSome : ℕ → List ℕ → Type 0
TakesSome n piece = (n ≤ length piece) × (0 < length piece → 0 < n)

-- the same, and only one that is piped takes any
abbrev pub TakesPiped : ℕ → Bool → List ℕ → Type 0
TakesPiped n piped piece = (piped ≡ true) × (n ≤ length piece) × (0 < length piece → 0 < n)

-- bytes that came of a place are not more than the buffer has room for, and at least one where it has any; there is an end
-- only for a buffer that has
abbrev pub GivesPlace : Got → List ℕ → Type 0
GivesPlace (Bytes n) into = (n ≤ length into) × (0 < length into → 0 < n)
GivesPlace End into = 0 < length into
GivesPlace Failed into = Unit {0}

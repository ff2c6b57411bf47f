-- Sets of feedtypes, as numbers whose bits are the members.
use Rattle.std.specs.Prelude.{◌≡◌, ℕ, Bool, nat_lt, bit_and}
use Rattle.std.specs.Int.{bit_at}

-- whether two sets share a feedtype
abbrev pub feeds_meet : ℕ → ℕ → Bool
feeds_meet a b = nat_lt 0 (bit_and a b)

-- some feedtype is in both
abbrev pub ShareBit : ℕ → ℕ → Type 0
ShareBit a b = (bit : ℕ) × (bit_at a bit ≡ 1) × (bit_at b bit ≡ 1)

-- The products of a queue in the order in which they came in.
use Rattle.std.specs.Prelude.{ℕ, ◌<◌, Bool, nat_le, nat_lt, List, [], ◌∷◌}
use Rattle.std.specs.List.{AllByRecursion}

-- a product: its number, the instant at which it came in, in microseconds, and the slot that it has
pub record Queued : Type 0 where
  pub n : ℕ
  pub time : ℕ
  pub slot : ℕ

-- how many products there is room for, and those that are in
pub record Times : Type 0 where
  pub slots : ℕ
  pub entries : List Queued

-- a product that came in before another has the smaller number and the earlier instant
abbrev pub Precedes : Queued → Queued → Type 0
Precedes one other = (one.n < other.n) × (one.time < other.time)

-- each product precedes all that stand behind it
abbrev pub IsRising : List Queued → Type 0
IsRising [] = Unit {0}
IsRising (entry ∷ entries) = AllByRecursion (Precedes entry) entries × IsRising entries

-- whether a product has that number or a greater one
abbrev pub at_number : ℕ → Queued → Bool
at_number n entry = nat_le n entry.n

-- whether a product came in later than that
abbrev pub behind_time : ℕ → Queued → Bool
behind_time time entry = nat_lt time entry.time

-- a product's number and its slot
abbrev pub number_and_slot : Queued → ℕ × ℕ
number_and_slot entry = (entry.n, entry.slot)

-- Sets of pairs of an extent and an offset, in the order of extents and, among equal ones, of offsets.
use Rattle.std.specs.Prelude.{◌≡◌, ◌≢◌, ℕ, ◌≤◌, true, false, List, [], ◌∷◌, if◌then◌else◌, Option, Some, None, refl}
use Rattle.std.specs.Coded.{Coded, code_by, coded×, coded_ℕ}
use Rattle.std.specs.FinSet as set
use Rattle.std.specs.Ordering.{nat_cmp, ordering_then, is_lt}
use Rattle.std.specs.declared.cmp.Ordering.{Ordering}
use Rattle.std.specs.declared.cmp.Ordering.TheVariants.{Less}

-- by extent, and then by offset
abbrev pub pair_cmp : ℕ × ℕ → ℕ × ℕ → Ordering
pair_cmp a b = ordering_then (nat_cmp a.0 b.0) (nat_cmp a.1 b.1)

-- how many pairs there is room for, and the pairs that are in
pub record Pairs : Type 0 where
  pub room : ℕ
  pub members : set.FinSet pair_cmp

-- stored as the two of them
abbrev pub pairs_code : Coded Pairs
pairs_code = code_by (ℕ × set.FinSet pair_cmp) (coded× coded_ℕ (set.code (coded× coded_ℕ coded_ℕ))) (λ p. (p.room, p.members)) (λ p. record { room = p.0; members = p.1 }) (λ _. refl)

-- a member whose extent is at least what is needed
abbrev pub IsLongEnough : ℕ → set.FinSet pair_cmp → ℕ × ℕ → Type 0
IsLongEnough need members pair = (set.contains members pair ≡ true) × (need ≤ pair.0)

-- a long enough member that no long enough member precedes, or none where there is no long enough member
abbrev pub IsBest : ℕ → set.FinSet pair_cmp → Option (ℕ × ℕ) → Type 0
IsBest need members None = (pair : ℕ × ℕ) → ¬ IsLongEnough need members pair
IsBest need members (Some best) =
    IsLongEnough need members best × ((pair : ℕ × ℕ) → IsLongEnough need members pair → pair_cmp pair best ≢ Less)

-- a member whose extent is at most a bound
abbrev pub IsShortEnough : ℕ → set.FinSet pair_cmp → ℕ × ℕ → Type 0
IsShortEnough most members pair = (set.contains members pair ≡ true) × (pair.0 ≤ most)

-- a short enough member that no short enough member follows, or none where there is no short enough member
abbrev pub IsLastTo : ℕ → set.FinSet pair_cmp → Option (ℕ × ℕ) → Type 0
IsLastTo most members None = (pair : ℕ × ℕ) → ¬ IsShortEnough most members pair
IsLastTo most members (Some last) =
    IsShortEnough most members last × ((pair : ℕ × ℕ) → IsShortEnough most members pair → pair_cmp last pair ≢ Less)

-- a member that no member follows, or none where there is no member
abbrev pub IsGreatest : set.FinSet pair_cmp → Option (ℕ × ℕ) → Type 0
IsGreatest members None = (pair : ℕ × ℕ) → set.contains members pair ≡ false
IsGreatest members (Some greatest) =
    (set.contains members greatest ≡ true) × ((pair : ℕ × ℕ) → set.contains members pair ≡ true → pair_cmp greatest pair ≢ Less)

-- the first pair of a list that does not precede a bound
abbrev pub first_from_bound : ℕ × ℕ → List (ℕ × ℕ) → Option (ℕ × ℕ)
first_from_bound bound [] = None
first_from_bound bound (pair ∷ pairs) = if is_lt (pair_cmp pair bound) then first_from_bound bound pairs else Some pair

-- What is true of a queue after every legal history.
use Rattle.std.specs.Prelude.{◌≡◌, ℕ, ◌-◌, ◌%◌, ◌<◌, ◌≤◌, true, false, List, All, Some, None, is_some, slice_get}
use Rattle.std.specs.Option.{option_map}
use Rattle.ldm_types.specs.declared.limits.TheConstants.{GREATEST_INSTANT}
use Rattle.ldm_types.specs.Arena.{Region}
use Rattle.ldm_model.specs.declared.event.Entry.{Entry}
use Rattle.ldm_model.specs.Product.{Product, extent_of}
use Rattle.ldm_model.specs.State.{State, Row, end_of, last_time, queued, queued_with, occupied, slots_taken}
use Rattle.ldm_model.specs.Insert.{is_last}
use Rattle.ldm_model.specs.History.{after, IsLegal}

abbrev pub Always : (State → Type 0) → Type 0
Always Holds = (arena slots : ℕ) (history : List Entry) → IsLegal arena slots history → Holds (after arena slots history)

-- insertion times rise strictly with numbers
abbrev pub TimesRise : State → Type 0
TimesRise s = (m n : ℕ) (old new : Row) → m < n → slice_get s.rows m ≡ Some old → slice_get s.rows n ≡ Some new → old.time < new.time

-- each is an instant
abbrev pub TimesAreInstants : State → Type 0
TimesAreInstants s = (n : ℕ) (row : Row) → slice_get s.rows n ≡ Some row → row.time ≤ GREATEST_INSTANT

-- the last one is that of the newest row, if there is a row
abbrev pub LastIsNewest : State → Type 0
LastIsNewest s = last_time s ≡ option_map (λ (row : Row). row.time) (slice_get s.rows (end_of s - 1))

-- no two present rows have the same signature
abbrev pub SignaturesDiffer : State → Type 0
SignaturesDiffer s = (m n : ℕ) (one other : Row) → slice_get s.rows m ≡ Some one → slice_get s.rows n ≡ Some other → is_some one.place ≡ true → is_some other.place ≡ true
    → one.product.info.signature ≡ other.product.info.signature → m ≡ n

-- what occupies the arena begins at multiples of eight, and is a multiple of eight long
abbrev pub LiesOnEights : State → Type 0
LiesOnEights s = All (λ (region : Region). (region.start % 8 ≡ 0) × (region.extent % 8 ≡ 0)) (occupied s)

-- no more slots are taken than there are
abbrev pub HasSlots : State → Type 0
HasSlots s = slots_taken s ≤ s.slots

-- A product that is not larger than the arena, whose signature no present row has, while there is an insertion time left.
pub record IsInsertable (s : State) (p : Product) : Type 0 where
  pub fits : extent_of p.info ≤ s.arena
  pub absent : queued_with p.info.signature (queued s) ≡ None
  pub in_time : is_last (last_time s) ≡ false

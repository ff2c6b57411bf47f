-- Things under numbers, as the files that are open and the programs that run: finite maps, in the order of the numbers.
use Rattle.std.specs.Prelude.{ℕ, List, Option}
use Rattle.std.specs.BTreeMap.{insert_entry, is_at}
use Rattle.std.specs.Map.{lookup, remove_entry, set_value}
use Rattle.std.specs.Ordering.{nat_cmp}

module _ {A : Type 0} where
  -- what stands under a number
  abbrev pub at_number : ℕ → List (ℕ × A) → Option A
  at_number number things = lookup (is_at (nat_cmp number)) things

  -- the things with this one under the number
  abbrev pub with_number : ℕ → A → List (ℕ × A) → List (ℕ × A)
  with_number number thing things = insert_entry nat_cmp things number thing

  -- the things without that of the number
  abbrev pub without_number : ℕ → List (ℕ × A) → List (ℕ × A)
  without_number number things = remove_entry (is_at (nat_cmp number)) things

  -- the things with this one in place of that of the number, where there is one
  abbrev pub with_changed_number : ℕ → A → List (ℕ × A) → List (ℕ × A)
  with_changed_number number thing things = set_value (is_at (nat_cmp number)) things thing

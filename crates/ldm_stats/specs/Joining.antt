-- How totals are kept: what they have at a place, two of them joined, and those of the latest hours.
use Rattle.std.specs.Prelude.{◌≡◌, ℕ, ◌+◌, nat_lt, max, false, List, [], ◌∷◌, filter, sum_by, Option, Some, None}
use Rattle.std.specs.List.Sorted.{IsStrictlySortedBy}
use Rattle.std.specs.Map.{keys_of, lookup, values_of}
use Rattle.std.specs.BTreeMap.{is_at}
use Rattle.ldm_stats.specs.Place.{Place, place_cmp}
use Rattle.ldm_stats.specs.Totals.{Total}

abbrev pub Entries : Type 0
Entries = List (Place × Total)

-- what totals have at a place
abbrev pub total_at : Place → Entries → Option Total
total_at place entries = lookup (is_at (place_cmp place)) entries

-- how many products they count
abbrev pub count_of : Entries → ℕ
count_of entries = sum_by (λ total. total.count) (values_of entries)

-- two totals together
abbrev pub plus : Total → Total → Total
plus one other = record { count = one.count + other.count; bytes = one.bytes + other.bytes; latency = max one.latency other.latency }

abbrev pub joined : Option Total → Option Total → Option Total
joined None other = other
joined (Some one) None = Some one
joined (Some one) (Some other) = Some (plus one other)

-- at each place both have what the two have together
abbrev pub IsJoined : Entries → Entries → Entries → Type 0
IsJoined one other both = (place : Place) → total_at place both ≡ joined (total_at place one) (total_at place other)

-- those that lie within so many hours up to an hour
abbrev pub within : ℕ → ℕ → Entries → Entries
within window hour entries = filter (λ entry. nat_lt hour (entry.0.hour + window)) entries

-- the first does not
abbrev pub BeginsOutside : ℕ → ℕ → Entries → Type 0
BeginsOutside window hour [] = ⊥
BeginsOutside window hour (entry ∷ entries) = nat_lt hour (entry.0.hour + window) ≡ false

-- each place stands once, and they ascend
abbrev pub IsAscending : Entries → Type 0
IsAscending entries = IsStrictlySortedBy place_cmp (keys_of entries)

-- Totals that are joined.
use Rattle.std.proofs.Common.{◌≡◌, ℕ, ◌+◌, ◌≤◌, max, Bool, true, false, cond, refl, sym, ap, ◌∙◌, [], ◌∷◌, arith, Some, None}
use Rattle.std.specs.Prelude.{Option, unwrap_or}
use Rattle.std.specs.Option.{option_map}
use Rattle.std.specs.Ordering.{eq_by_cmp}
use Rattle.std.specs.Map.{keys_of, values_of}
use Rattle.std.specs.BTreeMap.{is_at, insert_entry}
use Rattle.std.specs.Cmp.{eq_by_cmp_equiv}
use Rattle.std.proofs.lemmas.List.Sums.{sum_by-cons}
use Rattle.std.proofs.lemmas.Map.{lookup-none}
use Rattle.std.proofs.lemmas.Map.Entries.{sum_by-insert_entry, none_past_head}
use Rattle.std.proofs.lemmas.Map.Keys.{IsDistinct-from_sorted, sorted_tail}
use Rattle.ldm_stats.specs.Place.{Place, place_cmp}
use Rattle.ldm_stats.specs.Totals.{Total, total_of}
use Rattle.ldm_stats.specs.PlaceOrder.{places_total}
use Rattle.ldm_stats.specs.Joining.{Entries, count_of, joined, plus, total_at, IsAscending}
use Rattle.ldm_stats.proofs.Places.{same_place, either_way}

-- how many products a total counts that may be none
abbrev pub count_in : Option Total → ℕ
count_in total = unwrap_or (option_map (λ (t : Total). t.count) total) 0

-- one entry in front of others
pub count_front : (entry : Place × Total) (entries : Entries) → count_of (entry ∷ entries) ≡ entry.1.count + count_of entries
count_front entry entries = sum_by-cons (λ (t : Total). t.count) entry.1 (values_of entries)

more : (b : Bool) (first : Total) (later : Option Total) (n all : ℕ) → all ≡ first.count + n → count_in later ≤ n → count_in (cond b (Some first) later) ≤ all
more true first later n all e h = omega (arith, e)
more false first later n all e h = omega (arith, e, h)

-- the total of a place counts no more than all do
pub count_at : (place : Place) (entries : Entries) → count_in (total_at place entries) ≤ count_of entries
count_at place [] = omega arith
count_at place (entry ∷ entries) = more (eq_by_cmp place_cmp place entry.0) entry.1 (total_at place entries) (count_of entries) _ (count_front entry entries) (count_at place entries)

pub count_joined : (before : Option Total) (total both : Total) → Some both ≡ joined before (Some total) → both.count ≡ count_in before + total.count
count_joined None total both e = let same : both ≡ total = cc in rw same (omega arith)
count_joined (Some one) total both e = ap (λ o. count_in o) e

-- the total of no product changes none
none_plus : (total : Total) → plus (total_of []) total ≡ total
none_plus total =
    let count : 0 + total.count ≡ total.count = omega arith in
    let bytes : 0 + total.bytes ≡ total.bytes = omega arith in
    let latency : max 0 total.latency ≡ total.latency = omega arith in
    λ i. record { count = count i; bytes = bytes i; latency = latency i }

-- so it may stand where there was no total
pub or_none_joined : (before : Option Total) (none kept total : Total) → none ≡ total_of [] → kept ≡ unwrap_or before none →
    Some (plus kept total) ≡ joined before (Some total)
or_none_joined None none kept total n k = ap (λ (t : Total). Some (plus t total)) (k ∙ n) ∙ ap (λ (t : Total). Some t) (none_plus total)
or_none_joined (Some one) none kept total n k = ap (λ (t : Total). Some (plus t total)) k

pub or_none_count : (before : Option Total) (none kept : Total) → none ≡ total_of [] → kept ≡ unwrap_or before none → kept.count ≡ count_in before
or_none_count None none kept n k = ap (λ (t : Total). t.count) (k ∙ n)
or_none_count (Some one) none kept n k = ap (λ (t : Total). t.count) k

none_added : (one : Option Total) → one ≡ joined one None
none_added None = refl
none_added (Some one) = refl

put_by : (b : Bool) (at place : Place) (total both : Total) (entries : Entries) → eq_by_cmp place_cmp place at ≡ b →
    Some both ≡ joined (total_at place entries) (Some total) →
    cond b (Some both) (total_at at entries) ≡ joined (total_at at entries) (cond b (Some total) None)
put_by true at place total both entries t h = h ∙ ap (λ (p : Place). joined (total_at p entries) (Some total)) (same_place place at t)
put_by false at place total both entries f h = none_added (total_at at entries)

-- what stands at a place after a total was put at another or the same
pub put_at : (at place : Place) (total both : Total) (entries : Entries) (after : Option Total) →
    Some both ≡ joined (total_at place entries) (Some total) →
    after ≡ cond (eq_by_cmp place_cmp place at) (Some both) (total_at at entries) →
    after ≡ joined (total_at at entries) (cond (eq_by_cmp place_cmp at place) (Some total) None)
put_at at place total both entries after h e =
    e ∙ put_by (eq_by_cmp place_cmp place at) at place total both entries refl h
    ∙ ap (λ b. joined (total_at at entries) (cond b (Some total) None)) (either_way place at)

-- and how many products they count then
pub put_count : (before after : Entries) (place : Place) (total both : Total) → IsAscending before →
    Some both ≡ joined (total_at place before) (Some total) → after ≡ insert_entry place_cmp before place both →
    count_of after ≡ count_of before + total.count
put_count before after place total both ascends h e =
    rw e (omega (arith, sum_by-insert_entry (λ (t : Total). t.count) places_total before place both ascends, count_joined (total_at place before) total both h))

pub ascending_tail : (entry : Place × Total) (entries : Entries) → IsAscending (entry ∷ entries) → IsAscending entries
ascending_tail entry entries h = sorted_tail place_cmp entry.0 (keys_of entries) h

-- the place of the first entry does not stand behind it
pub behind_none : (place : Place) (entry : Place × Total) (entries : Entries) → IsAscending (entry ∷ entries) →
    eq_by_cmp place_cmp place entry.0 ≡ true → total_at place entries ≡ None
behind_none place entry entries ascends t =
    lookup-none (is_at (place_cmp place)) entries
    (none_past_head (eq_by_cmp_equiv places_total) place entry entries (IsDistinct-from_sorted place_cmp (keys_of (entry ∷ entries)) ascends) t)

none_joined : (one : Option Total) → joined one None ≡ one
none_joined one = sym (none_added one)

further_by : (b : Bool) (one : Option Total) (first : Total) (later : Option Total) → (b ≡ true → later ≡ None) →
    joined (joined one (cond b (Some first) None)) later ≡ joined one (cond b (Some first) later)
further_by true one first later h = let none = h refl in rw none (none_joined (joined one (Some first)))
further_by false one first later h = ap (λ o. joined o later) (none_joined one)

-- an entry is joined, and then the others
pub joined_further : (place : Place) (one : Option Total) (entry : Place × Total) (entries : Entries) → IsAscending (entry ∷ entries) →
    joined (joined one (total_at place (entry ∷ []))) (total_at place entries) ≡ joined one (total_at place (entry ∷ entries))
joined_further place one entry entries ascends =
    further_by (eq_by_cmp place_cmp place entry.0) one entry.1 (total_at place entries) (behind_none place entry entries ascends)

-- What totals have at a place: the totals of the products there, if there are any and their hour is kept.
use Rattle.std.proofs.Common.{◌≡◌, ℕ, ◌+◌, Bool, true, false, cond, refl, sym, ap, ◌∙◌, List, [], ◌∷◌, ◌++◌, map, filter, length, arith, Some, None, nat_lt, max, subst, T}
use Rattle.std.specs.Prelude.{Option, ◌||◌, ◌&&◌}
use Rattle.std.specs.List.{list_any}
use Rattle.std.specs.Ordering.{eq_by_cmp}
use Rattle.std.specs.Map.{keys_of}
use Rattle.std.specs.FinMap.{FinMap, put, find, entries, from_entries, entries-insert, entries_sorted, get-entries, get-from_entries, same_map, len-entries, len-empty}
use Rattle.std.specs.FinMap.Entries.{is_sorted}
use Rattle.std.specs.declared.cmp.Ordering.TheVariants.{Less}
use Rattle.std.proofs.lemmas.Map.Keys.{sorted_head, sorted_tail}
use Rattle.std.proofs.lemmas.List.Sums.{sum_by-append}
use Rattle.ldm_stats.specs.Place.{Place, place_cmp}
use Rattle.ldm_stats.specs.PlaceOrder.{places_total}
use Rattle.ldm_stats.specs.Totals.{Product, Total, place_of, latency_of, greatest, greatest_hour, kept, total_of, at_place, totals_at, totals}
use Rattle.ldm_stats.specs.Joining.{Entries, joined, plus, total_at, IsAscending}
use Rattle.ldm_stats.proofs.Places.{same_place, places_exact}

-- the total of products, if there are any
abbrev pub some_total : List Product → Option Total
some_total [] = None
some_total (product ∷ products) = Some (total_of (product ∷ products))

-- ---- lists, one behind the other

pub greatest-append : (ns ms : List ℕ) → greatest (ns ++ ms) ≡ max (greatest ns) (greatest ms)
greatest-append [] ms = omega arith
greatest-append (n ∷ ns) ms = omega (arith, greatest-append ns ms)

greatest_map : {X : Type 0} (f : X → ℕ) (xs ys : List X) → greatest (map f (xs ++ ys)) ≡ max (greatest (map f xs)) (greatest (map f ys))
greatest_map f [] ys = omega arith
greatest_map f (x ∷ xs) ys = omega (arith, greatest_map f xs ys)

pub greatest_hour-append : (products others : List Product) → greatest_hour (products ++ others) ≡ max (greatest_hour products) (greatest_hour others)
greatest_hour-append products others = greatest_map (λ (p : Product). (place_of p).hour) products others

length_both : {X : Type 0} (xs ys : List X) → length (xs ++ ys) ≡ length xs + length ys
length_both [] ys = omega arith
length_both (x ∷ xs) ys = omega (arith, length_both xs ys)

total_of-append : (xs ys : List Product) → total_of (xs ++ ys) ≡ plus (total_of xs) (total_of ys)
total_of-append xs ys =
    let count = length_both xs ys in
    let bytes = sum_by-append (λ (p : Product). p.info.size) xs ys in
    let latency = greatest_map latency_of xs ys in
    λ i. record { count = count i; bytes = bytes i; latency = latency i }

append_none : (xs : List Product) → xs ++ [] ≡ xs
append_none [] = refl
append_none (x ∷ xs) = ap (λ (l : List Product). x ∷ l) (append_none xs)

pub some_total-append : (xs ys : List Product) → some_total (xs ++ ys) ≡ joined (some_total xs) (some_total ys)
some_total-append [] ys = refl
some_total-append (x ∷ xs) [] = ap some_total (append_none (x ∷ xs))
some_total-append (x ∷ xs) (y ∷ ys) = ap (λ t. Some t) (total_of-append (x ∷ xs) (y ∷ ys))

-- ---- what stands at a place

find_is : (place : Place) (entries : Entries) → find place_cmp place entries ≡ total_at place entries
find_is place [] = refl
find_is place (entry ∷ entries) = ap (λ o. cond (eq_by_cmp place_cmp place entry.0) (Some entry.1) o) (find_is place entries)

at_by : (b c : Bool) (place other : Place) (products : List Product) → eq_by_cmp place_cmp place other ≡ b →
    cond b (Some (total_of (at_place other products))) (cond c (Some (total_of (at_place place products))) None)
    ≡ cond (b || c) (Some (total_of (at_place place products))) None
at_by true c place other products t = ap (λ (p : Place). Some (total_of (at_place p products))) (sym (same_place place other t))
at_by false c place other products f = refl

-- the totals at places, in the order of these
abbrev pairs : List Product → List Place → Entries
pairs products places = map (λ (p : Place). (p, total_of (at_place p products))) places

in_pairs : (place : Place) (products : List Product) (places : List Place) →
    find place_cmp place (pairs products places) ≡ cond (list_any (eq_by_cmp place_cmp place) places) (Some (total_of (at_place place products))) None
in_pairs place products [] = refl
in_pairs place products (other ∷ places) =
    ap (λ o. cond (eq_by_cmp place_cmp place other) (Some (total_of (at_place other products))) o) (in_pairs place products places)
    ∙ at_by (eq_by_cmp place_cmp place other) (list_any (eq_by_cmp place_cmp place) places) place other products refl

no_length : (es : Entries) → length es ≡ 0 → es ≡ []
no_length [] e = refl
no_length (entry ∷ es) e = absurd (omega arith)

-- as a map
abbrev mapped : Entries → FinMap place_cmp Total
mapped es = from_entries es

empty_mapped : entries (mapped []) ≡ []
empty_mapped = no_length (entries (mapped [])) (sym (len-entries (mapped [])) ∙ len-empty place_cmp Total)

totals_mapped : (products : List Product) (places : List Place) → totals_at products places ≡ entries (mapped (pairs products places))
totals_mapped products [] = sym empty_mapped
totals_mapped products (place ∷ places) =
    ap (λ (es : Entries). put place_cmp place (total_of (at_place place products)) es) (totals_mapped products places)
    ∙ sym (entries-insert places_total (mapped (pairs products places)) place (total_of (at_place place products)))

put_first : (entry : Place × Total) (es : Entries) → IsAscending (entry ∷ es) → put place_cmp entry.0 entry.1 es ≡ entry ∷ es
put_first entry [] h = refl
put_first entry (next ∷ es) h =
    let less : place_cmp entry.0 next.0 ≡ Less = (sorted_head place_cmp entry.0 (keys_of (next ∷ es)) h).0 in
    rw less refl

ascending_mapped : (es : Entries) → IsAscending es → es ≡ entries (mapped es)
ascending_mapped [] h = sym empty_mapped
ascending_mapped (entry ∷ es) h =
    sym (entries-insert places_total (mapped es) entry.0 entry.1
    ∙ ap (λ (l : Entries). put place_cmp entry.0 entry.1 l) (sym (ascending_mapped es (sorted_tail place_cmp entry.0 (keys_of es) h)))
    ∙ put_first entry es h)

-- ---- products of a place

there_by : (b : Bool) (product : Product) (here : List Product) (any : Bool) → some_total here ≡ cond any (Some (total_of here)) None →
    some_total (cond b (product ∷ here) here) ≡ cond (b || any) (Some (total_of (cond b (product ∷ here) here))) None
there_by true product here any h = refl
there_by false product here any h = h

there : (place : Place) (products : List Product) →
    some_total (at_place place products) ≡ cond (list_any (eq_by_cmp place_cmp place) (map place_of products)) (Some (total_of (at_place place products))) None
there place [] = refl
there place (product ∷ products) =
    there_by (eq_by_cmp place_cmp place (place_of product)) product (at_place place products) (list_any (eq_by_cmp place_cmp place) (map place_of products)) (there place products)

by_hour : (k : Bool) (product : Product) (here close : List Product) → close ≡ cond k here [] →
    cond (k && true) (product ∷ close) close ≡ cond k (product ∷ here) []
by_hour true product here close e = ap (λ (l : List Product). product ∷ l) e
by_hour false product here close e = e

apart : (c : Bool) (product : Product) (close : List Product) → cond (c && false) (product ∷ close) close ≡ close
apart true product close = refl
apart false product close = refl

near_by : (b : Bool) (place : Place) (product : Product) (window hour : ℕ) (here close : List Product) → eq_by_cmp place_cmp place (place_of product) ≡ b →
    close ≡ cond (nat_lt hour (place.hour + window)) here [] →
    cond (nat_lt hour ((place_of product).hour + window) && b) (product ∷ close) close
    ≡ cond (nat_lt hour (place.hour + window)) (cond b (product ∷ here) here) []
near_by true place product window hour here close t e =
    ap (λ (p : Place). cond (nat_lt hour (p.hour + window) && true) (product ∷ close) close) (sym (same_place place (place_of product) t))
    ∙ by_hour (nat_lt hour (place.hour + window)) product here close e
near_by false place product window hour here close f e = apart (nat_lt hour ((place_of product).hour + window)) product close ∙ e

step : (c : Bool) (place : Place) (product : Product) (products : List Product) →
    at_place place (cond c (product ∷ products) products)
    ≡ cond (c && eq_by_cmp place_cmp place (place_of product)) (product ∷ at_place place products) (at_place place products)
step true place product products = refl
step false place product products = refl

none_either : (b : Bool) (none : List Product) → none ≡ cond b none none
none_either true none = refl
none_either false none = refl

-- the products of a place whose hours are kept: all of them, if its hour is
near : (place : Place) (window hour : ℕ) (products : List Product) →
    at_place place (filter (λ (p : Product). nat_lt hour ((place_of p).hour + window)) products) ≡ cond (nat_lt hour (place.hour + window)) (at_place place products) []
near place window hour [] = none_either (nat_lt hour (place.hour + window)) []
near place window hour (product ∷ products) =
    let later = filter (λ (p : Product). nat_lt hour ((place_of p).hour + window)) products in
    step (nat_lt hour ((place_of product).hour + window)) place product later
    ∙ near_by (eq_by_cmp place_cmp place (place_of product)) place product window hour (at_place place products) (at_place place later) refl (near place window hour products)

some_if : (b : Bool) (here : List Product) → some_total (cond b here []) ≡ cond b (some_total here) None
some_if true here = refl
some_if false here = refl

found : (place : Place) (window : ℕ) (products : List Product) →
    find place_cmp place (pairs (kept window products) (map place_of (kept window products)))
    ≡ cond (nat_lt (greatest_hour products) (place.hour + window)) (some_total (at_place place products)) None
found place window products =
    in_pairs place (kept window products) (map place_of (kept window products))
    ∙ sym (there place (kept window products))
    ∙ ap some_total (near place window (greatest_hour products) products)
    ∙ some_if (nat_lt (greatest_hour products) (place.hour + window)) (at_place place products)

-- what the totals of products have at a place
pub at_totals : (place : Place) (window : ℕ) (products : List Product) →
    total_at place (totals window products)
    ≡ cond (nat_lt (greatest_hour products) (place.hour + window)) (some_total (at_place place products)) None
at_totals place window products =
    let within_hours = kept window products in
    let listed = pairs within_hours (map place_of within_hours) in
    sym (find_is place (totals window products))
    ∙ ap (λ (es : Entries). find place_cmp place es) (totals_mapped within_hours (map place_of within_hours))
    ∙ sym (get-entries (mapped listed) place)
    ∙ get-from_entries places_total listed place
    ∙ found place window products

-- entries in ascending order that have at each place what totals have are these
pub same_totals : (window : ℕ) (products : List Product) (es : Entries) → IsAscending es →
    ((place : Place) → total_at place es ≡ cond (nat_lt (greatest_hour products) (place.hour + window)) (some_total (at_place place products)) None) →
    es ≡ totals window products
same_totals window products es h is =
    let within_hours = kept window products in
    let listed = pairs within_hours (map place_of within_hours) in
    ascending_mapped es h
    ∙ ap (λ m. entries m) (same_map places_total places_exact (mapped es) (mapped listed) (λ place.
    get-from_entries places_total es place ∙ find_is place es ∙ is place ∙ sym (found place window products) ∙ sym (get-from_entries places_total listed place)))
    ∙ sym (totals_mapped within_hours (map place_of within_hours))

-- the places of totals rise
pub sorted_totals : (window : ℕ) (products : List Product) → T (is_sorted place_cmp (totals window products))
sorted_totals window products =
    let within_hours = kept window products in
    subst (λ (es : Entries). T (is_sorted place_cmp es)) (sym (totals_mapped within_hours (map place_of within_hours)))
    (entries_sorted (mapped (pairs within_hours (map place_of within_hours))))

-- What a table stands for once products were added.
use Rattle.std.proofs.Common.{◌≡◌, ℕ, ◌+◌, ◌≤◌, Bool, true, false, cond, refl, sym, ap, ◌∙◌, List, [], ◌∷◌, ◌++◌, filter, map, arith, Some, None, nat_lt, subst, max, ◌<◌}
use Rattle.std.specs.Prelude.{Option}
use Rattle.std.specs.Ordering.{eq_by_cmp}
use Rattle.std.specs.BTreeMap.{is_at}
use Rattle.std.proofs.lemmas.Bool.Decides.{nat_tests}
use Rattle.std.proofs.lemmas.List.Elements.{filter-append}
use Rattle.std.proofs.lemmas.Map.Entries.{lookup-filter-keys}
use Rattle.ldm_stats.specs.Place.{Place, place_cmp}
use Rattle.ldm_stats.specs.Totals.{Product, Total, place_of, greatest_hour, kept, total_of, at_place, totals_at, totals}
use Rattle.ldm_stats.specs.Joining.{Entries, joined, total_at, within, IsAscending, IsJoined}
use Rattle.ldm_stats.specs.Table.{Table, StandsFor}
use Rattle.ldm_stats.proofs.Places.{same_place}
use Rattle.ldm_stats.proofs.Laws.{some_total, some_total-append, greatest_hour-append, at_totals, same_totals}

-- at the places of the hours that are kept, entries have the totals of products
abbrev pub Has : ℕ → ℕ → List Product → Entries → Type 0
Has window hour products es = (place : Place) → nat_lt hour (place.hour + window) ≡ true → total_at place es ≡ some_total (at_place place products)

pub has_totals : (window hour : ℕ) (products : List Product) (es : Entries) → es ≡ totals window products → greatest_hour products ≤ hour →
    Has window hour products es
has_totals window hour products es e le place t =
    let near : nat_lt (greatest_hour products) (place.hour + window) ≡ true = grind (arith, nat_tests, le, t) in
    ap (λ (l : Entries). total_at place l) e ∙ at_totals place window products ∙ rw near refl

one_by : (b : Bool) (product : Product) →
    cond b (Some (total_of (product ∷ []))) None ≡ some_total (cond b (product ∷ []) [])
one_by true product = refl
one_by false product = refl

pub has_one : (window hour : ℕ) (product : Product) → Has window hour (product ∷ []) ((place_of product, total_of (product ∷ [])) ∷ [])
has_one window hour product place t = one_by (eq_by_cmp place_cmp place (place_of product)) product

hours_alike : (window hour : ℕ) (place other : Place) → is_at (place_cmp place) other ≡ true → nat_lt hour (other.hour + window) ≡ nat_lt hour (place.hour + window)
hours_alike window hour place other t = ap (λ (p : Place). nat_lt hour (p.hour + window)) (sym (same_place place other t))

both_by : (b : Bool) (place : Place) (one two both : Entries) (products others : List Product) →
    total_at place both ≡ joined (total_at place one) (total_at place two) →
    (b ≡ true → total_at place one ≡ some_total (at_place place products)) → (b ≡ true → total_at place two ≡ some_total (at_place place others)) →
    cond b (total_at place both) None ≡ cond b (some_total (at_place place (products ++ others))) None
both_by true place one two both products others h k l =
    let first = k refl in
    let second = l refl in
    h ∙ rw (first, second) (sym (some_total-append (at_place place products) (at_place place others)))
    ∙ ap some_total (sym (filter-append (λ (p : Product). eq_by_cmp place_cmp place (place_of p)) products others))
both_by false place one two both products others h k l = refl

-- what is left of joined totals, once hours that fall behind are let go
pub stands : (window hour : ℕ) (one two both : Entries) (products others : List Product) →
    Has window hour products one → Has window hour others two → IsJoined one two both →
    hour ≡ max (greatest_hour products) (greatest_hour others) → IsAscending (within window hour both) →
    within window hour both ≡ totals window (products ++ others)
stands window hour one two both products others k l h e ascends =
    same_totals window (products ++ others) (within window hour both) ascends (λ place.
    let greatest : hour ≡ greatest_hour (products ++ others) = e ∙ sym (greatest_hour-append products others) in
    lookup-filter-keys (is_at (place_cmp place)) (λ (p : Place). nat_lt hour (p.hour + window)) (nat_lt hour (place.hour + window)) (hours_alike window hour place) both
    ∙ both_by (nat_lt hour (place.hour + window)) place one two both products others (h place) (k place) (l place)
    ∙ ap (λ n. cond (nat_lt n (place.hour + window)) (some_total (at_place place (products ++ others))) None) greatest)

comes_after : (after : Table) (one two both : Entries) (products others : List Product) →
    Has after.window after.hour products one → Has after.window after.hour others two → IsJoined one two both →
    after.hour ≡ max (greatest_hour products) (greatest_hour others) → after.entries ≡ within after.window after.hour both →
    IsAscending after.entries → StandsFor after (products ++ others)
comes_after after one two both products others k l h e f ascends = record {
  hour = e ∙ sym (greatest_hour-append products others);
  entries = f ∙ stands after.window after.hour one two both products others k l h e (subst IsAscending f ascends);
}

-- a table that was joined with another
pub absorbed : (one two after : Table) (both : Entries) (products others : List Product) → one.window ≡ two.window →
    StandsFor one products → StandsFor two others → IsJoined one.entries two.entries both →
    after.window ≡ one.window → after.hour ≡ max one.hour two.hour → after.entries ≡ within after.window after.hour both →
    IsAscending after.entries → StandsFor after (products ++ others)
absorbed one two after both products others w s t h v e f ascends =
    let hour : after.hour ≡ max (greatest_hour products) (greatest_hour others) = rw (← s.hour, ← t.hour) e in
    let first : one.entries ≡ totals after.window products = s.entries ∙ ap (λ n. totals n products) (sym v) in
    let second : two.entries ≡ totals after.window others = t.entries ∙ ap (λ n. totals n others) (sym (v ∙ w)) in
    comes_after after one.entries two.entries both products others
    (has_totals after.window after.hour products one.entries first (omega (arith, hour)))
    (has_totals after.window after.hour others two.entries second (omega (arith, hour)))
    h hour f ascends

-- and with a product
pub added : (one after : Table) (both : Entries) (products : List Product) (product : Product) → StandsFor one products →
    IsJoined one.entries ((place_of product, total_of (product ∷ [])) ∷ []) both →
    after.window ≡ one.window → after.hour ≡ max one.hour (place_of product).hour → after.entries ≡ within after.window after.hour both →
    IsAscending after.entries → StandsFor after (products ++ product ∷ [])
added one after both products product s h v e f ascends =
    let hour : after.hour ≡ max (greatest_hour products) (greatest_hour (product ∷ [])) = omega (arith, e, s.hour) in
    let first : one.entries ≡ totals after.window products = s.entries ∙ ap (λ n. totals n products) (sym v) in
    comes_after after one.entries ((place_of product, total_of (product ∷ [])) ∷ []) both products (product ∷ [])
    (has_totals after.window after.hour products one.entries first (omega (arith, hour)))
    (has_one after.window after.hour product)
    h hour f ascends

-- ---- a product of an hour that is kept, where the greatest hour stays

apart_by : (b : Bool) (window hour : ℕ) (place other : Place) → eq_by_cmp place_cmp place other ≡ b →
    nat_lt hour (place.hour + window) ≡ false → nat_lt hour (other.hour + window) ≡ true → b ≡ false
apart_by true window hour place other t far near =
    let alike = hours_alike window hour place other t in
    absurd (cc)
apart_by false window hour place other f far near = refl

here_by : (b : Bool) (place : Place) (product : Product) (one both : Entries) (products : List Product) →
    total_at place both ≡ joined (total_at place one) (total_at place ((place_of product, total_of (product ∷ [])) ∷ [])) →
    total_at place one ≡ cond b (some_total (at_place place products)) None →
    (b ≡ false → eq_by_cmp place_cmp place (place_of product) ≡ false) →
    total_at place both ≡ cond b (some_total (at_place place (products ++ product ∷ []))) None
here_by true place product one both products h k apart =
    both_by true place one ((place_of product, total_of (product ∷ [])) ∷ []) both products (product ∷ []) h (λ t. k)
    (λ t. one_by (eq_by_cmp place_cmp place (place_of product)) product)
here_by false place product one both products h k apart =
    h ∙ ap (λ (o : Option Total). joined o (total_at place ((place_of product, total_of (product ∷ [])) ∷ []))) k
    ∙ ap (λ b. joined None (cond b (Some (total_of (product ∷ []))) None)) (apart refl)

pub added_here : (one after : Table) (products : List Product) (product : Product) → StandsFor one products →
    IsJoined one.entries ((place_of product, total_of (product ∷ [])) ∷ []) after.entries →
    after.window ≡ one.window → after.hour ≡ one.hour → (place_of product).hour ≤ one.hour → one.hour < (place_of product).hour + one.window →
    IsAscending after.entries → StandsFor after (products ++ product ∷ [])
added_here one after products product s h v e le close ascends =
    let greatest : greatest_hour (products ++ product ∷ []) ≡ greatest_hour products = omega (arith, greatest_hour-append products (product ∷ []), s.hour, le) in
    let near : nat_lt (greatest_hour products) ((place_of product).hour + after.window) ≡ true = grind (arith, nat_tests, s.hour, v, close) in
    record {
      hour = e ∙ s.hour ∙ sym greatest;
      entries = same_totals after.window (products ++ product ∷ []) after.entries ascends (λ place.
          let before : total_at place one.entries ≡ cond (nat_lt (greatest_hour products) (place.hour + after.window)) (some_total (at_place place products)) None =
          ap (λ (l : Entries). total_at place l) (s.entries ∙ ap (λ n. totals n products) (sym v)) ∙ at_totals place after.window products in
          here_by (nat_lt (greatest_hour products) (place.hour + after.window)) place product one.entries after.entries products (h place) before
          (λ far. apart_by (eq_by_cmp place_cmp place (place_of product)) after.window (greatest_hour products) place (place_of product) refl far near)
          ∙ ap (λ n. cond (nat_lt n (place.hour + after.window)) (some_total (at_place place (products ++ product ∷ []))) None) (sym greatest));
    }

append_none : (xs : List Product) → xs ++ [] ≡ xs
append_none [] = refl
append_none (x ∷ xs) = ap (λ (l : List Product). x ∷ l) (append_none xs)

-- a product whose hour has fallen behind changes nothing
pub behind : (window : ℕ) (products : List Product) (product : Product) → (place_of product).hour + window ≤ greatest_hour products →
    (greatest_hour (products ++ product ∷ []) ≡ greatest_hour products) × (totals window (products ++ product ∷ []) ≡ totals window products)
behind window products product h =
    let greatest : greatest_hour (products ++ product ∷ []) ≡ greatest_hour products = omega (arith, greatest_hour-append products (product ∷ [])) in
    let far : nat_lt (greatest_hour products) ((place_of product).hour + window) ≡ false = grind (arith, nat_tests, h) in
    let alone : filter (λ (p : Product). nat_lt (greatest_hour products) ((place_of p).hour + window)) (product ∷ []) ≡ [] = rw far refl in
    let same : kept window (products ++ product ∷ []) ≡ kept window products =
    ap (λ n. filter (λ (p : Product). nat_lt n ((place_of p).hour + window)) (products ++ product ∷ [])) greatest
    ∙ filter-append (λ (p : Product). nat_lt (greatest_hour products) ((place_of p).hour + window)) products (product ∷ [])
    ∙ ap (λ (l : List Product). kept window products ++ l) alone ∙ append_none (kept window products) in
    (greatest, ap (λ (l : List Product). totals_at l (map place_of l)) same)

pub passed_over : (one : Table) (products : List Product) (product : Product) → StandsFor one products → (place_of product).hour + one.window ≤ one.hour →
    StandsFor one (products ++ product ∷ [])
passed_over one products product s h =
    let same = behind one.window products product (rw (← s.hour) h) in
    record { hour = s.hour ∙ sym same.0; entries = s.entries ∙ sym same.1 }

-- What a list of products adds up to: for each hour, feed and origin the number of products, their bytes and their
-- greatest latency.
use Rattle.std.specs.Prelude.{ℕ, ◌+◌, ◌-◌, ◌/◌, nat_lt, max, List, [], ◌∷◌, length, map, filter, sum_by}
use Rattle.std.specs.Ordering.{eq_by_cmp}
use Rattle.std.specs.FinMap.{put}
use Rattle.ldm_types.specs.Info.{Metadata}
use Rattle.ldm_stats.specs.Place.{Place, place_cmp}

-- a product, and when it was inserted, in microseconds since the beginning of 1970
pub record Product : Type 0 where
  pub time : ℕ
  pub info : Metadata

-- the hour of an instant, counted from the beginning of 1970
abbrev pub hour_of : ℕ → ℕ
hour_of micros = micros / 3_600_000_000

abbrev pub place_of : Product → Place
place_of product = record { hour = hour_of product.info.arrival; feed = product.info.feed; origin = product.info.origin }

-- how long the product took from its arrival to its insertion: 0 where it was inserted before
abbrev pub latency_of : Product → ℕ
latency_of product = product.time - product.info.arrival

-- the greatest number, 0 where there is none
abbrev pub greatest : List ℕ → ℕ
greatest [] = 0
greatest (n ∷ ns) = max n (greatest ns)

-- the greatest hour of an arrival
abbrev pub greatest_hour : List Product → ℕ
greatest_hour products = greatest (map (λ product. (place_of product).hour) products)

-- the products within so many hours up to the greatest
abbrev pub kept : ℕ → List Product → List Product
kept window products = filter (λ product. nat_lt (greatest_hour products) ((place_of product).hour + window)) products

pub record Total : Type 0 where
  -- how many products
  pub count : ℕ
  -- the sum of their sizes
  pub bytes : ℕ
  -- the greatest of their latencies
  pub latency : ℕ

abbrev pub total_of : List Product → Total
total_of products = record {
  count = length products;
  bytes = sum_by (λ product. product.info.size) products;
  latency = greatest (map latency_of products);
}

-- the products of a place
abbrev pub at_place : Place → List Product → List Product
at_place place products = filter (λ product. eq_by_cmp place_cmp place (place_of product)) products

-- the totals of these products at each of these places: in ascending order of the places, and each place once
abbrev pub totals_at : List Product → List Place → List (Place × Total)
totals_at products [] = []
totals_at products (place ∷ places) = put place_cmp place (total_of (at_place place products)) (totals_at products places)

-- the totals of the kept products, in ascending order of hour, feed and origin
abbrev pub totals : ℕ → List Product → List (Place × Total)
totals window products = let within = kept window products in totals_at within (map place_of within)

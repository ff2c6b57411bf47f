-- What occupies the arena lies on eights, and takes no more slots than there are.
use Rattle.std.proofs.Common.{◌≡◌, ℕ, zero, suc, ◌+◌, ◌%◌, ◌<◌, ◌≤◌, List, [], ◌∷◌, ◌++◌, length, map, Option, Some, None, refl, sym, ap, subst, arith}
use Rattle.std.specs.Prelude.{IfSome, replicate, set, slice_get, slice_index_or, nat_lt, is_some}
use Rattle.std.specs.List.{AllByRecursion}
use Rattle.std.specs.Option.{option_map}
use Rattle.std.proofs.lemmas.Bool.{and_parts, ltb-true}
use Rattle.std.proofs.lemmas.Option.{same_Some}
use Rattle.std.proofs.lemmas.List.Elements.{All-from_recursion}
use Rattle.ldm_types.specs.Info.{Metadata}
use Rattle.ldm_types.specs.Arena.{Region}
use Rattle.ldm_model.specs.Product.{Product, extent_of}
use Rattle.ldm_model.specs.State.{State, Row, Reservation, empty, last_time, add_queued, queued_from, queued, region_of, open_ones, reserved, reserved_region, occupied, slots_taken}
use Rattle.ldm_model.specs.Evict.{unheld, without_place, evict, evict_row}
use Rattle.ldm_model.specs.Room.{fit_in, has_room}
use Rattle.ldm_model.specs.Insert.{after_evicting, evictions, admit, time_after}
use Rattle.ldm_model.specs.Reservation.{with_reservation, new_reservation, with_bytes, product_of}
use Rattle.ldm_model.specs.History.{after}
use Rattle.ldm_model.specs.Always.{Always, LiesOnEights, HasSlots}
use Rattle.ldm_model.proofs.ApartRegions.{extent-some}
use Rattle.ldm_model.proofs.Coming.{find-range_before}
use Rattle.ldm_model.proofs.Fitting.{IsOnEights, fit-spot, spot-eights}
use Rattle.ldm_model.proofs.Changing.{IsKept, kept-entries}

-- where these rows lie that are present, and nothing where one is not
abbrev pub regions_from : ℕ → List Row → List Region
regions_from low rows = map region_of (queued_from low rows)

abbrev pub region_for : Product → ℕ → Region
region_for p place = record { start = place; extent = extent_of p.info }

each-without : (P : Region → Type 0) (n low : ℕ) (rows : List Row) → AllByRecursion P (regions_from low rows) → AllByRecursion P (regions_from low (without_place rows n))
each-without P n low [] all = all
each-without P zero low (row ∷ rows) all = by_place row.place all
  where
    by_place : (place : Option ℕ) → AllByRecursion P (map region_of (add_queued low row place (queued_from (low + 1) rows))) → AllByRecursion P (regions_from (low + 1) rows)
    by_place None h = h
    by_place (Some place) h = h.1
each-without P (suc n) low (row ∷ rows) all = by_place row.place (each-without P n (low + 1) rows) all
  where
    by_place : (place : Option ℕ) → (AllByRecursion P (regions_from (low + 1) rows) → AllByRecursion P (regions_from (low + 1) (without_place rows n)))
        → AllByRecursion P (map region_of (add_queued low row place (queued_from (low + 1) rows)))
        → AllByRecursion P (map region_of (add_queued low row place (queued_from (low + 1) (without_place rows n))))
    by_place None more h = more h
    by_place (Some place) more h = (h.0, more h.1)

pub few-without : (n low : ℕ) (rows : List Row) → length (queued_from low (without_place rows n)) ≤ length (queued_from low rows)
few-without n low [] = omega arith
few-without zero low (row ∷ rows) = by_place row.place
  where
    by_place : (place : Option ℕ) → length (queued_from (low + 1) rows) ≤ length (add_queued low row place (queued_from (low + 1) rows))
    by_place None = omega arith
    by_place (Some place) = omega arith
few-without (suc n) low (row ∷ rows) = by_place row.place (few-without n (low + 1) rows)
  where
    by_place : (place : Option ℕ) → length (queued_from (low + 1) (without_place rows n)) ≤ length (queued_from (low + 1) rows)
        → length (add_queued low row place (queued_from (low + 1) (without_place rows n))) ≤ length (add_queued low row place (queued_from (low + 1) rows))
    by_place None more = more
    by_place (Some place) more = omega (arith, more)

each-push : (P : Region → Type 0) (new : Row) (low : ℕ) (rows : List Row) → AllByRecursion P (regions_from low rows) → IfSome new.place (λ (place : ℕ). P (region_for new.product place))
    → AllByRecursion P (regions_from low (rows ++ new ∷ []))
each-push P new low [] all there = by_place new.place there
  where
    by_place : (place : Option ℕ) → IfSome place (λ (at : ℕ). P (region_for new.product at)) → AllByRecursion P (map region_of (add_queued low new place []))
    by_place None h = tt
    by_place (Some place) h = (h, tt)
each-push P new low (row ∷ rows) all there = by_place row.place (λ h. each-push P new (low + 1) rows h there) all
  where
    by_place : (place : Option ℕ) → (AllByRecursion P (regions_from (low + 1) rows) → AllByRecursion P (regions_from (low + 1) (rows ++ new ∷ [])))
        → AllByRecursion P (map region_of (add_queued low row place (queued_from (low + 1) rows)))
        → AllByRecursion P (map region_of (add_queued low row place (queued_from (low + 1) (rows ++ new ∷ []))))
    by_place None more h = more h
    by_place (Some place) more h = (h.0, more h.1)

few-push : (new : Row) (low : ℕ) (rows : List Row) → length (queued_from low (rows ++ new ∷ [])) ≤ length (queued_from low rows) + 1
few-push new low [] = by_place new.place
  where
    by_place : (place : Option ℕ) → length (add_queued low new place []) ≤ 0 + 1
    by_place None = omega arith
    by_place (Some place) = omega arith
few-push new low (row ∷ rows) = by_place row.place (few-push new (low + 1) rows)
  where
    by_place : (place : Option ℕ) → length (queued_from (low + 1) (rows ++ new ∷ [])) ≤ length (queued_from (low + 1) rows) + 1
        → length (add_queued low row place (queued_from (low + 1) (rows ++ new ∷ []))) ≤ length (add_queued low row place (queued_from (low + 1) rows)) + 1
    by_place None more = more
    by_place (Some place) more = omega (arith, more)

extent-eights : (info : Metadata) → extent_of info % 8 ≡ 0
extent-eights info = omega arith

-- reservation places, of which one changes
each-set : (P : Region → Type 0) (r : ℕ) (place : Option Reservation) (places : List (Option Reservation)) → AllByRecursion P (map reserved_region (open_ones places))
    → IfSome place (λ (reservation : Reservation). P (reserved_region reservation)) → AllByRecursion P (map reserved_region (open_ones (set places r place)))
each-set P r place [] all new = all
each-set P zero None (None ∷ places) all new = all
each-set P zero None (Some old ∷ places) all new = all.1
each-set P zero (Some reservation) (None ∷ places) all new = (new, all)
each-set P zero (Some reservation) (Some old ∷ places) all new = (new, all.1)
each-set P (suc r) place (None ∷ places) all new = each-set P r place places all new
each-set P (suc r) place (Some old ∷ places) all new = (all.0, each-set P r place places all.1 new)

each-at : (P : Region → Type 0) (r : ℕ) (reservation : Reservation) (places : List (Option Reservation)) → AllByRecursion P (map reserved_region (open_ones places))
    → slice_index_or places r None ≡ Some reservation → P (reserved_region reservation)
each-at P r reservation [] all at = absurd cc
each-at P zero reservation (None ∷ places) all at = absurd cc
each-at P zero reservation (Some one ∷ places) all at = subst (λ (x : Reservation). P (reserved_region x)) (same_Some one reservation at) all.0
each-at P (suc r) reservation (None ∷ places) all at = each-at P r reservation places all at
each-at P (suc r) reservation (Some one ∷ places) all at = each-at P r reservation places all.1 at

few-set : (r : ℕ) (place : Option Reservation) (places : List (Option Reservation)) → length (open_ones (set places r place)) ≤ length (open_ones places) + 1
few-set r place [] = omega arith
few-set zero None (None ∷ places) = omega arith
few-set zero None (Some old ∷ places) = omega arith
few-set zero (Some reservation) (None ∷ places) = omega arith
few-set zero (Some reservation) (Some old ∷ places) = omega arith
few-set (suc r) place (None ∷ places) = few-set r place places
few-set (suc r) place (Some old ∷ places) = omega (arith, few-set r place places)

few-end : (r : ℕ) (places : List (Option Reservation)) → length (open_ones (set places r None)) ≤ length (open_ones places)
few-end r [] = omega arith
few-end zero (None ∷ places) = omega arith
few-end zero (Some old ∷ places) = omega arith
few-end (suc r) (None ∷ places) = few-end r places
few-end (suc r) (Some old ∷ places) = omega (arith, few-end r places)

few-change : (r : ℕ) (old : Reservation) (new : Option Reservation) (places : List (Option Reservation)) → slice_index_or places r None ≡ Some old
    → length (open_ones (set places r new)) + 1 ≤ length (open_ones places) + length (open_ones (new ∷ []))
few-change r old new [] at = absurd cc
few-change zero old new (None ∷ places) at = absurd cc
few-change zero old None (Some one ∷ places) at = omega arith
few-change zero old (Some new) (Some one ∷ places) at = omega arith
few-change (suc r) old new (None ∷ places) at = few-change r old new places at
few-change (suc r) old new (Some one ∷ places) at = omega (arith, few-change r old new places at)

none-open : (count : ℕ) → open_ones (replicate count None) ≡ []
none-open zero = refl
none-open (suc count) = none-open count

each-both : (P : Region → Type 0) (xs ys : List Region) → AllByRecursion P xs → AllByRecursion P ys → AllByRecursion P (xs ++ ys)
each-both P [] ys all more = more
each-both P (x ∷ xs) ys all more = (all.0, each-both P xs ys all.1 more)

record IsEven (s : State) : Type 0 where
  rows : AllByRecursion IsOnEights (map region_of (queued s))
  places : AllByRecursion IsOnEights (map reserved_region (reserved s))
  few : slots_taken s ≤ s.slots

even-all : (s : State) → IsEven s → AllByRecursion IsOnEights (occupied s)
even-all s even = each-both IsOnEights (map region_of (queued s)) (map reserved_region (reserved s)) even.rows even.places

-- the place that is found for metadata lies on eights
if-fit : (s : State) → IsEven s → (info : Metadata) → IfSome (fit_in s (extent_of info)) (λ (at : ℕ). IsOnEights (record { start = at; extent = extent_of info }))
if-fit s even info = by_fit (fit_in s (extent_of info)) refl
  where
    by_fit : (place : Option ℕ) → fit_in s (extent_of info) ≡ place → IfSome place (λ (at : ℕ). IsOnEights (record { start = at; extent = extent_of info }))
    by_fit None e = tt
    by_fit (Some at) e =
        (spot-eights (occupied s) s.arena (extent_of info) at (extent-some info) (even-all s even) (fit-spot (occupied s) s.arena (extent_of info) at e), extent-eights info)

if-reserved : (actor : ℕ) (info : Metadata) (place : Option ℕ) → IfSome place (λ (at : ℕ). IsOnEights (record { start = at; extent = extent_of info }))
    → IfSome (option_map (new_reservation actor info) place) (λ (reservation : Reservation). IsOnEights (reserved_region reservation))
if-reserved actor info None h = tt
if-reserved actor info (Some at) h = h

-- a slot is free where there is room
slot-free : (s : State) (need j : ℕ) → evictions s need ≡ Some j → slots_taken (after_evicting s j) < (after_evicting s j).slots
slot-free s need j found =
    let t = after_evicting s j in
    let room = (find-range_before (λ i. has_room (after_evicting s i) need) 0 (length (unheld s) + 1) j found).0 in
    ltb-true (slots_taken t) t.slots (and_parts (nat_lt (slots_taken t) t.slots) (is_some (fit_in t need)) room).0

even-admit : (s : State) (now : ℕ) (p : Product) (place : Option ℕ) → IsEven s → slots_taken s < s.slots
    → IfSome place (λ (at : ℕ). IsOnEights (region_for p at)) → IsEven (admit s now p place)
even-admit s now p place even slot new = record {
  rows = each-push IsOnEights (record { product = p; time = time_after (last_time s) now; place = place }) 0 s.rows even.rows new;
  places = even.places;
  few = let more = few-push (record { product = p; time = time_after (last_time s) now; place = place }) 0 s.rows in omega (arith, slot);
}

even-evict : (s : State) (n : ℕ) → IsEven s → IsEven (evict s n)
even-evict s n even = by_row (slice_get s.rows n)
  where
    by_row : (row : Option Row) → IsEven (evict_row s n row)
    by_row None = even
    by_row (Some row) = record {
      rows = each-without IsOnEights n 0 s.rows even.rows;
      places = even.places;
      few = let less = few-without n 0 s.rows in omega (arith, even.few);
    }

even-kept : IsKept IsEven
even-kept = record {
  placed = λ s cursors even. record { rows = even.rows; places = even.places; few = even.few };
  evicted = even-evict;
  grown = λ s now p j admission before even.
      let t = after_evicting s j in
      even-admit t now p (fit_in t (extent_of p.info)) even (slot-free s (extent_of p.info) j admission.found) (if-fit t even p.info);
  reserved = λ s actor info r j found even.
      let t = after_evicting s j in
      let new : Option Reservation = option_map (new_reservation actor info) (fit_in t (extent_of info)) in
      let more = few-set r new t.reservations in
      record {
        rows = even.rows;
        places = each-set IsOnEights r new t.reservations even.places (if-reserved actor info (fit_in t (extent_of info)) (if-fit t even info));
        few = omega (arith, slot-free s (extent_of info) j found);
      };
  filled = λ s r reservation bytes is even.
      let same = few-change r reservation (Some (with_bytes bytes reservation)) s.reservations is in
      record {
        rows = even.rows;
        places = each-set IsOnEights r (Some (with_bytes bytes reservation)) s.reservations even.places (each-at IsOnEights r reservation s.reservations even.places is);
        few = omega (arith, even.few);
      };
  ended = λ s r even.
      let less = few-end r s.reservations in
      record {
        rows = even.rows;
        places = each-set IsOnEights r None s.reservations even.places tt;
        few = omega (arith, even.few);
      };
  committed = λ s r now reservation can before even.
      let gone = few-change r reservation None s.reservations can.is_open in
      even-admit (with_reservation s r None) now (product_of reservation) (Some reservation.place) even (omega (arith, before.few))
      (each-at IsOnEights r reservation s.reservations before.places can.is_open);
}

even-begin : (arena slots : ℕ) → IsEven (empty arena slots)
even-begin arena slots = record {
  rows = tt;
  places = subst (λ (ones : List Reservation). AllByRecursion IsOnEights (map reserved_region ones)) (sym (none-open 64)) tt;
  few = let none = ap (λ (ones : List Reservation). length ones) (none-open 64) in omega arith;
}

even-after : Always IsEven
even-after arena slots history legal = kept-entries IsEven even-kept history (empty arena slots) legal (even-begin arena slots)

pub lies-on-eights : Always LiesOnEights
lies-on-eights arena slots history legal =
    All-from_recursion IsOnEights (occupied (after arena slots history)) (even-all (after arena slots history) (even-after arena slots history legal))

pub has-slots : Always HasSlots
has-slots arena slots history legal = (even-after arena slots history legal).few

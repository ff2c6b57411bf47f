-- Reservation places as contracts see them, and what becomes of the open ones where one place changes.
use Rattle.std.proofs.Common.{◌≡◌, ℕ, zero, suc, ◌+◌, ◌<◌, ◌≤◌, true, false, get_or, List, [], ◌∷◌, ◌++◌, length, map}
use Rattle.std.proofs.Common.{set, Option, Some, None, refl, sym, ap, ◌∙◌, arith}
use Rattle.std.specs.Prelude.{is_none}
use Rattle.std.specs.List.{position, position_from, position_or_len}
use Rattle.std.proofs.lemmas.Grind.{common_steps}
use Rattle.std.proofs.lemmas.List.Sums.{position_or_len_is}
use Rattle.std.specs.Option.{option_map}
use Rattle.std.proofs.lemmas.List.{get_or-map}
use Rattle.std.proofs.lemmas.Iterator.Adapters.{position_from-zero}
use Rattle.ldm_types.specs.Arena.{Region}
use Rattle.ldm_model.specs.Stat.{extents}
use Rattle.ldm_book.specs.View.{KeptReservation, Reservations, open_kept}
use Rattle.ldm_book.specs.Products.{kept_extent, reservation_at, reserved_region}
use Rattle.ldm_book.specs.Reserved.{KeptPlace, KeptPlaces, kept_place, kept_places, least_empty, open_places, place_at, reservation_of, reservations_of}
use Rattle.ldm_book.specs.declared.reservations.Place.{Place}

-- what is seen of a place
pub reservation-at : (places : KeptPlaces) (r : ℕ) → reservation_at (reservations_of places) r ≡ option_map reservation_of (place_at places r)
reservation-at [] r = refl
reservation-at (place ∷ places) zero = refl
reservation-at (place ∷ places) (suc r) = reservation-at places r

pub open-places : (places : KeptPlaces) → length (open_places places) ≡ length (open_kept (reservations_of places))
open-places [] = refl
open-places (None ∷ places) = open-places places
open-places (Some place ∷ places) = ap suc (open-places places)

-- no more are open than there are
pub few_open : (places : KeptPlaces) → length (open_places places) ≤ length places
few_open [] = omega arith
few_open (None ∷ places) = omega (arith, few_open places)
few_open (Some place ∷ places) = omega (arith, few_open places)

pub none-none : (o : Option KeptPlace) → option_map reservation_of o ≡ None → o ≡ None
none-none None e = refl
none-none (Some place) e = absurd cc

-- an empty place gets a reservation
module _ (v : KeptReservation) where
  pub length-reserve : (rs : Reservations) (r : ℕ) → reservation_at rs r ≡ None → r < length rs → length (open_kept (set rs r (Some v))) ≡ suc (length (open_kept rs))
  length-reserve [] r none inside = absurd (omega arith)
  length-reserve (None ∷ rs) zero none inside = refl
  length-reserve (Some o ∷ rs) zero none inside = absurd cc
  length-reserve (None ∷ rs) (suc r) none inside = length-reserve rs r none (omega arith)
  length-reserve (Some o ∷ rs) (suc r) none inside = ap suc (length-reserve rs r none (omega arith))

  pub extents-reserve : (rs : Reservations) (r : ℕ) → reservation_at rs r ≡ None → r < length rs
      → extents (map reserved_region (open_kept (set rs r (Some v)))) ≡ extents (map reserved_region (open_kept rs)) + kept_extent v.product
  extents-reserve [] r none inside = absurd (omega arith)
  extents-reserve (None ∷ rs) zero none inside = omega arith
  extents-reserve (Some o ∷ rs) zero none inside = absurd cc
  extents-reserve (None ∷ rs) (suc r) none inside = extents-reserve rs r none (omega arith)
  extents-reserve (Some o ∷ rs) (suc r) none inside = omega (arith, extents-reserve rs r none (omega arith))

  -- a reservation ends
  pub length-ended : (rs : Reservations) (r : ℕ) → reservation_at rs r ≡ Some v → length (open_kept rs) ≡ suc (length (open_kept (set rs r None)))
  length-ended [] r at = absurd cc
  length-ended (None ∷ rs) zero at = absurd cc
  length-ended (Some o ∷ rs) zero at = refl
  length-ended (None ∷ rs) (suc r) at = length-ended rs r at
  length-ended (Some o ∷ rs) (suc r) at = ap suc (length-ended rs r at)

  pub extents-ended : (rs : Reservations) (r : ℕ) → reservation_at rs r ≡ Some v
      → extents (map reserved_region (open_kept rs)) ≡ extents (map reserved_region (open_kept (set rs r None))) + kept_extent v.product
  extents-ended [] r at = absurd cc
  extents-ended (None ∷ rs) zero at = absurd cc
  extents-ended (Some o ∷ rs) zero at =
      let same : o ≡ v = cc in
      let size = ap (λ (x : KeptReservation). kept_extent x.product) same in
      omega arith
  extents-ended (None ∷ rs) (suc r) at = extents-ended rs r at
  extents-ended (Some o ∷ rs) (suc r) at = omega (arith, extents-ended rs r at)

  -- what was filled in changes no region
  pub regions-filled : (rs : Reservations) (r filled : ℕ) → reservation_at rs r ≡ Some v
      → map reserved_region (open_kept (set rs r (Some (record v { filled = filled })))) ≡ map reserved_region (open_kept rs)
  regions-filled [] r filled at = absurd cc
  regions-filled (None ∷ rs) zero filled at = absurd cc
  regions-filled (Some o ∷ rs) zero filled at =
      let same : v ≡ o = cc in
      ap (λ (x : KeptReservation). reserved_region x ∷ map reserved_region (open_kept rs)) same
  regions-filled (None ∷ rs) (suc r) filled at = regions-filled rs r filled at
  regions-filled (Some o ∷ rs) (suc r) filled at = ap (λ (regions : List Region). reserved_region o ∷ regions) (regions-filled rs r filled at)

  pub length-filled : (rs : Reservations) (r filled : ℕ) → reservation_at rs r ≡ Some v → length (open_kept (set rs r (Some (record v { filled = filled })))) ≡ length (open_kept rs)
  length-filled [] r filled at = absurd cc
  length-filled (None ∷ rs) zero filled at = absurd cc
  length-filled (Some o ∷ rs) zero filled at = refl
  length-filled (None ∷ rs) (suc r) filled at = length-filled rs r filled at
  length-filled (Some o ∷ rs) (suc r) filled at = ap suc (length-filled rs r filled at)

-- the extents of two lists of regions
pub extents-append : (xs ys : List Region) → extents (xs ++ ys) ≡ extents xs + extents ys
extents-append [] ys = omega arith
extents-append (x ∷ xs) ys = omega (arith, extents-append xs ys)

-- the least empty place, as contracts see it
pub least-seen : (places : KeptPlaces) (i : ℕ) → position_from is_none i (reservations_of places) ≡ position_from is_none i places
least-seen [] i = refl
least-seen (None ∷ places) i = refl
least-seen (Some place ∷ places) i = least-seen places (i + 1)

-- the first empty place is the least
pub least_here : (places : KeptPlaces) (k : ℕ) → k < length places → ((i : ℕ) → i < k → is_none (place_at places i) ≡ false) → is_none (place_at places k) ≡ true → Some k ≡ least_empty places
least_here places k inside before here =
    let at : position_or_len is_none places ≡ k = position_or_len_is is_none places k None (omega arith) before (λ more. here) in
    grind (arith, common_steps)

pub least_none : (places : KeptPlaces) → ((i : ℕ) → i < length places → is_none (place_at places i) ≡ false) → None ≡ least_empty places
least_none places all =
    let at : position_or_len is_none places ≡ length places = position_or_len_is is_none places (length places) None (omega arith) all (λ inside. absurd (omega arith)) in
    grind (arith, common_steps)

none-map : (o : Option Place) → is_none (option_map kept_place o) ≡ is_none o
none-map None = refl
none-map (Some place) = refl

-- whether a place is empty, as it is read
pub none_read : (items : List (Option Place)) (r : ℕ) (place : Option Place) → r < length items → place ≡ get_or items r place → is_none (place_at (kept_places items) r) ≡ is_none place
none_read items r place inside read =
    ap is_none (get_or-map (option_map kept_place) items r place None inside) ∙ ap (λ (o : Option Place). is_none (option_map kept_place o)) (sym read) ∙ none-map place

-- the least empty place is the one that contracts see
pub least-empty : (places : KeptPlaces) → least_empty places ≡ position is_none (reservations_of places)
least-empty places = position_from-zero is_none places ∙ sym (least-seen places 0) ∙ sym (position_from-zero is_none (reservations_of places))

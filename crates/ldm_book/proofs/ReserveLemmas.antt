-- What becomes of the slots and of their extents where a region is reserved, committed or given up.
use Rattle.std.proofs.Common.{◌≡◌, ◌≢◌, ℕ, ◌+◌, ◌<◌, List, [], ◌∷◌, length, map, set, Option, Some, None, refl, sym, ap, ◌∙◌, inl, inr, get_or-set_same, get_or-set_other, arith}
use Rattle.std.specs.FinMap as fin
use Rattle.std.specs.List.{AllByRecursion}
use Rattle.std.specs.Option.{option_map}
use Rattle.std.proofs.lemmas.Bool.{cases_eq}
use Rattle.std.proofs.lemmas.List.{set-set}
use Rattle.ldm_model.specs.Stat.{extents}
use Rattle.ldm_regions.specs.Layout.{Owned}
use Rattle.ldm_book.specs.View.{Kept, KeptReservation, Reservations, open_kept}
use Rattle.ldm_book.specs.Products.{ProductsView, kept_extent, kept_region, occupied_by, reservation_at, reserved_region}
use Rattle.ldm_book.specs.Reserved.{KeptPlace, KeptPlaces, place_at, reservation_of, reservations_of}
use Rattle.ldm_book.specs.Slots.{Slots, row_at, AreFree, HaveOwn, taken_from}
use Rattle.ldm_book.proofs.OpenPlacesLemmas.{extents-append, extents-ended, extents-reserve, none-none, reservation-at}
use Rattle.ldm_book.proofs.AreFreeLemmas.{free-set}
use Rattle.ldm_book.proofs.TakenLemmas.{avoid_others, other_than, own-ended, own-set, place_taken, taken-ended, taken-set}

-- a place that contracts see empty is empty
pub empty_place : (places : KeptPlaces) (r : ℕ) → reservation_at (reservations_of places) r ≡ None → place_at places r ≡ None
empty_place places r none = none-none (place_at places r) (sym (reservation-at places r) ∙ none)

-- and one that they see open has a reservation
pub open_place : (places : KeptPlaces) (r : ℕ) (v : KeptReservation) → reservation_at (reservations_of places) r ≡ Some v → (q : KeptPlace) × (place_at places r ≡ Some q) × (reservation_of q ≡ v)
open_place places r v at = by_place (place_at places r) refl (sym (reservation-at places r) ∙ at)
  where
    by_place : (o : Option KeptPlace) → place_at places r ≡ o → option_map reservation_of (place_at places r) ≡ Some v → (q : KeptPlace) × (place_at places r ≡ Some q) × (reservation_of q ≡ v)
    by_place None e same = absurd (let both : option_map reservation_of None ≡ Some v = ap (option_map reservation_of) (sym e) ∙ same in cc)
    by_place (Some q) e same = (let both : Some (reservation_of q) ≡ Some v = ap (option_map reservation_of) (sym e) ∙ same in (q, e, cc))

-- the reservation that contracts see at an open place
pub seen_place : (places : KeptPlaces) (r : ℕ) (q : KeptPlace) → Some q ≡ place_at places r → reservation_at (reservations_of places) r ≡ Some (reservation_of q)
seen_place places r q at = reservation-at places r ∙ ap (option_map reservation_of) (sym at)

-- what a place has is what contracts see there
pub same_place : (p : KeptPlaces) (view : ProductsView) (r : ℕ) (q : KeptPlace) (v : KeptReservation) → reservations_of p ≡ view.reservations → Some q ≡ place_at p r
    → reservation_at view.reservations r ≡ Some v → reservation_of q ≡ v
same_place p view r q v is at there =
    let both : Some (reservation_of q) ≡ Some v = sym (seen_place p r q at) ∙ ap (λ (rs : Reservations). reservation_at rs r) is ∙ there in
    cc

-- the extents with one region more, and with one less
pub used-reserve : (rows : List Kept) (rs : Reservations) (r : ℕ) (v : KeptReservation) → reservation_at rs r ≡ None → r < length rs
    → extents (occupied_by rows (set rs r (Some v))) ≡ extents (occupied_by rows rs) + kept_extent v.product
used-reserve rows rs r v none inside =
    let front = map kept_region rows in
    omega (arith, extents-append front (map reserved_region (open_kept rs)), extents-append front (map reserved_region (open_kept (set rs r (Some v)))), extents-reserve v rs r none inside)

pub used-ended : (rows : List Kept) (rs : Reservations) (r : ℕ) (v : KeptReservation) → reservation_at rs r ≡ Some v
    → extents (occupied_by rows rs) ≡ extents (occupied_by rows (set rs r None)) + kept_extent v.product
used-ended rows rs r v at =
    let front = map kept_region rows in
    omega (arith, extents-append front (map reserved_region (open_kept rs)), extents-append front (map reserved_region (open_kept (set rs r None))), extents-ended v rs r at)

-- a slot that is taken is none of the free ones
free_apart : (slots : Slots) (k : ℕ) (row : Kept) (ks : List ℕ) → row_at slots k ≡ Some row → AreFree slots ks → AllByRecursion (λ other. other ≢ k) ks
free_apart slots k row [] at free = tt
free_apart slots k row (x ∷ xs) at free = ((λ same. other_than slots x k row free.1 at (sym same)), free_apart slots k row xs at free.3)

-- a reservation becomes a product, in its slot
module _ (slots : Slots) (places : KeptPlaces) (r : ℕ) (q : KeptPlace) (own : HaveOwn slots places) (at : place_at places r ≡ Some q) (row : Kept) where
  abbrev taken : Slots
  taken = taken_from slots places

  pub taken-committed : taken_from (set slots q.slot (Some row)) (set places r None) ≡ set taken q.slot (Some row)
  taken-committed =
      taken-set slots (set places r None) q.slot (Some row) (avoid_others slots q places r own at)
      ∙ ap (λ (s : Slots). set s q.slot (Some row)) (taken-ended slots q places r own at)
      ∙ set-set taken q.slot None (Some row)

  pub own-committed : HaveOwn (set slots q.slot (Some row)) (set places r None)
  own-committed = own-set slots (set places r None) q.slot (Some row) (avoid_others slots q places r own at) (own-ended slots q places r own at)

  -- it owns the same region
  pub owned-committed : (owned : Owned) → q.slot < length taken → kept_region row ≡ kept_region q.product → ((k : ℕ) → fin.get owned k ≡ option_map kept_region (row_at taken k)) → (k : ℕ)
      → fin.get owned k ≡ option_map kept_region (row_at (set taken q.slot (Some row)) k)
  owned-committed owned inside same is k = is k ∙ elim (cases_eq k q.slot) [
    | inl here ↦
        ap (λ (j : ℕ). option_map kept_region (row_at taken j)) here ∙ ap (option_map kept_region) (place_taken slots q places r own at)
        ∙ ap (λ region. Some region) (sym same)
        ∙ ap (option_map kept_region) (sym (ap (row_at (set taken q.slot (Some row))) here ∙ get_or-set_same taken q.slot (Some row) None inside))
    | inr other ↦ ap (option_map kept_region) (sym (get_or-set_other taken q.slot k (Some row) None other))
  ]

  pub free-committed : (free : List ℕ) → AreFree taken free → AreFree (set taken q.slot (Some row)) free
  free-committed free are = free-set taken free q.slot (Some row) (free_apart taken q.slot q.product free (place_taken slots q places r own at) are) are

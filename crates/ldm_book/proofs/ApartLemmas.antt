-- What lies apart from one product or reservation, where all that occupies the arena lies apart.
use Rattle.std.proofs.Common.{◌≡◌, ◌≢◌, ℕ, zero, suc, ◌+◌, ◌≤◌, List, [], ◌∷◌, ◌++◌, map, set, Option, Some, None, refl, ap, subst, inl, inr}
use Rattle.std.specs.Prelude.{slice_index_or}
use Rattle.std.specs.List.{AllByRecursion}
use Rattle.std.specs.Option.{IfSome}
use Rattle.ldm_types.specs.Arena.{Region, AreApart}
use Rattle.ldm_book.specs.View.{Kept, KeptReservation, Reservations, open_kept}
use Rattle.ldm_book.specs.Products.{LieApart, kept_extent, kept_region, occupied_by, reservation_at, reserved_region}

-- what holds of each place that is not empty
abbrev pub Each : {X : Type 0} → (X → Type 0) → List (Option X) → Type 0
Each P [] = Unit {0}
Each P (place ∷ places) = IfSome place P × Each P places

-- and of each other than the one at an index
abbrev pub Others : {X : Type 0} → (X → Type 0) → ℕ → List (Option X) → Type 0
Others P r [] = Unit {0}
Others P zero (place ∷ places) = Each P places
Others P (suc r) (place ∷ places) = IfSome place P × Others P r places

pub each-at : {X : Type 0} (P : X → Type 0) (places : List (Option X)) (r : ℕ) (x : X) → slice_index_or places r None ≡ Some x → Each P places → P x
each-at P [] r x at all = absurd cc
each-at P (place ∷ places) zero x at all = subst (λ o. IfSome o P) at all.0
each-at P (place ∷ places) (suc r) x at all = each-at P places r x at all.1

pub others-at : {X : Type 0} (P : X → Type 0) (places : List (Option X)) (r k : ℕ) (x : X) → k ≢ r → slice_index_or places k None ≡ Some x → Others P r places → P x
others-at P [] r k x apart at all = absurd cc
others-at P (place ∷ places) zero zero x apart at all = absurd (apart refl)
others-at P (place ∷ places) zero (suc k) x apart at all = each-at P places k x at all
others-at P (place ∷ places) (suc r) zero x apart at all = subst (λ o. IfSome o P) at all.0
others-at P (place ∷ places) (suc r) (suc k) x apart at all = others-at P places r k x (λ e. apart (ap suc e)) at all.1

-- what follows for each
pub each-more : {X : Type 0} (P Q : X → Type 0) → ((x : X) → P x → Q x) → (places : List (Option X)) → Each P places → Each Q places
each-more P Q f [] all = tt
each-more P Q f (None ∷ places) all = (tt, each-more P Q f places all.1)
each-more P Q f (Some x ∷ places) all = (f x all.0, each-more P Q f places all.1)

-- those that are open, and each
pub each-open : (P : KeptReservation → Type 0) (rs : Reservations) → AllByRecursion P (open_kept rs) → Each P rs
each-open P [] all = tt
each-open P (None ∷ rs) all = (tt, each-open P rs all)
each-open P (Some v ∷ rs) all = (all.0, each-open P rs all.1)

pub open-each : (P : KeptReservation → Type 0) (rs : Reservations) → Each P rs → AllByRecursion P (open_kept rs)
open-each P [] all = tt
open-each P (None ∷ rs) all = open-each P rs all.1
open-each P (Some v ∷ rs) all = (all.0, open-each P rs all.1)

swap : (one other : Region) → AreApart one other → AreApart other one
swap one other (inl before) = inr before
swap one other (inr behind) = inl behind

-- regions behind others lie apart
pub behind : (arena : ℕ) (xs ys : List Region) → LieApart arena (xs ++ ys) → LieApart arena ys
behind arena [] ys apart = apart
behind arena (x ∷ xs) ys apart = behind arena xs ys apart.2

all_front : (P : Region → Type 0) (xs ys : List Region) → AllByRecursion P (xs ++ ys) → AllByRecursion P ys
all_front P [] ys all = all
all_front P (x ∷ xs) ys all = all_front P xs ys all.1

-- an open one among these
open-at : (P : Region → Type 0) (rs : Reservations) (r : ℕ) (v : KeptReservation) → reservation_at rs r ≡ Some v → AllByRecursion P (map reserved_region (open_kept rs)) → P (reserved_region v)
open-at P [] r v at all = absurd cc
open-at P (None ∷ rs) zero v at all = absurd cc
open-at P (Some o ∷ rs) zero v at all = let same : o ≡ v = cc in subst (λ (x : KeptReservation). P (reserved_region x)) same all.0
open-at P (None ∷ rs) (suc r) v at all = open-at P rs r v at all
open-at P (Some o ∷ rs) (suc r) v at all = open-at P rs r v at all.1

open-all : (P : Region → Type 0) (rs : Reservations) → AllByRecursion P (map reserved_region (open_kept rs)) → Each (λ (o : KeptReservation). P (reserved_region o)) rs
open-all P [] all = tt
open-all P (None ∷ rs) all = (tt, open-all P rs all)
open-all P (Some o ∷ rs) all = (all.0, open-all P rs all.1)

others-open : (arena : ℕ) (rs : Reservations) (r : ℕ) (v : KeptReservation) → reservation_at rs r ≡ Some v → LieApart arena (map reserved_region (open_kept rs))
    → Others (λ (o : KeptReservation). AreApart (reserved_region o) (reserved_region v)) r rs
others-open arena [] r v at apart = tt
others-open arena (None ∷ rs) zero v at apart = absurd cc
others-open arena (Some o ∷ rs) zero v at apart =
    let same : o ≡ v = cc in
    subst (λ (x : KeptReservation). Each (λ (o : KeptReservation). AreApart (reserved_region o) (reserved_region x)) rs) same
    (each-more (λ (x : KeptReservation). AreApart (reserved_region o) (reserved_region x)) (λ (x : KeptReservation). AreApart (reserved_region x) (reserved_region o))
    (λ x a. swap (reserved_region o) (reserved_region x) a) rs
    (open-all (λ region. AreApart (reserved_region o) region) rs apart.1))
others-open arena (None ∷ rs) (suc r) v at apart = (tt, others-open arena rs r v at apart)
others-open arena (Some o ∷ rs) (suc r) v at apart = (open-at (λ region. AreApart (reserved_region o) region) rs r v at apart.1, others-open arena rs r v at apart.2)

-- apart from a reservation lie the products
pub rows_from_reserved : (arena : ℕ) (rows : List Kept) (rs : Reservations) (r : ℕ) (v : KeptReservation) → reservation_at rs r ≡ Some v → LieApart arena (occupied_by rows rs)
    → AllByRecursion (λ (k : Kept). AreApart (kept_region k) (reserved_region v)) rows
rows_from_reserved arena [] rs r v at apart = tt
rows_from_reserved arena (k ∷ ks) rs r v at apart = (
  open-at (λ region. AreApart (kept_region k) region) rs r v at
      (all_front (λ region. AreApart (kept_region k) region) (map kept_region ks) (map reserved_region (open_kept rs)) apart.1),
  rows_from_reserved arena ks rs r v at apart.2,
)

-- and the other reservations
pub others_from_reserved : (arena : ℕ) (rows : List Kept) (rs : Reservations) (r : ℕ) (v : KeptReservation) → reservation_at rs r ≡ Some v → LieApart arena (occupied_by rows rs)
    → Others (λ (o : KeptReservation). AreApart (reserved_region o) (reserved_region v)) r rs
others_from_reserved arena rows rs r v at apart = others-open arena rs r v at (behind arena (map kept_region rows) (map reserved_region (open_kept rs)) apart)

within-open : (arena : ℕ) (rs : Reservations) (r : ℕ) (v : KeptReservation) → reservation_at rs r ≡ Some v → LieApart arena (map reserved_region (open_kept rs))
    → v.product.place + kept_extent v.product ≤ arena
within-open arena [] r v at apart = absurd cc
within-open arena (None ∷ rs) zero v at apart = absurd cc
within-open arena (Some o ∷ rs) zero v at apart = let same : o ≡ v = cc in subst (λ (x : KeptReservation). x.product.place + kept_extent x.product ≤ arena) same apart.0
within-open arena (None ∷ rs) (suc r) v at apart = within-open arena rs r v at apart
within-open arena (Some o ∷ rs) (suc r) v at apart = within-open arena rs r v at apart.2

-- it lies in the arena
pub reserved_within : (arena : ℕ) (rows : List Kept) (rs : Reservations) (r : ℕ) (v : KeptReservation) → reservation_at rs r ≡ Some v → LieApart arena (occupied_by rows rs)
    → v.product.place + kept_extent v.product ≤ arena
reserved_within arena rows rs r v at apart = within-open arena rs r v at (behind arena (map kept_region rows) (map reserved_region (open_kept rs)) apart)

-- apart from the last of the products lie the others
pub rows_from_last : (arena : ℕ) (rows : List Kept) (new : Kept) (rs : Reservations) → LieApart arena (occupied_by (rows ++ new ∷ []) rs)
    → AllByRecursion (λ (k : Kept). AreApart (kept_region k) (kept_region new)) rows
rows_from_last arena [] new rs apart = tt
rows_from_last arena (k ∷ ks) new rs apart = (last ks apart.1, rows_from_last arena ks new rs apart.2)
  where
    last : (others : List Kept) → AllByRecursion (λ region. AreApart (kept_region k) region) (map kept_region (others ++ new ∷ []) ++ map reserved_region (open_kept rs))
        → AreApart (kept_region k) (kept_region new)
    last [] all = all.0
    last (other ∷ others) all = last others all.1

-- and the reservations
pub reserved_from_last : (arena : ℕ) (rows : List Kept) (new : Kept) (rs : Reservations) → LieApart arena (occupied_by (rows ++ new ∷ []) rs)
    → Each (λ (o : KeptReservation). AreApart (reserved_region o) (kept_region new)) rs
reserved_from_last arena [] new rs apart =
    each-more (λ (x : KeptReservation). AreApart (kept_region new) (reserved_region x)) (λ (x : KeptReservation). AreApart (reserved_region x) (kept_region new))
    (λ x a. swap (kept_region new) (reserved_region x) a) rs
    (open-all (λ region. AreApart (kept_region new) region) rs apart.1)
reserved_from_last arena (k ∷ ks) new rs apart = reserved_from_last arena ks new rs apart.2

-- a place that is given another reservation is none of the others
pub others-set : {X : Type 0} (P : X → Type 0) (places : List (Option X)) (r : ℕ) (place : Option X) → Others P r (set places r place) → Others P r places
others-set P [] r place all = tt
others-set P (old ∷ places) zero place all = all
others-set P (old ∷ places) (suc r) place all = (all.0, others-set P places r place all.1)

-- The regions of a state lie within the arena and apart: those of present rows and of open reservations, each by its key.
use Rattle.std.proofs.Common.{◌≡◌, ◌∙◌, ◌≢◌, ℕ, zero, suc, ◌+◌, ◌<◌, ◌≤◌, List, [], ◌∷◌, ◌++◌, length, map, All, Option, Some, None, refl, sym, ap, subst, inl, inr, arith}
use Rattle.std.proofs.Common.{get_or-set_same, get_or-set_other}
use Rattle.std.specs.Prelude.{◌⊎◌, set, slice_get, slice_index_or}
use Rattle.std.specs.List.{AllByRecursion, AllPairs}
use Rattle.std.specs.Option.{option_map}
use Rattle.std.proofs.lemmas.Option.{none-some, same_Some}
use Rattle.std.proofs.lemmas.Bool.{cases_eq}
use Rattle.std.proofs.lemmas.List.Elements.{All-nil, All-cons, All-append, All-map}
use Rattle.std.proofs.lemmas.List.Kept.{AllPairs-cons}
use Rattle.ldm_types.specs.Info.{Metadata}
use Rattle.ldm_types.specs.Arena.{Region, AreApart}
use Rattle.ldm_model.specs.Product.{extent_of}
use Rattle.ldm_model.specs.State.{State, Row, Reservation, Queued, queued, queued_from, add_queued, region_of, open_ones, reserved, reserved_region, occupied}
use Rattle.ldm_model.specs.Evict.{without_place, evict, evict_row, evict_all}
use Rattle.ldm_model.specs.Room.{fit_in}
use Rattle.ldm_model.proofs.Places.{place-within, place-set}
use Rattle.ldm_model.proofs.ApartFit.{AreSome, IsFit-fit}

-- whose region it is: of a row, by its number, or of a reservation, by its place
pub data Key : Type 0 where
  of_row : ℕ → Key
  of_place : ℕ → Key

abbrev region_with : Row → Option ℕ → Option Region
region_with row None = None
region_with row (Some place) = Some (record { start = place; extent = extent_of row.product.info })

-- the region of a row, where it is present
abbrev pub row_region : Option Row → Option Region
row_region None = None
row_region (Some row) = region_with row row.place

abbrev pub region_at : List Row → List (Option Reservation) → Key → Option Region
region_at rows places (of_row n) = row_region (slice_get rows n)
region_at rows places (of_place r) = option_map reserved_region (slice_index_or places r None)

-- a region within the arena, and apart from these
pub record IsBeside (arena : ℕ) (rows : List Row) (places : List (Option Reservation)) (g : Region) : Type 0 where
  pub within : g.start + g.extent ≤ arena
  pub beside : (k : Key) (h : Region) → region_at rows places k ≡ Some h → AreApart g h

pub record IsLaid (arena : ℕ) (rows : List Row) (places : List (Option Reservation)) : Type 0 where
  pub within : (k : Key) (g : Region) → region_at rows places k ≡ Some g → g.start + g.extent ≤ arena
  pub apart : (k l : Key) (g h : Region) → k ≢ l → region_at rows places k ≡ Some g → region_at rows places l ≡ Some h → AreApart g h

abbrev pub Laid : ℕ → State → Type 0
Laid arena s = (s.arena ≡ arena) × IsLaid arena s.rows s.reservations

other-way : (g h : Region) → AreApart g h → AreApart h g
other-way g h apart = elim apart [ inl x ↦ inr x | inr x ↦ inl x ]

module _ (arena : ℕ) (rows : List Row) (places : List (Option Reservation)) (laid : IsLaid arena rows places) where
  module _ (rows' : List Row) (places' : List (Option Reservation)) where
    -- regions are taken out at most
    pub IsLaid-fewer : ((k : Key) (g : Region) → region_at rows' places' k ≡ Some g → region_at rows places k ≡ Some g) → IsLaid arena rows' places'
    IsLaid-fewer old = record {
      within = λ k g at. laid.within k g (old k g at);
      apart = λ k l g h other at at'. laid.apart k l g h other (old k g at) (old l h at');
    }

    -- a region is added at most
    pub IsLaid-more : (key : Key) (new : Option Region) → ((g : Region) → new ≡ Some g → IsBeside arena rows places g)
        → ((k : Key) (g : Region) → region_at rows' places' k ≡ Some g → ((k ≡ key) × (new ≡ Some g)) ⊎ (region_at rows places k ≡ Some g)) → IsLaid arena rows' places'
    IsLaid-more key new fits old = record {
      within = λ k g at. elim (old k g at) [ inl x ↦ (fits g x.1).within | inr x ↦ laid.within k g x ];
      apart = λ k l g h other at at'. elim (old k g at) [
        | inl x ↦ elim (old l h at') [
          | inl y ↦ absurd (other (x.0 ∙ sym y.0))
          | inr y ↦ (fits g x.1).beside l h y
        ]
        | inr x ↦ elim (old l h at') [
          | inl y ↦ other-way h g ((fits h y.1).beside k g x)
          | inr y ↦ laid.apart k l g h other x y
        ]
      ];
    }

row_region-without : (rows : List Row) (m n : ℕ) (g : Region) → row_region (slice_get (without_place rows m) n) ≡ Some g → row_region (slice_get rows n) ≡ Some g
row_region-without [] m n g at = at
row_region-without (row ∷ rows) zero zero g at = absurd cc
row_region-without (row ∷ rows) zero (suc n) g at = at
row_region-without (row ∷ rows) (suc m) zero g at = at
row_region-without (row ∷ rows) (suc m) (suc n) g at = row_region-without rows m n g at

row_region-push : (rows : List Row) (new : Row) (n : ℕ) (g : Region) → row_region (slice_get (rows ++ new ∷ []) n) ≡ Some g
    → ((n ≡ length rows) × (row_region (Some new) ≡ Some g)) ⊎ (row_region (slice_get rows n) ≡ Some g)
row_region-push [] new zero g at = inl (refl, at)
row_region-push [] new (suc n) g at = absurd cc
row_region-push (row ∷ rows) new zero g at = inr at
row_region-push (row ∷ rows) new (suc n) g at = elim (row_region-push rows new n g at) [ inl x ↦ inl (ap (λ (i : ℕ). suc i) x.0, x.1) | inr x ↦ inr x ]

pub Laid-evict : (arena : ℕ) (s : State) (m : ℕ) → Laid arena s → Laid arena (evict s m)
Laid-evict arena s m laid = by_row (slice_get s.rows m)
  where
    old : (k : Key) (g : Region) → region_at (without_place s.rows m) s.reservations k ≡ Some g → region_at s.rows s.reservations k ≡ Some g
    old (of_row n) g at = row_region-without s.rows m n g at
    old (of_place r) g at = at

    by_row : (row : Option Row) → Laid arena (evict_row s m row)
    by_row None = laid
    by_row (Some row) = (laid.0, IsLaid-fewer arena s.rows s.reservations laid.1 (without_place s.rows m) s.reservations old)

pub Laid-evict_all : (arena : ℕ) (ms : List ℕ) (s : State) → Laid arena s → Laid arena (evict_all s ms)
Laid-evict_all arena [] s laid = laid
Laid-evict_all arena (m ∷ ms) s laid = Laid-evict_all arena ms (evict s m) (Laid-evict arena s m laid)

module _ (arena : ℕ) (rows : List Row) (places : List (Option Reservation)) (laid : IsLaid arena rows places) where
  pub IsLaid-row : (new : Row) → ((g : Region) → row_region (Some new) ≡ Some g → IsBeside arena rows places g) → IsLaid arena (rows ++ new ∷ []) places
  IsLaid-row new fits = IsLaid-more arena rows places laid (rows ++ new ∷ []) places (of_row (length rows)) (row_region (Some new)) fits old
    where
      old : (k : Key) (g : Region) → region_at (rows ++ new ∷ []) places k ≡ Some g → ((k ≡ of_row (length rows)) × (row_region (Some new) ≡ Some g)) ⊎ (region_at rows places k ≡ Some g)
      old (of_row n) g at = elim (row_region-push rows new n g at) [ inl x ↦ inl (ap (λ (i : ℕ). of_row i) x.0, x.1) | inr x ↦ inr x ]
      old (of_place r) g at = inr at

  pub IsLaid-place : (r : ℕ) (place : Option Reservation) → ((g : Region) → option_map reserved_region place ≡ Some g → IsBeside arena rows places g) → IsLaid arena rows (set places r place)
  IsLaid-place r place fits = IsLaid-more arena rows places laid rows (set places r place) (of_place r) (option_map reserved_region place) fits old
    where
      old : (k : Key) (g : Region) → region_at rows (set places r place) k ≡ Some g → ((k ≡ of_place r) × (option_map reserved_region place ≡ Some g)) ⊎ (region_at rows places k ≡ Some g)
      old (of_row n) g at = inr at
      old (of_place q) g at = elim (place-set places r q place) [
        | inl x ↦ inl (ap (λ (i : ℕ). of_place i) x.0, ap (option_map reserved_region) (sym x.1) ∙ at)
        | inr x ↦ inr (ap (option_map reserved_region) (sym x) ∙ at)
      ]

  -- the reservation of a place ends, or stays in its region
  pub IsLaid-same_place : (r : ℕ) (place : Option Reservation) → ((g : Region) → option_map reserved_region place ≡ Some g → option_map reserved_region (slice_index_or places r None) ≡ Some g)
      → IsLaid arena rows (set places r place)
  IsLaid-same_place r place stays = IsLaid-fewer arena rows places laid rows (set places r place) old
    where
      old : (k : Key) (g : Region) → region_at rows (set places r place) k ≡ Some g → region_at rows places k ≡ Some g
      old (of_row n) g at = at
      old (of_place q) g at = elim (place-set places r q place) [
        | inl x ↦ ap (λ (i : ℕ). option_map reserved_region (slice_index_or places i None)) x.0 ∙ stays g (ap (option_map reserved_region) (sym x.1) ∙ at)
        | inr x ↦ ap (option_map reserved_region) (sym x) ∙ at
      ]

  -- a reservation that has ended leaves its region free
  pub IsBeside-ended : (r : ℕ) (reservation : Reservation) → slice_index_or places r None ≡ Some reservation → IsBeside arena rows (set places r None) (reserved_region reservation)
  IsBeside-ended r reservation there = record {
    within = laid.within (of_place r) (reserved_region reservation) (ap (option_map reserved_region) there);
    beside = beside;
  }
    where
      mine : option_map reserved_region (slice_index_or places r None) ≡ Some (reserved_region reservation)
      mine = ap (option_map reserved_region) there

      beside : (k : Key) (h : Region) → region_at rows (set places r None) k ≡ Some h → AreApart (reserved_region reservation) h
      beside (of_row n) h at = laid.apart (of_place r) (of_row n) (reserved_region reservation) h (λ e. absurd cc) mine at
      beside (of_place q) h at = elim (cases_eq r q) [
        | inl same ↦
            let gone : slice_index_or (set places r None) q None ≡ None = ap (λ (i : ℕ). slice_index_or (set places r None) i None) (sym same)
            ∙ get_or-set_same places r None None (place-within r reservation places there) in
            absurd (none-some h (ap (option_map reserved_region) (sym gone) ∙ at))
        | inr other ↦ laid.apart (of_place r) (of_place q) (reserved_region reservation) h (λ e. let same : r ≡ q = cc in other same) mine
            (ap (option_map reserved_region) (sym (get_or-set_other places r q None None (λ e. other (sym e)))) ∙ at)
      ]

-- the metadata alone take bytes
pub extent-some : (info : Metadata) → 0 < extent_of info
extent-some info = omega arith

-- What holds of what occupies the arena, and of each region by its key.
module _ (Q : Region → Type 0) where
  all-left : (xs ys : List Region) → AllByRecursion Q (xs ++ ys) → AllByRecursion Q xs
  all-left [] ys all = tt
  all-left (x ∷ xs) ys all = (all.0, all-left xs ys all.1)

  all-right : (xs ys : List Region) → AllByRecursion Q (xs ++ ys) → AllByRecursion Q ys
  all-right [] ys all = all
  all-right (x ∷ xs) ys all = all-right xs ys all.1

  row-holds : (low : ℕ) (rows : List Row) (n : ℕ) (h : Region) → AllByRecursion Q (map region_of (queued_from low rows)) → row_region (slice_get rows n) ≡ Some h → Q h
  row-holds low [] n h all at = absurd cc
  row-holds low (row ∷ rows) zero h all at = by_place row.place all at
    where
      by_place : (place : Option ℕ) → AllByRecursion Q (map region_of (add_queued low row place (queued_from (low + 1) rows))) → region_with row place ≡ Some h → Q h
      by_place None all at = absurd cc
      by_place (Some place) all at = subst Q (same_Some _ h at) all.0
  row-holds low (row ∷ rows) (suc n) h all at = row-holds (low + 1) rows n h (by_place row.place all) at
    where
      by_place : (place : Option ℕ) → AllByRecursion Q (map region_of (add_queued low row place (queued_from (low + 1) rows))) → AllByRecursion Q (map region_of (queued_from (low + 1) rows))
      by_place None all = all
      by_place (Some place) all = all.1

  place-holds : (places : List (Option Reservation)) (r : ℕ) (h : Region) → AllByRecursion Q (map reserved_region (open_ones places))
      → option_map reserved_region (slice_index_or places r None) ≡ Some h → Q h
  place-holds [] r h all at = absurd cc
  place-holds (None ∷ places) zero h all at = absurd cc
  place-holds (None ∷ places) (suc r) h all at = place-holds places r h all at
  place-holds (Some reservation ∷ places) zero h all at = subst Q (same_Some _ h at) all.0
  place-holds (Some reservation ∷ places) (suc r) h all at = place-holds places r h all.1 at

  holds-at : (s : State) → AllByRecursion Q (occupied s) → (k : Key) (h : Region) → region_at s.rows s.reservations k ≡ Some h → Q h
  holds-at s all (of_row n) h at = row-holds 0 s.rows n h (all-left (map region_of (queued s)) (map reserved_region (reserved s)) all) at
  holds-at s all (of_place r) h at = place-holds s.reservations r h (all-right (map region_of (queued s)) (map reserved_region (reserved s)) all) at

  pub rows-hold : (low : ℕ) (rows : List Row) → ((n : ℕ) (h : Region) → row_region (slice_get rows n) ≡ Some h → Q h) → All (λ q. Q (region_of q)) (queued_from low rows)
  rows-hold low [] each = All-nil (λ q. Q (region_of q))
  rows-hold low (row ∷ rows) each = by_place row.place (each zero) (rows-hold (low + 1) rows (λ n. each (suc n)))
    where
      by_place : (place : Option ℕ) → ((h : Region) → region_with row place ≡ Some h → Q h) → All (λ q. Q (region_of q)) (queued_from (low + 1) rows)
          → All (λ q. Q (region_of q)) (add_queued low row place (queued_from (low + 1) rows))
      by_place None first rest = rest
      by_place (Some place) first rest = All-cons (λ q. Q (region_of q)) _ (queued_from (low + 1) rows) (first _ refl) rest

  places-hold : (places : List (Option Reservation)) → ((r : ℕ) (h : Region) → option_map reserved_region (slice_index_or places r None) ≡ Some h → Q h)
      → All Q (map reserved_region (open_ones places))
  places-hold [] each = All-nil Q
  places-hold (None ∷ places) each = places-hold places (λ r. each (suc r))
  places-hold (Some reservation ∷ places) each = All-cons Q _ (map reserved_region (open_ones places)) (each zero _ refl) (places-hold places (λ r. each (suc r)))

  all-hold : (low : ℕ) (rows : List Row) (places : List (Option Reservation)) → ((k : Key) (h : Region) → region_at rows places k ≡ Some h → Q h)
      → All Q (map region_of (queued_from low rows) ++ map reserved_region (open_ones places))
  all-hold low rows places each = All-append Q (map region_of (queued_from low rows)) (map reserved_region (open_ones places))
      (All-map Q region_of (queued_from low rows) (rows-hold low rows (λ n. each (of_row n)))) (places-hold places (λ r. each (of_place r)))

-- no region is empty
rows-some : (qs : List Queued) (more : List Region) → AreSome more → AreSome (map region_of qs ++ more)
rows-some [] more some = some
rows-some (q ∷ qs) more some = (extent-some q.product.info, rows-some qs more some)

reservations-some : (reservations : List Reservation) → AreSome (map reserved_region reservations)
reservations-some [] = tt
reservations-some (reservation ∷ reservations) = (extent-some reservation.info, reservations-some reservations)

occupied-some : (s : State) → AreSome (occupied s)
occupied-some s = rows-some (queued s) (map reserved_region (reserved s)) (reservations-some (reserved s))

-- the place that is found for metadata is free
pub IsBeside-fit : (arena : ℕ) (s : State) → s.arena ≡ arena → (info : Metadata) (place : ℕ) → fit_in s (extent_of info) ≡ Some place
    → IsBeside arena s.rows s.reservations (record { start = place; extent = extent_of info })
IsBeside-fit arena s same info place found =
    let fits = IsFit-fit (extent_of info) (occupied s) s.arena place (extent-some info) (occupied-some s) found in
    record {
      within = omega (arith, fits.within, same);
      beside = holds-at (AreApart (record { start = place; extent = extent_of info })) s fits.beside;
    }

-- without the first row, or the first place
IsLaid-behind_row : (arena : ℕ) (row : Row) (rows : List Row) (places : List (Option Reservation)) → IsLaid arena (row ∷ rows) places → IsLaid arena rows places
IsLaid-behind_row arena row rows places laid = record { within = within; apart = apart }
  where
    behind : Key → Key
    behind (of_row n) = of_row (suc n)
    behind (of_place r) = of_place r

    at-behind : (k : Key) (g : Region) → region_at rows places k ≡ Some g → region_at (row ∷ rows) places (behind k) ≡ Some g
    at-behind (of_row n) g at = at
    at-behind (of_place r) g at = at

    back : (k l : Key) → behind k ≡ behind l → k ≡ l
    back (of_row n) (of_row m) e = let same : n ≡ m = cc in ap (λ (i : ℕ). of_row i) same
    back (of_row n) (of_place r) e = absurd cc
    back (of_place r) (of_row n) e = absurd cc
    back (of_place r) (of_place q) e = e

    within : (k : Key) (g : Region) → region_at rows places k ≡ Some g → g.start + g.extent ≤ arena
    within k g at = laid.within (behind k) g (at-behind k g at)

    apart : (k l : Key) (g h : Region) → k ≢ l → region_at rows places k ≡ Some g → region_at rows places l ≡ Some h → AreApart g h
    apart k l g h other at at' = laid.apart (behind k) (behind l) g h (λ e. other (back k l e)) (at-behind k g at) (at-behind l h at')

IsLaid-behind_place : (arena : ℕ) (place : Option Reservation) (places : List (Option Reservation)) → IsLaid arena [] (place ∷ places) → IsLaid arena [] places
IsLaid-behind_place arena place places laid = record { within = within; apart = apart }
  where
    within : (k : Key) (g : Region) → region_at [] places k ≡ Some g → g.start + g.extent ≤ arena
    within (of_row n) g at = absurd cc
    within (of_place r) g at = laid.within (of_place (suc r)) g at

    apart : (k l : Key) (g h : Region) → k ≢ l → region_at [] places k ≡ Some g → region_at [] places l ≡ Some h → AreApart g h
    apart (of_row n) l g h other at at' = absurd cc
    apart (of_place r) (of_row n) g h other at at' = absurd cc
    apart (of_place r) (of_place q) g h other at at' = laid.apart (of_place (suc r)) (of_place (suc q)) g h
        (λ e. let same : r ≡ q = cc in other (ap (λ (i : ℕ). of_place i) same)) at at'

places-apart : (arena : ℕ) (places : List (Option Reservation)) → IsLaid arena [] places → AllPairs AreApart (map reserved_region (open_ones places))
places-apart arena [] laid = λ i j d lt within. absurd (omega arith)
places-apart arena (None ∷ places) laid = places-apart arena places (IsLaid-behind_place arena None places laid)
places-apart arena (Some reservation ∷ places) laid = AllPairs-cons AreApart (reserved_region reservation) (map reserved_region (open_ones places))
    (places-hold (AreApart (reserved_region reservation)) places (λ r h at. laid.apart (of_place zero) (of_place (suc r)) (reserved_region reservation) h (λ e. absurd cc) refl at))
    (places-apart arena places (IsLaid-behind_place arena (Some reservation) places laid))

all-apart : (arena low : ℕ) (rows : List Row) (places : List (Option Reservation)) → IsLaid arena rows places
    → AllPairs AreApart (map region_of (queued_from low rows) ++ map reserved_region (open_ones places))
all-apart arena low [] places laid = places-apart arena places laid
all-apart arena low (row ∷ rows) places laid = by_place row.place refl (all-apart arena (low + 1) rows places (IsLaid-behind_row arena row rows places laid))
  where
    first : (g : Region) → region_with row row.place ≡ Some g → (k : Key) (h : Region) → region_at rows places k ≡ Some h → AreApart g h
    first g at (of_row n) h at' = laid.apart (of_row zero) (of_row (suc n)) g h (λ e. absurd cc) at at'
    first g at (of_place r) h at' = laid.apart (of_row zero) (of_place r) g h (λ e. absurd cc) at at'

    by_place : (place : Option ℕ) → row.place ≡ place → AllPairs AreApart (map region_of (queued_from (low + 1) rows) ++ map reserved_region (open_ones places))
        → AllPairs AreApart (map region_of (add_queued low row place (queued_from (low + 1) rows)) ++ map reserved_region (open_ones places))
    by_place None e apart = apart
    by_place (Some place) e apart = AllPairs-cons AreApart _ (map region_of (queued_from (low + 1) rows) ++ map reserved_region (open_ones places))
        (all-hold (AreApart (record { start = place; extent = extent_of row.product.info })) (low + 1) rows places (first _ (ap (region_with row) e))) apart

-- so what occupies the arena lies within it, and apart
pub occupied-within : (arena : ℕ) (s : State) → Laid arena s → All (λ (g : Region). g.start + g.extent ≤ arena) (occupied s)
occupied-within arena s laid = all-hold (λ (g : Region). g.start + g.extent ≤ arena) 0 s.rows s.reservations laid.1.within

pub occupied-apart : (arena : ℕ) (s : State) → Laid arena s → AllPairs AreApart (occupied s)
occupied-apart arena s laid = all-apart arena 0 s.rows s.reservations laid.1

-- Regions that lie in order tile the arena, and the gaps between them are the spaces.
use Rattle.std.proofs.Common.{◌≡◌, ℕ, ◌+◌, ◌<◌, ◌≤◌, ◌≢◌, inl, inr, Bool, true, false, cond, ◌||◌, eqb, slice_index_or, List, [], ◌∷◌, length, map, Some, None, refl, sym, ap, subst, ◌∙◌, arith}
use Rattle.std.specs.List.{list_any, filter, AllByRecursion, IsDistinct}
use Rattle.std.specs.Ordering.{nat_cmp, eq_by_cmp}
use Rattle.std.proofs.lemmas.Bool.{both_ways, eqb-true, ne_eqb}
use Rattle.std.proofs.lemmas.List.{length-map}
use Rattle.std.proofs.lemmas.Map.Steps.{length-le_from_distinct_below}
use Rattle.ldm_types.specs.Arena.{Region, covers, gaps, AreApart}
use Rattle.ldm_regions.specs.Layout.{Tiles, occupied, marked_only}
use Rattle.ldm_regions.specs.Order.{Used, region_of, Lie, HaveOwners, spaces}
use Rattle.ldm_regions.proofs.Lies.{Lie-within, Lie-filter}
use Rattle.ldm_regions.proofs.Owners.{region_at, owned_by, get-owned_by, same_owner, none_parts, itself, any-owned_by, owned_by-filter, HaveOwners-filter}
use Rattle.ldm_regions.proofs.Spaces.{gaps-spaces}

-- an owner's region is that of the first, or of a later one
found : (v : Used) (vs : List Used) (owner : ℕ) (region : Region) (P : Type 0) → region_at owner (v ∷ vs) ≡ Some region → (owner ≡ v.owner → region_of v ≡ region → P) → (region_at owner vs ≡ Some region → P) → P
found v vs owner region P at first later =
    elim (eq_by_cmp nat_cmp owner v.owner) as (λ b. eq_by_cmp nat_cmp owner v.owner ≡ b → cond b (Some (region_of v)) (region_at owner vs) ≡ Some region → P) [
      | true ↦ λ e is. first (same_owner owner v.owner e) (cc is)
      | false ↦ λ e is. later is
    ] refl at

-- where an owner's region lies
record LiesFrom (from arena : ℕ) (region : Region) : Type 0 where
  start : from ≤ region.start
  extent : 0 < region.extent
  end : region.start + region.extent ≤ arena

lies_at : (from : ℕ) (used : List Used) (arena owner : ℕ) (region : Region) → Lie from used arena → region_at owner used ≡ Some region → LiesFrom from arena region
lies_at from [] arena owner region lie at = cc
lies_at from (v ∷ vs) arena owner region lie at =
    let k = lie.0 in
    found v vs owner region (LiesFrom from arena region) at
    (λ e is. subst (LiesFrom from arena) is (record { start = k; extent = lie.1; end = Lie-within (v.start + v.extent) vs arena lie.2 }))
    (λ later. let rest = lies_at (v.start + v.extent) vs arena owner region lie.2 later in record { start = omega (arith, rest.start); extent = rest.extent; end = rest.end })

apart_at : (from : ℕ) (used : List Used) (arena owner other : ℕ) (region behind : Region) → Lie from used arena → owner ≢ other → region_at owner used ≡ Some region → region_at other used ≡ Some behind → AreApart region behind
apart_at from [] arena owner other region behind lie apart at beside = cc
apart_at from (v ∷ vs) arena owner other region behind lie apart at beside =
    found v vs owner region (AreApart region behind) at
    (λ e is. found v vs other behind (AreApart region behind) beside (λ f _. absurd (apart (e ∙ sym f)))
    (λ later. subst (λ r. AreApart r behind) is (inl (lies_at (v.start + v.extent) vs arena other behind lie.2 later).start)))
    (λ later. found v vs other behind (AreApart region behind) beside
    (λ f is. subst (λ r. AreApart region r) is (inr (lies_at (v.start + v.extent) vs arena owner region lie.2 later).start))
    (λ beyond. apart_at (v.start + v.extent) vs arena owner other region behind lie.2 apart later beyond))

below_at : (used : List Used) (slots owner : ℕ) (region : Region) → AllByRecursion (λ u. u.owner < slots) used → region_at owner used ≡ Some region → owner < slots
below_at [] slots owner region below at = cc
below_at (v ∷ vs) slots owner region below at =
    let h = below.0 in
    found v vs owner region (owner < slots) at (λ e is. omega (arith, e, h)) (λ later. below_at vs slots owner region below.1 later)

-- what is kept tiles the arena
pub tiles : (used : List Used) (arena slots : ℕ) → Lie 0 used arena → AllByRecursion (λ u. u.owner < slots) used → Tiles (record { arena = arena; slots = slots; owned = owned_by used })
tiles used arena slots lie below = record {
  owner = λ owner region at. below_at used slots owner region below (sym (get-owned_by used owner) ∙ at);
  extent = λ owner region at. (lies_at 0 used arena owner region lie (sym (get-owned_by used owner) ∙ at)).extent;
  within = λ owner region at. (lies_at 0 used arena owner region lie (sym (get-owned_by used owner) ∙ at)).end;
  apart = λ owner other region behind distinct at beside. apart_at 0 used arena owner other region behind lie distinct (sym (get-owned_by used owner) ∙ at) (sym (get-owned_by used other) ∙ beside);
}

-- an owner that has no region is none of those that have one
none_owns : (used : List Used) (owner : ℕ) → region_at owner used ≡ None → AllByRecursion (λ o. eqb owner o ≡ false) (map (λ (u : Used). u.owner) used)
none_owns [] owner none = tt
none_owns (v ∷ vs) owner none =
    let parts = none_parts (eq_by_cmp nat_cmp owner v.owner) (region_of v) (region_at owner vs) none in
    (ne_eqb owner v.owner (λ e. both_ways _ parts.0 (ap (λ n. eq_by_cmp nat_cmp owner n) (sym e) ∙ itself owner)), none_owns vs owner parts.1)

distinct_owners : (used : List Used) → HaveOwners used → IsDistinct eqb (map (λ (u : Used). u.owner) used)
unfolding IsDistinct
distinct_owners [] have = tt
distinct_owners (v ∷ vs) have = (none_owns vs v.owner have.0, distinct_owners vs have.1)

below_owners : (used : List Used) (slots q : ℕ) → AllByRecursion (λ u. u.owner < slots) used → list_any (eqb q) (map (λ (u : Used). u.owner) used) ≡ true → q < slots
below_owners [] slots q below there = absurd (both_ways false refl there)
below_owners (v ∷ vs) slots q below there =
    elim (eqb q v.owner) as (λ b. eqb q v.owner ≡ b → (b || list_any (eqb q) (map (λ (u : Used). u.owner) vs)) ≡ true → q < slots) [
      | true ↦ λ e _. let same = eqb-true q v.owner e in let h = below.0 in omega arith
      | false ↦ λ _ rest. below_owners vs slots q below.1 rest
    ] refl there

-- there are no more regions than owners
pub no_more : (used : List Used) (slots : ℕ) → HaveOwners used → AllByRecursion (λ u. u.owner < slots) used → length used ≤ slots
no_more used slots have below =
    let fits = length-le_from_distinct_below (map (λ (u : Used). u.owner) used) slots (distinct_owners used have) (λ q there. below_owners used slots q below there) in
    let same = length-map used (λ (u : Used). u.owner) in
    omega (arith, fits, same)

-- the gaps between the regions that owners have are the spaces between them
pub gaps_are : (used : List Used) (arena : ℕ) → Lie 0 used arena → HaveOwners used → gaps (occupied (owned_by used)) arena ≡ spaces 0 used arena
gaps_are used arena lie have = gaps-spaces (occupied (owned_by used)) used arena lie (λ p. any-owned_by (covers p) used have)

-- and so for those of marked owners alone
pub gaps_if_marked : (marks : List Bool) (used : List Used) (arena : ℕ) → Lie 0 used arena → HaveOwners used → gaps (occupied (marked_only marks (owned_by used))) arena ≡ spaces 0 (filter (λ u. slice_index_or marks u.owner false) used) arena
gaps_if_marked marks used arena lie have =
    let marked = filter (λ (u : Used). slice_index_or marks u.owner false) used in
    ap (λ owned. gaps (occupied owned) arena) (sym (owned_by-filter (λ owner. slice_index_or marks owner false) used))
    ∙ gaps-spaces (occupied (owned_by marked)) marked arena (Lie-filter (λ u. slice_index_or marks u.owner false) 0 used arena lie)
    (λ p. any-owned_by (covers p) marked (HaveOwners-filter (λ owner. slice_index_or marks owner false) used have))

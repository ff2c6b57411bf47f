-- Regions in the order in which they lie, and the longest of the spaces between them.
use Rattle.std.proofs.Common.{◌≡◌, ℕ, ◌+◌, ◌-◌, ◌≤◌, Bool, true, false, cond, ltb, List, [], ◌∷◌, ◌++◌, max, refl, sym, ap, ◌∙◌, arith}
use Rattle.std.specs.List.{filter}
use Rattle.std.proofs.lemmas.Bool.{ltb-false}
use Rattle.ldm_types.specs.Arena.{Region, longest}
use Rattle.ldm_regions.specs.Order.{Used, Lie, space_before, spaces}

-- each position that the walk comes to is within the arena
pub Lie-within : (from : ℕ) (used : List Used) (arena : ℕ) → Lie from used arena → from ≤ arena
Lie-within from [] arena lie = lie
Lie-within from (u ∷ us) arena lie = let h = Lie-within (u.start + u.extent) us arena lie.2 in let k = lie.0 in omega arith

-- what lies behind a position lies behind an earlier one
pub Lie-earlier : (early from : ℕ) (used : List Used) (arena : ℕ) → early ≤ from → Lie from used arena → Lie early used arena
Lie-earlier early from [] arena h lie = let k = lie in omega arith
Lie-earlier early from (u ∷ us) arena h lie = let k = lie.0 in (omega arith, lie.1, lie.2)

pub Lie-filter : (p : Used → Bool) (from : ℕ) (used : List Used) (arena : ℕ) → Lie from used arena → Lie from (filter p used) arena
Lie-filter p from [] arena lie = lie
Lie-filter p from (v ∷ vs) arena lie =
    let k = lie.0 in
    elim (p v) as (λ b. Lie from (cond b (v ∷ filter p vs) (filter p vs)) arena) [
      | true ↦ (lie.0, lie.1, Lie-filter p (v.start + v.extent) vs arena lie.2)
      | false ↦ Lie-filter p from vs arena (Lie-earlier from (v.start + v.extent) vs arena (omega arith) lie.2)
    ]

pub longest-space : (from to : ℕ) (behind : List Region) → longest (space_before from to behind) ≡ max (to - from) (longest behind)
longest-space from to behind =
    elim (ltb from to) as (λ b. ltb from to ≡ b → longest (cond b (record { start = from; extent = to - from } ∷ behind) behind) ≡ max (to - from) (longest behind)) [
      | true ↦ λ e. refl
      | false ↦ λ e. let h = ltb-false from to e in omega arith
    ] refl

-- where the last of some regions ends, and where the first begins
abbrev pub last_end : ℕ → List Used → ℕ
last_end from [] = from
last_end from (u ∷ us) = last_end (u.start + u.extent) us

abbrev pub first_start : List Used → ℕ → ℕ
first_start [] arena = arena
first_start (u ∷ us) arena = u.start

-- the regions in front of a place end there or earlier, and those behind it begin there or later
pub Lie-front : (from : ℕ) (front behind : List Used) (arena : ℕ) → Lie from (front ++ behind) arena → Lie from front (last_end from front)
Lie-front from [] behind arena lie = omega arith
Lie-front from (u ∷ us) behind arena lie = (lie.0, lie.1, Lie-front (u.start + u.extent) us behind arena lie.2)

pub Lie-behind : (from : ℕ) (front behind : List Used) (arena : ℕ) → Lie from (front ++ behind) arena → Lie (last_end from front) behind arena
Lie-behind from [] behind arena lie = lie
Lie-behind from (u ∷ us) behind arena lie = Lie-behind (u.start + u.extent) us behind arena lie.2

pub Lie-both : (from : ℕ) (front behind : List Used) (arena : ℕ) → Lie from front (last_end from front) → Lie (last_end from front) behind arena → Lie from (front ++ behind) arena
Lie-both from [] behind arena before lie = lie
Lie-both from (u ∷ us) behind arena before lie = (before.0, before.1, Lie-both (u.start + u.extent) us behind arena before.2 lie)

-- what lies behind a place begins there or later
pub first-behind : (from : ℕ) (used : List Used) (arena : ℕ) → Lie from used arena → from ≤ first_start used arena
first-behind from [] arena lie = lie
first-behind from (u ∷ us) arena lie = lie.0

-- it lies behind any place that is no later than the first of it
pub Lie-from : (from other : ℕ) (used : List Used) (arena : ℕ) → Lie from used arena → other ≤ first_start used arena → Lie other used arena
Lie-from from other [] arena lie h = h
Lie-from from other (u ∷ us) arena lie h = (h, lie.1, lie.2)

module _ (p : Used → Bool) (from arena most total : ℕ) (u : Used) (us : List Used) (sofar : max most (longest (spaces from (filter p (u ∷ us)) arena)) ≡ total) where
  here : (b : Bool) → p u ≡ b → max most (longest (spaces from (cond b (u ∷ filter p us) (filter p us)) arena)) ≡ total
  here b e = ap (λ c. max most (longest (spaces from (cond c (u ∷ filter p us) (filter p us)) arena))) (sym e) ∙ sofar

  -- a region that is not marked is passed over
  pub longest-skipped : p u ≡ false → max most (longest (spaces from (filter p us) arena)) ≡ total
  longest-skipped e = here false e

  -- one that is marked ends a space
  pub longest-marked : p u ≡ true → max (max most (u.start - from)) (longest (spaces (u.start + u.extent) (filter p us) arena)) ≡ total
  longest-marked e =
      let now = here true e in
      let space = longest-space from u.start (spaces (u.start + u.extent) (filter p us) arena) in
      omega (arith, now, space)

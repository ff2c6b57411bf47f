-- The place that is found for an extent lies within the arena, beside every region that occupies it.
use Rattle.std.proofs.Common.{◌≡◌, ℕ, ◌+◌, ◌<◌, ◌≤◌, false, List, [], ◌∷◌, Option, Some, None, subst, inl, inr, arith}
use Rattle.std.specs.Prelude.{nat_le, nat_lt}
use Rattle.std.specs.List.{AllByRecursion}
use Rattle.std.specs.Option.{option_map}
use Rattle.std.proofs.lemmas.Bool.{both_ways, cond_both, cases_lt, leb-true, le-leb, lt-ltb, and_from, or_parts}
use Rattle.std.proofs.lemmas.Option.{same_Some}
use Rattle.ldm_types.specs.Arena.{Region, AreApart, covers, is_covered, gaps, shorter, best_gap, fit}
use Rattle.ldm_model.proofs.Space.{IsFree, AreFreeGaps, runs_free}

-- a gap that lies between two positions, and is free
abbrev IsFreeGap : List Region → ℕ → ℕ → Region → Type 0
IsFreeGap occupied from to g = (from ≤ g.start) × (g.start + g.extent ≤ to) × IsFree occupied g.start (g.start + g.extent)

-- the best gap is one of them, and long enough
abbrev IsLong : List Region → ℕ → ℕ → Option Region → Type 0
IsLong occupied need to None = Unit {0}
IsLong occupied need to (Some g) = IsFreeGap occupied 0 to g × (need ≤ g.extent)

shorter-long : (occupied : List Region) (need to : ℕ) (g : Region) (o : Option Region) → IsFreeGap occupied 0 to g × (need ≤ g.extent) → IsLong occupied need to o
    → IsLong occupied need to (shorter g o)
shorter-long occupied need to g None long rest = long
shorter-long occupied need to g (Some behind) long rest = cond_both (nat_le g.extent behind.extent) (Some g) (Some behind) (IsLong occupied need to) (λ e. long) (λ e. rest)

best-long : (occupied : List Region) (need to : ℕ) (gs : List Region) → AreFreeGaps occupied 0 to gs → IsLong occupied need to (best_gap need gs)
best-long occupied need to [] all = tt
best-long occupied need to (g ∷ gs) all =
    let rest = best-long occupied need to gs all.1 in
    cond_both (nat_le need g.extent) (shorter g (best_gap need gs)) (best_gap need gs) (IsLong occupied need to)
    (λ e. shorter-long occupied need to g (best_gap need gs) (all.0, leb-true need g.extent e) rest) (λ e. rest)

-- a region that covers no position of a free run lies beside it
beside : (g one : Region) → 0 < one.extent → 0 < g.extent → ((i : ℕ) → one.start ≤ i → i < one.start + one.extent → covers i g ≡ false) → AreApart one g
beside g one any some free = elim (cases_lt g.start (one.start + one.extent)) [
  | inr behind ↦ inl behind
  | inl before ↦ elim (cases_lt one.start (g.start + g.extent)) [
    | inr front ↦ inr front
    | inl both ↦ absurd (elim (cases_lt one.start g.start) [
      | inl lt ↦ shared g.start (omega arith) (omega arith) (omega arith) (omega arith)
      | inr le ↦ shared one.start (omega arith) (omega arith) (omega arith) (omega arith)
    ])
  ]
]
  where
    shared : (i : ℕ) → one.start ≤ i → i < one.start + one.extent → g.start ≤ i → i < g.start + g.extent → ⊥
    shared i low high from to = both_ways (covers i g) (free i low high) (and_from (nat_le g.start i) (nat_lt i (g.start + g.extent)) (le-leb g.start i from) (lt-ltb i (g.start + g.extent) to))

-- these regions are not empty
abbrev pub AreSome : List Region → Type 0
AreSome regions = AllByRecursion (λ (g : Region). 0 < g.extent) regions

all-beside : (occupied : List Region) (one : Region) → 0 < one.extent → AreSome occupied → IsFree occupied one.start (one.start + one.extent) → AllByRecursion (AreApart one) occupied
all-beside [] one any some free = tt
all-beside (g ∷ gs) one any some free = (
  beside g one any some.0 (λ i low high. (or_parts (covers i g) (is_covered gs i) (free i low high)).0),
  all-beside gs one any some.1 (λ i low high. (or_parts (covers i g) (is_covered gs i) (free i low high)).1),
)

pub record IsFit (need : ℕ) (occupied : List Region) (arena place : ℕ) : Type 0 where
  pub within : place + need ≤ arena
  pub beside : AllByRecursion (AreApart (record { start = place; extent = need })) occupied

pub IsFit-fit : (need : ℕ) (occupied : List Region) (arena place : ℕ) → 0 < need → AreSome occupied → fit need occupied arena ≡ Some place → IsFit need occupied arena place
IsFit-fit need occupied arena place any some found =
    by_best (best_gap need (gaps occupied arena)) (best-long occupied need arena (gaps occupied arena) (let end : 0 + arena ≡ arena = omega arith in subst (λ (to : ℕ). AreFreeGaps occupied 0 to (gaps occupied arena)) end (runs_free occupied 0 arena))) found
  where
    by_best : (best : Option Region) → IsLong occupied need arena best → option_map (λ (g : Region). g.start) best ≡ Some place → IsFit need occupied arena place
    by_best None long e = absurd cc
    by_best (Some g) long e =
        let at : g.start ≡ place = same_Some g.start place e in
        record {
          within = omega (arith, at, long.0.1, long.1);
          beside = all-beside occupied (record { start = place; extent = need }) any some (λ i low high. long.0.2 i (omega (arith, at)) (omega (arith, at, long.1)));
        }

-- The gaps of an arena are the spaces between the regions in the order in which they lie.
use Rattle.std.proofs.Common.{◌≡◌, ℕ, zero, suc, ◌+◌, ◌-◌, ◌<◌, ◌≤◌, true, false, cond, ◌&&◌, ◌||◌, eqb, ltb, leb, List, [], ◌∷◌, map, refl, sym, ap, subst, ◌∙◌, arith}
use Rattle.std.proofs.lemmas.Bool.{le-leb, lt-leb, lt-ltb, le-ltb, ne_eqb, eq-eqb}
use Rattle.ldm_types.specs.Arena.{Region, covers, is_covered, with_free, free_runs, gaps}
use Rattle.ldm_regions.specs.Order.{Used, Lie, region_of, space_before, spaces}
use Rattle.ldm_regions.proofs.Lies.{Lie-within}

-- the first gap, if there is one, begins at a position or behind it
abbrev BeginsFrom : ℕ → List Region → Type 0
BeginsFrom position [] = Unit {0}
BeginsFrom position (gap ∷ gaps) = position ≤ gap.start

begins_earlier : (early position : ℕ) (gaps : List Region) → early ≤ position → BeginsFrom position gaps → BeginsFrom early gaps
begins_earlier early position [] h begins = tt
begins_earlier early position (gap ∷ gaps) h begins = let k = begins in omega arith

with_free-begins : (position : ℕ) (gaps : List Region) → BeginsFrom position (with_free position gaps)
with_free-begins position [] = omega arith
with_free-begins position (gap ∷ gaps) =
    elim (eqb gap.start (position + 1)) as (λ b. BeginsFrom position (cond b (record { start = position; extent = gap.extent + 1 } ∷ gaps) (record { start = position; extent = 1 } ∷ gap ∷ gaps))) [ true ↦ omega arith | false ↦ omega arith ]

free_runs-begins : (occupied : List Region) (position count : ℕ) → BeginsFrom position (free_runs occupied position count)
free_runs-begins occupied position zero = tt
free_runs-begins occupied position (suc count) =
    elim (is_covered occupied position) as (λ b. BeginsFrom position (cond b (free_runs occupied (position + 1) count) (with_free position (free_runs occupied (position + 1) count)))) [
      | true ↦ begins_earlier position (position + 1) (free_runs occupied (position + 1) count) (omega arith) (free_runs-begins occupied (position + 1) count)
      | false ↦ with_free-begins position (free_runs occupied (position + 1) count)
    ]

-- behind a position that is covered
begins_behind : (occupied : List Region) (position count : ℕ) → is_covered occupied position ≡ true → BeginsFrom (position + 1) (free_runs occupied position count)
begins_behind occupied position zero covered = tt
begins_behind occupied position (suc count) covered =
    subst (λ b. BeginsFrom (position + 1) (cond b (free_runs occupied (position + 1) count) (with_free position (free_runs occupied (position + 1) count)))) (sym covered) (free_runs-begins occupied (position + 1) count)

with_free-apart : (position : ℕ) (gaps : List Region) → BeginsFrom (position + 2) gaps → with_free position gaps ≡ record { start = position; extent = 1 } ∷ gaps
with_free-apart position [] begins = refl
with_free-apart position (gap ∷ gaps) begins =
    let k = begins in
    ap (λ b. cond b (record { start = position; extent = gap.extent + 1 } ∷ gaps) (record { start = position; extent = 1 } ∷ gap ∷ gaps)) (ne_eqb gap.start (position + 1) (omega arith))

with_free-joined : (position extent : ℕ) (gaps : List Region) → with_free position (record { start = position + 1; extent = extent } ∷ gaps) ≡ record { start = position; extent = extent + 1 } ∷ gaps
with_free-joined position extent gaps =
    ap (λ b. cond b (record { start = position; extent = extent + 1 } ∷ gaps) (record { start = position; extent = 1 } ∷ record { start = position + 1; extent = extent } ∷ gaps)) (eq-eqb (position + 1) (position + 1) refl)

-- one more position, which is covered, and which is free
covered_one : (occupied : List Region) (position count : ℕ) → is_covered occupied position ≡ true → free_runs occupied position (suc count) ≡ free_runs occupied (position + 1) count
covered_one occupied position count e = ap (λ b. cond b (free_runs occupied (position + 1) count) (with_free position (free_runs occupied (position + 1) count))) e

free_one : (occupied : List Region) (position count : ℕ) → is_covered occupied position ≡ false → free_runs occupied position (suc count) ≡ with_free position (free_runs occupied (position + 1) count)
free_one occupied position count e = ap (λ b. cond b (free_runs occupied (position + 1) count) (with_free position (free_runs occupied (position + 1) count))) e

-- positions that are covered give no gap
covered_run : (occupied : List Region) (position next length count more : ℕ) → next ≡ position + length → count ≡ length + more → ((p : ℕ) → position ≤ p → p < next → is_covered occupied p ≡ true) → free_runs occupied position count ≡ free_runs occupied next more
covered_run occupied position next zero count more e f all =
    let same : position ≡ next = omega arith in let left : count ≡ more = omega arith in λ i. free_runs occupied (same i) (left i)
covered_run occupied position next (suc length) count more e f all =
    let left : count ≡ suc (length + more) = omega arith in
    ap (free_runs occupied position) left ∙ covered_one occupied position (length + more) (all position (omega arith) (omega arith))
    ∙ covered_run occupied (position + 1) next length (length + more) more (omega arith) refl (λ p low high. all p (omega arith) high)

-- free positions in front of one that is covered, or of the end, are one gap
free_run : (occupied : List Region) (position next length count more : ℕ) → next ≡ position + suc length → count ≡ suc length + more → ((p : ℕ) → position ≤ p → p < next → is_covered occupied p ≡ false) → BeginsFrom (next + 1) (free_runs occupied next more) → free_runs occupied position count ≡ record { start = position; extent = suc length } ∷ free_runs occupied next more
free_run occupied position next zero count more e f all begins =
    let left : count ≡ suc more = omega arith in
    let same : position + 1 ≡ next = omega arith in
    ap (free_runs occupied position) left ∙ free_one occupied position more (all position (omega arith) (omega arith))
    ∙ ap (λ n. with_free position (free_runs occupied n more)) same
    ∙ with_free-apart position (free_runs occupied next more) (subst (λ n. BeginsFrom n (free_runs occupied next more)) (let r : next + 1 ≡ position + 2 = omega arith in r) begins)
free_run occupied position next (suc length) count more e f all begins =
    let left : count ≡ suc (suc length + more) = omega arith in
    let longer : suc length + 1 ≡ suc (suc length) = omega arith in
    ap (free_runs occupied position) left ∙ free_one occupied position (suc length + more) (all position (omega arith) (omega arith))
    ∙ ap (with_free position) (free_run occupied (position + 1) next length (suc length + more) more (omega arith) refl (λ p low high. all p (omega arith) high) begins)
    ∙ with_free-joined position (suc length) (free_runs occupied next more)
    ∙ ap (λ n. record { start = position; extent = n } ∷ free_runs occupied next more) longer

stretch_of : (occupied : List Region) (from to length count more : ℕ) → to ≡ from + length → count ≡ length + more → ((p : ℕ) → from ≤ p → p < to → is_covered occupied p ≡ false) → BeginsFrom (to + 1) (free_runs occupied to more) → free_runs occupied from count ≡ space_before from to (free_runs occupied to more)
stretch_of occupied from to zero count more e f all begins =
    let same : from ≡ to = omega arith in let left : count ≡ more = omega arith in
    (λ i. free_runs occupied (same i) (left i))
    ∙ sym (ap (λ b. cond b (record { start = from; extent = to - from } ∷ free_runs occupied to more) (free_runs occupied to more)) (le-ltb from to (omega arith)))
stretch_of occupied from to (suc length) count more e f all begins =
    let extent : suc length ≡ to - from = omega arith in
    free_run occupied from to length count more e f all begins
    ∙ ap (λ n. record { start = from; extent = n } ∷ free_runs occupied to more) extent
    ∙ sym (ap (λ b. cond b (record { start = from; extent = to - from } ∷ free_runs occupied to more) (free_runs occupied to more)) (lt-ltb from to (omega arith)))

-- positions without a region, up to one that has one or the end
stretch : (occupied : List Region) (from to count more : ℕ) → from ≤ to → from + count ≡ to + more → ((p : ℕ) → from ≤ p → p < to → is_covered occupied p ≡ false) → BeginsFrom (to + 1) (free_runs occupied to more) → free_runs occupied from count ≡ space_before from to (free_runs occupied to more)
stretch occupied from to count more h e = stretch_of occupied from to (to - from) count more (omega arith) (omega arith)

within_covers : (position : ℕ) (region : Region) → region.start ≤ position → position < region.start + region.extent → covers position region ≡ true
within_covers position region low high = ap (λ b. b && ltb position (region.start + region.extent)) (le-leb region.start position low) ∙ lt-ltb position (region.start + region.extent) high

before_covers : (position : ℕ) (region : Region) → position < region.start → covers position region ≡ false
before_covers position region h = ap (λ b. b && ltb position (region.start + region.extent)) (lt-leb region.start position h)

behind_covers : (position : ℕ) (region : Region) → region.start + region.extent ≤ position → covers position region ≡ false
behind_covers position region h =
    ap (λ b. leb region.start position && b) (le-ltb position (region.start + region.extent) h)
    ∙ elim (leb region.start position) as (λ b. (b && false) ≡ false) [ true ↦ refl | false ↦ refl ]

-- nothing that lies behind a position covers what is before it
none_covers : (from : ℕ) (used : List Used) (arena position : ℕ) → Lie from used arena → position < from → is_covered (map region_of used) position ≡ false
none_covers from [] arena position lie h = refl
none_covers from (u ∷ us) arena position lie h =
    let k = lie.0 in
    ap (λ b. b || is_covered (map region_of us) position) (before_covers position (region_of u) (omega arith))
    ∙ none_covers (u.start + u.extent) us arena position lie.2 (omega arith)

runs_are : (occupied : List Region) (from count : ℕ) (used : List Used) (arena : ℕ) → from + count ≡ arena → Lie from used arena → ((p : ℕ) → from ≤ p → is_covered occupied p ≡ is_covered (map region_of used) p) → free_runs occupied from count ≡ spaces from used arena
runs_are occupied from count [] arena e lie same =
    stretch occupied from arena count 0 (omega arith) (omega arith) (λ p low high. same p low) tt
runs_are occupied from count (u ∷ us) arena e lie same =
    let k = lie.0 in
    let some = lie.1 in
    let inside = Lie-within (u.start + u.extent) us arena lie.2 in
    let end = u.start + u.extent in
    let at : is_covered occupied u.start ≡ true = same u.start k ∙ ap (λ b. b || is_covered (map region_of us) u.start) (within_covers u.start (region_of u) (omega arith) (omega arith)) in
    stretch occupied from u.start count (arena - u.start) k (omega arith)
    (λ p low high. same p low ∙ ap (λ b. b || is_covered (map region_of us) p) (before_covers p (region_of u) high) ∙ none_covers end us arena p lie.2 (omega arith))
    (begins_behind occupied u.start (arena - u.start) at)
    ∙ ap (space_before from u.start)
    (covered_run occupied u.start end u.extent (arena - u.start) (arena - end) refl (omega arith)
    (λ p low high. same p (omega arith) ∙ ap (λ b. b || is_covered (map region_of us) p) (within_covers p (region_of u) low high))
    ∙ runs_are occupied end (arena - end) us arena (omega arith) lie.2
    (λ p low. same p (omega arith) ∙ ap (λ b. b || is_covered (map region_of us) p) (behind_covers p (region_of u) low)))

-- the gaps between any regions that cover the same positions
pub gaps-spaces : (occupied : List Region) (used : List Used) (arena : ℕ) → Lie 0 used arena → ((p : ℕ) → is_covered occupied p ≡ is_covered (map region_of used) p) → gaps occupied arena ≡ spaces 0 used arena
gaps-spaces occupied used arena lie same = runs_are occupied 0 arena used arena (omega arith) lie (λ p low. same p)

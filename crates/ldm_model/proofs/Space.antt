-- An extent fits exactly where so many positions in a row are free.
use Rattle.std.proofs.Common.{◌≡◌, ℕ, zero, suc, ◌+◌, ◌<◌, ◌≤◌, ◌||◌, ◌⊎◌, Bool, true, false, cond, leb, max, List, [], ◌∷◌, Option, Some, None, refl, sym, ap, subst, ◌∙◌, inl, inr, arith}
use Rattle.std.specs.Prelude.{◌==◌, nat_le, is_some}
use Rattle.std.specs.List.{AllByRecursion, list_any}
use Rattle.std.specs.Option.{option_map}
use Rattle.std.proofs.lemmas.Bool.{false≢true, eq-eqb, eqb-true, cases_eq, le-leb, lt-leb, or_right}
use Rattle.std.proofs.lemmas.Bool.Decides.{leb_tells}
use Rattle.ldm_types.specs.Arena.{Region, is_covered, with_free, free_runs, gaps, shorter, best_gap, fit, longest}

-- no region covers a position from one up to, but not with, another
abbrev pub IsFree : List Region → ℕ → ℕ → Type 0
IsFree occupied from to = (i : ℕ) → from ≤ i → i < to → is_covered occupied i ≡ false

-- so many positions in a row are free between two
pub record HasSpace (occupied : List Region) (from to need : ℕ) : Type 0 where
  pub start : ℕ
  pub above : from ≤ start
  pub within : start + need ≤ to
  pub free : IsFree occupied start (start + need)

-- a gap of at least that extent
abbrev pub is_long : ℕ → Region → Bool
is_long need gap = nat_le need gap.extent

abbrev pub has_long : ℕ → List Region → Bool
has_long need gs = list_any (is_long need) gs

shorter-some : (gap : Region) (o : Option Region) → is_some (shorter gap o) ≡ true
shorter-some gap None = refl
shorter-some gap (Some behind) = by_test (leb gap.extent behind.extent)
  where
    by_test : (b : Bool) → is_some (cond b (Some gap) (Some behind)) ≡ true
    by_test true = refl
    by_test false = refl

best-some : (need : ℕ) (gs : List Region) → is_some (best_gap need gs) ≡ has_long need gs
best-some need [] = refl
best-some need (gap ∷ gs) = by_test (leb need gap.extent) (best-some need gs)
  where
    by_test : (b : Bool) → is_some (best_gap need gs) ≡ has_long need gs → is_some (cond b (shorter gap (best_gap need gs)) (best_gap need gs)) ≡ (b || has_long need gs)
    by_test true rest = shorter-some gap (best_gap need gs)
    by_test false rest = rest

start-some : (o : Option Region) → is_some (option_map (λ (g : Region). g.start) o) ≡ is_some o
start-some None = refl
start-some (Some g) = refl

pub fit-some : (need arena : ℕ) (occupied : List Region) → is_some (fit need occupied arena) ≡ has_long need (gaps occupied arena)
fit-some need arena occupied = start-some (best_gap need (gaps occupied arena)) ∙ best-some need (gaps occupied arena)

-- a gap is long enough exactly where the longest is
longest-long : (need : ℕ) (gs : List Region) → 0 < need → has_long need gs ≡ leb need (longest gs)
longest-long need [] some = sym (lt-leb need 0 some)
longest-long need (gap ∷ gs) some = elim (leb_tells need gap.extent) [
  | inl le ↦ ap (λ (b : Bool). b || has_long need gs) le.0 ∙ sym (le-leb need (max gap.extent (longest gs)) (omega (arith, le.1)))
  | inr gt ↦ ap (λ (b : Bool). b || has_long need gs) gt.0 ∙ longest-long need gs some ∙ by_rest (leb_tells need (longest gs)) gt.1
]
  where
    by_rest : ((leb need (longest gs) ≡ true) × (need ≤ longest gs)) ⊎ ((leb need (longest gs) ≡ false) × (longest gs < need)) → gap.extent < need → leb need (longest gs) ≡ leb need (max gap.extent (longest gs))
    by_rest (inl le) gt = le.0 ∙ sym (le-leb need (max gap.extent (longest gs)) (omega (arith, le.1)))
    by_rest (inr more) gt = more.0 ∙ sym (lt-leb need (max gap.extent (longest gs)) (omega (arith, more.1)))

pub fit-longest : (need arena : ℕ) (occupied : List Region) → 0 < need → is_some (fit need occupied arena) ≡ leb need (longest (gaps occupied arena))
fit-longest need arena occupied some = fit-some need arena occupied ∙ longest-long need (gaps occupied arena) some

-- the first of these gaps begins there and is long enough
abbrev BeginsLong : ℕ → ℕ → List Region → Type 0
BeginsLong from need [] = ⊥
BeginsLong from need (gap ∷ gs) = (gap.start ≡ from) × (need ≤ gap.extent)

alone : (p : ℕ) (gs : List Region) → BeginsLong p 1 (with_free p gs)
alone p [] = (refl, omega arith)
alone p (gap ∷ gs) = by_test (gap.start == p + 1)
  where
    by_test : (b : Bool) → BeginsLong p 1 (cond b (record { start = p; extent = gap.extent + 1 } ∷ gs) (record { start = p; extent = 1 } ∷ gap ∷ gs))
    by_test true = (refl, omega arith)
    by_test false = (refl, omega arith)

longer : (p m : ℕ) (gs : List Region) → BeginsLong (p + 1) m gs → BeginsLong p (suc m) (with_free p gs)
longer p m [] h = absurd h
longer p m (gap ∷ gs) h =
    subst (λ (b : Bool). BeginsLong p (suc m) (cond b (record { start = p; extent = gap.extent + 1 } ∷ gs) (record { start = p; extent = 1 } ∷ gap ∷ gs))) (sym (eq-eqb gap.start (p + 1) h.0)) (refl, omega (arith, h.1))

begins_long : (occupied : List Region) (m from count : ℕ) → suc m ≤ count → IsFree occupied from (from + suc m) → BeginsLong from (suc m) (free_runs occupied from count)
begins_long occupied m from zero h free = absurd (omega arith)
begins_long occupied zero from (suc count) h free =
    let runs = free_runs occupied (from + 1) count in
    subst (λ (b : Bool). BeginsLong from 1 (cond b runs (with_free from runs))) (sym (free from (omega arith) (omega arith))) (alone from runs)
begins_long occupied (suc m) from (suc count) h free =
    let runs = free_runs occupied (from + 1) count in
    subst (λ (b : Bool). BeginsLong from (suc (suc m)) (cond b runs (with_free from runs))) (sym (free from (omega arith) (omega arith)))
    (longer from (suc m) runs (begins_long occupied m (from + 1) count (omega arith) (λ i a b. free i (omega arith) (omega arith))))

long_from_begins : (from need : ℕ) (gs : List Region) → BeginsLong from need gs → has_long need gs ≡ true
long_from_begins from need [] h = absurd h
long_from_begins from need (gap ∷ gs) h = elim (leb_tells need gap.extent) [
  | inl le ↦ ap (λ (b : Bool). b || has_long need gs) le.0
  | inr gt ↦ absurd (omega (arith, gt.1, h.1))
]

long_more : (need extent : ℕ) (rest b : Bool) → leb need extent ≡ b → (b || rest) ≡ true → (leb need (extent + 1) || rest) ≡ true
long_more need extent rest b e h = elim (leb_tells need (extent + 1)) [
  | inl long ↦ ap (λ (x : Bool). x || rest) long.0
  | inr short ↦ elim (leb_tells need extent) [
    | inl le ↦ absurd (omega (arith, le.1, short.1))
    | inr gt ↦ ap (λ (x : Bool). x || rest) (short.0 ∙ sym gt.0 ∙ e) ∙ h
  ]
]

-- a free position in front takes no gap away
long_kept : (need p : ℕ) (gs : List Region) → has_long need gs ≡ true → has_long need (with_free p gs) ≡ true
long_kept need p [] h = absurd (false≢true h)
long_kept need p (gap ∷ gs) h = by_test (gap.start == p + 1)
  where
    by_test : (b : Bool) → has_long need (cond b (record { start = p; extent = gap.extent + 1 } ∷ gs) (record { start = p; extent = 1 } ∷ gap ∷ gs)) ≡ true
    by_test true = long_more need gap.extent (has_long need gs) (leb need gap.extent) refl h
    by_test false = or_right (leb need 1) (has_long need (gap ∷ gs)) h

-- where so many positions are free there is a gap as long
long_there : (occupied : List Region) (m start from count : ℕ) → from ≤ start → start + suc m ≤ from + count → IsFree occupied start (start + suc m) → has_long (suc m) (free_runs occupied from count) ≡ true
long_there occupied m start from zero above within free = absurd (omega arith)
long_there occupied m start from (suc count) above within free =
    elim (cases_eq from start) [
      | inl same ↦ long_from_begins from (suc m) (free_runs occupied from (suc count)) (begins_long occupied m from (suc count) (omega arith) (λ i a b. free i (omega arith) (omega arith)))
      | inr other ↦ by_test (is_covered occupied from) (long_there occupied m start (from + 1) count (omega arith) (omega arith) free)
    ]
  where
    by_test : (b : Bool) → has_long (suc m) (free_runs occupied (from + 1) count) ≡ true → has_long (suc m) (cond b (free_runs occupied (from + 1) count) (with_free from (free_runs occupied (from + 1) count))) ≡ true
    by_test true rest = rest
    by_test false rest = long_kept (suc m) from (free_runs occupied (from + 1) count) rest

pub space-fit : (need arena : ℕ) (occupied : List Region) → 0 < need → HasSpace occupied 0 arena need → is_some (fit need occupied arena) ≡ true
space-fit zero arena occupied some space = absurd (omega arith)
space-fit (suc m) arena occupied some space = fit-some (suc m) arena occupied ∙ long_there occupied m space.start 0 arena space.above (omega (arith, space.within)) space.free

-- each of these gaps lies between two positions and is free
abbrev pub AreFreeGaps : List Region → ℕ → ℕ → List Region → Type 0
AreFreeGaps occupied from to gs = AllByRecursion (λ (g : Region). (from ≤ g.start) × (g.start + g.extent ≤ to) × IsFree occupied g.start (g.start + g.extent)) gs

earlier : (occupied : List Region) (from later to : ℕ) (gs : List Region) → from ≤ later → AreFreeGaps occupied later to gs → AreFreeGaps occupied from to gs
earlier occupied from later to [] h all = tt
earlier occupied from later to (g ∷ gs) h all = ((omega (arith, all.0.0), all.0.1, all.0.2), earlier occupied from later to gs h all.1)

free_one : (occupied : List Region) (p : ℕ) → is_covered occupied p ≡ false → IsFree occupied p (p + 1)
free_one occupied p e i a b = let same : p ≡ i = omega arith in ap (is_covered occupied) (sym same) ∙ e

with_free-free : (occupied : List Region) (p to : ℕ) (gs : List Region) → p + 1 ≤ to → is_covered occupied p ≡ false → AreFreeGaps occupied (p + 1) to gs → AreFreeGaps occupied p to (with_free p gs)
with_free-free occupied p to [] inside e all = ((omega arith, omega arith, free_one occupied p e), tt)
with_free-free occupied p to (g ∷ gs) inside e all = by_test (g.start == p + 1) refl
  where
    joined : g.start ≡ p + 1 → IsFree occupied p (p + (g.extent + 1))
    joined same i a b = elim (cases_eq i p) [ inl here ↦ ap (is_covered occupied) here ∙ e | inr other ↦ all.0.2 i (omega arith) (omega arith) ]

    by_test : (b : Bool) → (g.start == p + 1) ≡ b → AreFreeGaps occupied p to (cond b (record { start = p; extent = g.extent + 1 } ∷ gs) (record { start = p; extent = 1 } ∷ g ∷ gs))
    by_test true same =
        let at = eqb-true g.start (p + 1) same in
        ((omega arith, omega (arith, all.0.1, at), joined at), earlier occupied p (p + 1) to gs (omega arith) all.1)
    by_test false same = ((omega arith, omega arith, free_one occupied p e), earlier occupied p (p + 1) to (g ∷ gs) (omega arith) all)

pub runs_free : (occupied : List Region) (from count : ℕ) → AreFreeGaps occupied from (from + count) (free_runs occupied from count)
runs_free occupied from zero = tt
runs_free occupied from (suc count) =
    let end : from + 1 + count ≡ from + suc count = omega arith in
    let rest : AreFreeGaps occupied (from + 1) (from + suc count) (free_runs occupied (from + 1) count) = subst (λ (to : ℕ). AreFreeGaps occupied (from + 1) to (free_runs occupied (from + 1) count)) end (runs_free occupied (from + 1) count) in
    by_test (is_covered occupied from) refl rest
  where
    by_test : (b : Bool) → is_covered occupied from ≡ b → AreFreeGaps occupied (from + 1) (from + suc count) (free_runs occupied (from + 1) count)
        → AreFreeGaps occupied from (from + suc count) (cond b (free_runs occupied (from + 1) count) (with_free from (free_runs occupied (from + 1) count)))
    by_test true e rest = earlier occupied from (from + 1) (from + suc count) (free_runs occupied (from + 1) count) (omega arith) rest
    by_test false e rest = with_free-free occupied from (from + suc count) (free_runs occupied (from + 1) count) (omega arith) e rest

space_of : (occupied : List Region) (from to need : ℕ) (gs : List Region) → AreFreeGaps occupied from to gs → has_long need gs ≡ true → HasSpace occupied from to need
space_of occupied from to need [] all h = absurd (false≢true h)
space_of occupied from to need (g ∷ gs) all h = elim (leb_tells need g.extent) [
  | inl le ↦ record { start = g.start; above = all.0.0; within = omega (arith, all.0.1, le.1); free = λ i a b. all.0.2 i a (omega (arith, le.1)) }
  | inr gt ↦ space_of occupied from to need gs all.1 (ap (λ (b : Bool). b || has_long need gs) (sym gt.0) ∙ h)
]

pub fit-space : (need arena : ℕ) (occupied : List Region) → is_some (fit need occupied arena) ≡ true → HasSpace occupied 0 arena need
fit-space need arena occupied h =
    let end : 0 + arena ≡ arena = omega arith in
    space_of occupied 0 arena need (gaps occupied arena) (subst (λ (to : ℕ). AreFreeGaps occupied 0 to (gaps occupied arena)) end (runs_free occupied 0 arena)) (sym (fit-some need arena occupied) ∙ h)

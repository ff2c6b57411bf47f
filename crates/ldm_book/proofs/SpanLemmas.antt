-- Room beside the held products, by the spans that they take.
use Rattle.std.proofs.Common.{◌≡◌, ℕ, ◌+◌, ◌≤◌, ◌⊎◌, ◌||◌, Bool, true, false, leb, List, [], ◌∷◌, refl, sym, ap, ◌∙◌, inl, inr, arith}
use Rattle.std.specs.Prelude.{◌&&◌}
use Rattle.std.specs.List.{AllByRecursion, list_all, list_any}
use Rattle.std.proofs.lemmas.Bool.{true≢false, false≢true, or_cases, or_left, or_right, le-leb, cases_lt}
use Rattle.std.proofs.lemmas.Bool.Decides.{leb_tells}
use Rattle.ldm_book.specs.declared.spans.Span.{Span}
use Rattle.ldm_book.specs.Spans.{fits_at, fits_behind, has_gap, is_beside}

-- a span does not meet what lies from a position on
abbrev pub IsBeside : ℕ → ℕ → Span → Type 0
IsBeside at need span = (at + need ≤ span.start) ⊎ (span.back ≤ at)

beside-is : (at need : ℕ) (span : Span) → is_beside at need span ≡ true → IsBeside at need span
beside-is at need span e = elim (or_cases (leb (at + need) span.start) (leb span.back at) e) [
  | inl before ↦ elim (leb_tells (at + need) span.start) [ inl le ↦ inl le.1 | inr gt ↦ absurd (true≢false (sym before ∙ gt.0)) ]
  | inr behind ↦ elim (leb_tells span.back at) [ inl le ↦ inr le.1 | inr gt ↦ absurd (true≢false (sym behind ∙ gt.0)) ]
]

is-beside : (at need : ℕ) (span : Span) → IsBeside at need span → is_beside at need span ≡ true
is-beside at need span (inl before) = or_left (leb (at + need) span.start) (leb span.back at) (le-leb (at + need) span.start before)
is-beside at need span (inr behind) = or_right (leb (at + need) span.start) (leb span.back at) (le-leb span.back at behind)

and_parts : (a b : Bool) → (a && b) ≡ true → (a ≡ true) × (b ≡ true)
and_parts true b e = (refl, e)
and_parts false b e = absurd (false≢true e)

-- beside all spans
all-beside : (at need : ℕ) (spans : List Span) → list_all (is_beside at need) spans ≡ true → AllByRecursion (IsBeside at need) spans
all-beside at need [] e = tt
all-beside at need (span ∷ spans) e =
    let parts = and_parts (is_beside at need span) (list_all (is_beside at need) spans) e in
    (beside-is at need span parts.0, all-beside at need spans parts.1)

beside-all : (at need : ℕ) (spans : List Span) → AllByRecursion (IsBeside at need) spans → list_all (is_beside at need) spans ≡ true
beside-all at need [] all = refl
beside-all at need (span ∷ spans) all = ap (λ (b : Bool). b && list_all (is_beside at need) spans) (is-beside at need span all.0) ∙ beside-all at need spans all.1

fits-at : (at need arena : ℕ) (spans : List Span) → at + need ≤ arena → AllByRecursion (IsBeside at need) spans → fits_at at need arena spans ≡ true
fits-at at need arena spans inside all = ap (λ (b : Bool). b && list_all (is_beside at need) spans) (le-leb (at + need) arena inside) ∙ beside-all at need spans all

at-fits : (at need arena : ℕ) (spans : List Span) → fits_at at need arena spans ≡ true → (at + need ≤ arena) × AllByRecursion (IsBeside at need) spans
at-fits at need arena spans e =
    let parts = and_parts (leb (at + need) arena) (list_all (is_beside at need) spans) e in
    (elim (leb_tells (at + need) arena) [ inl le ↦ le.1 | inr gt ↦ absurd (true≢false (sym parts.0 ∙ gt.0)) ], all-beside at need spans parts.1)

-- where there is room at a place, there is room behind the last span before it, or at the front
record IsBehindLast (at need : ℕ) (spans : List Span) : Type 0 where
  place : ℕ
  before : place ≤ at
  fits : AllByRecursion (λ (span : Span). (at + need ≤ span.start) ⊎ (span.back ≤ place)) spans
  found : (all : List Span) (arena : ℕ) → fits_at place need arena all ≡ true → (list_any (fits_behind need arena all) spans || fits_at 0 need arena all) ≡ true

weaker : (at need place more : ℕ) (spans : List Span) → place ≤ more → AllByRecursion (λ (span : Span). (at + need ≤ span.start) ⊎ (span.back ≤ place)) spans
    → AllByRecursion (λ (span : Span). (at + need ≤ span.start) ⊎ (span.back ≤ more)) spans
weaker at need place more [] h all = tt
weaker at need place more (span ∷ spans) h all = (elim all.0 [ inl e ↦ inl e | inr e ↦ inr (omega arith) ], weaker at need place more spans h all.1)

or_shift : (a b c : Bool) → (b || c) ≡ true → ((a || b) || c) ≡ true
or_shift true b c e = refl
or_shift false b c e = e

or_first : (a b c : Bool) → a ≡ true → ((a || b) || c) ≡ true
or_first true b c e = refl
or_first false b c e = absurd (false≢true e)

behind_last : (at need : ℕ) (spans : List Span) → AllByRecursion (IsBeside at need) spans → IsBehindLast at need spans
behind_last at need [] all = record { place = 0; before = omega arith; fits = tt; found = λ every arena e. e }
behind_last at need (span ∷ spans) all = by_side all.0 (behind_last at need spans all.1)
  where
    by_side : IsBeside at need span → IsBehindLast at need spans → IsBehindLast at need (span ∷ spans)
    by_side (inl ahead) rest = record {
      place = rest.place;
      before = rest.before;
      fits = (inl ahead, rest.fits);
      found = λ every arena e. or_shift (fits_behind need arena every span) (list_any (fits_behind need arena every) spans) (fits_at 0 need arena every) (rest.found every arena e);
    }
    by_side (inr behind) rest = elim (cases_lt rest.place span.back) [
      | inl last ↦ record {
        place = span.back;
        before = behind;
        fits = (inr (omega arith), weaker at need rest.place span.back spans (omega arith) rest.fits);
        found = λ every arena e. or_first (fits_behind need arena every span) (list_any (fits_behind need arena every) spans) (fits_at 0 need arena every) e;
      }
      | inr earlier ↦ record {
        place = rest.place;
        before = rest.before;
        fits = (inr earlier, rest.fits);
        found = λ every arena e. or_shift (fits_behind need arena every span) (list_any (fits_behind need arena every) spans) (fits_at 0 need arena every) (rest.found every arena e);
      }
    ]

moved : (at need place : ℕ) (spans : List Span) → place ≤ at → AllByRecursion (λ (span : Span). (at + need ≤ span.start) ⊎ (span.back ≤ place)) spans → AllByRecursion (IsBeside place need) spans
moved at need place [] h all = tt
moved at need place (span ∷ spans) h all = (elim all.0 [ inl e ↦ inl (omega arith) | inr e ↦ inr e ], moved at need place spans h all.1)

-- a gap is found exactly where there is room
pub gap-found : (at need arena : ℕ) (spans : List Span) → at + need ≤ arena → AllByRecursion (IsBeside at need) spans → has_gap need arena spans ≡ true
gap-found at need arena spans inside all =
    let last = behind_last at need spans all in
    last.found spans arena (fits-at last.place need arena spans (omega (arith, last.before)) (moved at need last.place spans last.before last.fits))

pub record HasRoom (need arena : ℕ) (spans : List Span) : Type 0 where
  pub start : ℕ
  pub within : start + need ≤ arena
  pub beside : AllByRecursion (IsBeside start need) spans

pub room-found : (need arena : ℕ) (spans : List Span) → has_gap need arena spans ≡ true → HasRoom need arena spans
room-found need arena spans e = elim (or_cases (list_any (fits_behind need arena spans) spans) (fits_at 0 need arena spans) e) [
  | inl behind ↦ some spans behind
  | inr front ↦ (let is = at-fits 0 need arena spans front in record { start = 0; within = is.0; beside = is.1 })
]
  where
    some : (few : List Span) → list_any (fits_behind need arena spans) few ≡ true → HasRoom need arena spans
    some [] e = absurd (false≢true e)
    some (span ∷ few) e = elim (or_cases (fits_behind need arena spans span) (list_any (fits_behind need arena spans) few) e) [
      | inl here ↦ (let is = at-fits span.back need arena spans here in record { start = span.back; within = is.0; beside = is.1 })
      | inr later ↦ some few later
    ]

-- tests that hold together
pub same_bool : (x y : Bool) → (x ≡ true → y ≡ true) → (y ≡ true → x ≡ true) → x ≡ y
same_bool true y f g = sym (f refl)
same_bool false true f g = g refl
same_bool false false f g = refl

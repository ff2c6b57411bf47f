-- What a set has besides a plain table of it, where a pair goes in or out.
use Rattle.std.proofs.Common.{◌≡◌, ◌≢◌, ℕ, Bool, true, false, inl, inr, ◌||◌, ◌&&◌, not, cond, ◌+◌, ◌*◌, ◌/◌, ◌%◌}
use Rattle.std.proofs.Common.{◌<◌, List, length, get_or, replicate, zero, suc, ◌-◌, slice_set, refl, sym, ap, ◌∙◌, arith}
use Rattle.std.specs.FinSet as set
use Rattle.std.specs.Ordering.{eq_by_cmp, is_eq}
use Rattle.std.specs.declared.cmp.Ordering.TheVariants.{Less, Equal, Greater}
use Rattle.std.proofs.lemmas.Bool.{cases_eq}
use Rattle.std.proofs.lemmas.Cmp.{tied_itself}
use Rattle.std.proofs.lemmas.List.{get_or-set_other, get_or-set_same}
use Rattle.ldm_freelist.specs.Pairs.{pair_cmp}
use Rattle.ldm_freelist.proofs.Sorted.{pairs_total, exact_pair}

pub other_pair : (p q : ℕ × ℕ) → p ≢ q → eq_by_cmp pair_cmp p q ≡ false
other_pair p q apart = elim (pair_cmp p q) as (λ o. pair_cmp p q ≡ o → is_eq o ≡ false) [ Less ↦ λ _. refl | Equal ↦ λ e. absurd (apart (exact_pair p q e)) | Greater ↦ λ _. refl ] refl

pub itself : (p : ℕ × ℕ) → eq_by_cmp pair_cmp p p ≡ true
itself p = ap is_eq (tied_itself pairs_total p)

pub stays_added : (members : set.FinSet pair_cmp) (p q : ℕ × ℕ) → q ≢ p → set.contains (set.insert members p) q ≡ set.contains members q
stays_added members p q apart = set.contains-insert pairs_total members p q ∙ ap (λ b. b || set.contains members q) (other_pair q p apart)

pub is_added : (members : set.FinSet pair_cmp) (p : ℕ × ℕ) → set.contains (set.insert members p) p ≡ true
is_added members p = set.contains-insert pairs_total members p p ∙ ap (λ b. b || set.contains members p) (itself p)

pub stays_removed : (members : set.FinSet pair_cmp) (p q : ℕ × ℕ) → q ≢ p → set.contains (set.remove members p) q ≡ set.contains members q
stays_removed members p q apart = set.contains-remove pairs_total members p q ∙ ap (λ b. not b && set.contains members q) (other_pair q p apart)

pub is_removed : (members : set.FinSet pair_cmp) (p : ℕ × ℕ) → set.contains (set.remove members p) p ≡ false
is_removed members p = set.contains-remove pairs_total members p p ∙ ap (λ b. not b && set.contains members p) (itself p)

pub count_added : (members : set.FinSet pair_cmp) (p : ℕ × ℕ) → set.contains members p ≡ false → set.len (set.insert members p) ≡ set.len members + 1
count_added members p none = set.len-insert pairs_total members p ∙ ap (λ b. cond b (set.len members) (set.len members + 1)) none

-- the pair of a place
abbrev pub at : ℕ → ℕ × ℕ
at place = (8 * (place / 2048), 8 * (place % 2048))

at_apart : (a b : ℕ) → a ≢ b → at a ≢ at b
at_apart a b apart e =
    let quotient = ap (λ (p : ℕ × ℕ). p.0) e in
    let rest = ap (λ (p : ℕ × ℕ). p.1) e in
    apart (omega (arith, quotient, rest))

abbrev pub Agree : List Bool → set.FinSet pair_cmp → Type 0
Agree has members = (place : ℕ) → get_or has place false ≡ set.contains members (at place)

pub agree_added : (has : List Bool) (members : set.FinSet pair_cmp) (place : ℕ) → place < length has → Agree has members → Agree (slice_set has place true) (set.insert members (at place))
agree_added has members place within agree k = elim (cases_eq k place) [
  | inl e ↦ ap (λ j. get_or (slice_set has place true) j false) e ∙ get_or-set_same has place true false within
      ∙ sym (ap (λ j. set.contains (set.insert members (at place)) (at j)) e ∙ is_added members (at place))
  | inr apart ↦ get_or-set_other has place k true false apart ∙ agree k ∙ sym (stays_added members (at place) (at k) (at_apart k place apart))
]

pub agree_removed : (has : List Bool) (members : set.FinSet pair_cmp) (place : ℕ) → place < length has → Agree has members → Agree (slice_set has place false) (set.remove members (at place))
agree_removed has members place within agree k = elim (cases_eq k place) [
  | inl e ↦ ap (λ j. get_or (slice_set has place false) j false) e ∙ get_or-set_same has place false false within
      ∙ sym (ap (λ j. set.contains (set.remove members (at place)) (at j)) e ∙ is_removed members (at place))
  | inr apart ↦ get_or-set_other has place k false false apart ∙ agree k ∙ sym (stays_removed members (at place) (at k) (at_apart k place apart))
]

-- no mark is set at first
pub none_marked : (n k : ℕ) → get_or (replicate n false) k false ≡ false
none_marked zero k = refl
none_marked (suc n) zero = refl
none_marked (suc n) (suc k) = none_marked n k

-- one pair less, whether or not there was one
pub count_removed : (members : set.FinSet pair_cmp) (p : ℕ × ℕ) → set.contains members p ≡ true → set.len (set.remove members p) ≡ set.len members - 1
count_removed members p there = set.len-remove pairs_total members p ∙ ap (λ b. cond b (set.len members - 1) (set.len members)) there

pub told : {a b : ℕ} {p : ℕ × ℕ} → a ≡ p.0 → b ≡ p.1 → ◌≡◌ {A = ℕ × ℕ} (a, b) p
told {a} {b} {p} first second = ap (λ (n : ℕ). let q : ℕ × ℕ = (n, b) in q) first ∙ ap (λ (n : ℕ). let q : ℕ × ℕ = (p.0, n) in q) second

-- Lists of numbers without repeats, which are equally long where they have the same members; the least and the greatest of a list.
use Rattle.std.proofs.Common.{◌≡◌, ◌∙◌, ℕ, suc, ◌≤◌, Bool, true, false, cond, not, min, max, List, [], ◌∷◌, ◌++◌, length, filter, refl, sym, ap, subst, inl, inr, arith}
use Rattle.std.specs.Prelude.{◌⊎◌, ◌==◌, ◌||◌}
use Rattle.std.proofs.lemmas.Bool.{true≢false, both_ways, eqb-true, eq-eqb, not-true, not_from_false, false_from_ne_true}
use Rattle.ldm_model.specs.Law.{is_among}
use Rattle.ldm_model.specs.Step.{least_of, greatest_of}
use Rattle.ldm_model.proofs.Ascending.{IsAmong, among-none, among-cons, among-head, among-tail, among-left, among-right, among-push, among-filter, filter-among, Rises, Rises-among}

-- no number stands there twice
abbrev pub AreApart : List ℕ → Type 0
AreApart [] = Unit {0}
AreApart (n ∷ ns) = (is_among ns n ≡ false) × AreApart ns

pub AreApart-from_rises : (low high : ℕ) (ns : List ℕ) → Rises low ns high → AreApart ns
AreApart-from_rises low high [] h = tt
AreApart-from_rises low high (n ∷ ns) h =
    (false_from_ne_true (is_among ns n) (λ x. let past = Rises-among (suc n) high n ns h.1 x in absurd (omega arith)), AreApart-from_rises (suc n) high ns h.1)

pub AreApart-push : (ns : List ℕ) (n : ℕ) → (IsAmong ns n → ⊥) → AreApart ns → AreApart (ns ++ n ∷ [])
AreApart-push [] n other h = (refl, tt)
AreApart-push (m ∷ ms) n other h = (
  false_from_ne_true (is_among (ms ++ n ∷ []) m) (λ x. elim (among-push ms n m x) [
    | inl e ↦ both_ways (is_among ms m) h.0 e
    | inr e ↦ other (subst (IsAmong (m ∷ ms)) (sym e) (among-head m ms))
  ]),
  AreApart-push ms n (λ x. other (among-tail m n ms x)) h.1,
)

pub AreApart-right : (ms ns : List ℕ) → AreApart (ms ++ ns) → AreApart ns
AreApart-right [] ns h = h
AreApart-right (m ∷ ms) ns h = AreApart-right ms ns h.1

pub AreApart-left : (ms ns : List ℕ) → AreApart (ms ++ ns) → AreApart ms
AreApart-left [] ns h = tt
AreApart-left (m ∷ ms) ns h = (false_from_ne_true (is_among ms m) (λ x. both_ways (is_among (ms ++ ns) m) h.0 (among-left ms ns m x)), AreApart-left ms ns h.1)

pub AreApart-between : (ms ns : List ℕ) (n : ℕ) → AreApart (ms ++ ns) → IsAmong ms n → IsAmong ns n → ⊥
AreApart-between [] ns n h there here = among-none n there
AreApart-between (m ∷ ms) ns n h there here = elim (among-cons m n ms there) [
  | inl e ↦ both_ways (is_among (ms ++ ns) m) h.0 (among-right ms ns m (subst (IsAmong ns) (sym e) here))
  | inr e ↦ AreApart-between ms ns n h.1 e here
]

-- the others
abbrev without : ℕ → List ℕ → List ℕ
without n ns = filter (λ m. not (m == n)) ns

AreApart-filter : (test : ℕ → Bool) (ns : List ℕ) → AreApart ns → AreApart (filter test ns)
AreApart-filter test [] h = tt
AreApart-filter test (n ∷ ns) h = by_test (AreApart-filter test ns h.1) (test n)
  where
    by_test : AreApart (filter test ns) → (b : Bool) → AreApart (cond b (n ∷ filter test ns) (filter test ns))
    by_test more true = (false_from_ne_true (is_among (filter test ns) n) (λ x. both_ways (is_among ns n) h.0 (among-filter test ns n x).0), more)
    by_test more false = more

without-other : (n : ℕ) (ns : List ℕ) → is_among ns n ≡ false → without n ns ≡ ns
without-other n [] h = refl
without-other n (m ∷ ms) h = by_test (without-other n ms) (m == n) h
  where
    by_test : (is_among ms n ≡ false → without n ms ≡ ms) → (b : Bool) → (b || is_among ms n) ≡ false → cond (not b) (m ∷ without n ms) (without n ms) ≡ m ∷ ms
    by_test more true e = absurd (true≢false e)
    by_test more false e = ap (λ (rest : List ℕ). m ∷ rest) (more e)

length-without : (n : ℕ) (ns : List ℕ) → AreApart ns → IsAmong ns n → length ns ≡ suc (length (without n ns))
length-without n [] h there = absurd (among-none n there)
length-without n (m ∷ ms) h there = by_test (length-without n ms h.1) (m == n) refl there
  where
    by_test : (IsAmong ms n → length ms ≡ suc (length (without n ms))) → (b : Bool) → (m == n) ≡ b → (b || is_among ms n) ≡ true
        → suc (length ms) ≡ suc (length (cond (not b) (m ∷ without n ms) (without n ms)))
    by_test more true e x = ap (λ (rest : List ℕ). suc (length rest)) (sym (without-other n ms (subst (λ i. is_among ms i ≡ false) (eqb-true m n e) h.0)))
    by_test more false e x = ap (λ (i : ℕ). suc i) (more x)

-- two lists without repeats that have the same members are equally long
pub length-same : (ms ns : List ℕ) → AreApart ms → AreApart ns → ((n : ℕ) → IsAmong ms n → IsAmong ns n) → ((n : ℕ) → IsAmong ns n → IsAmong ms n) → length ms ≡ length ns
length-same [] [] hm hn to from = refl
length-same [] (n ∷ ns) hm hn to from = absurd (among-none n (from n (among-head n ns)))
length-same (m ∷ ms) ns hm hn to from =
    let rest : length ms ≡ length (without m ns) = length-same ms (without m ns) hm.1 (AreApart-filter (λ i. not (i == m)) ns hn)
    (λ i h. filter-among (λ j. not (j == m)) ns i (to i (among-tail m i ms h))
    (not_from_false (i == m) (false_from_ne_true (i == m) (λ e. both_ways (is_among ms m) hm.0 (subst (IsAmong ms) (eqb-true i m e) h)))))
    (λ i h. let parts = among-filter (λ j. not (j == m)) ns i h in elim (among-cons m i ms (from i parts.0)) [
      | inl e ↦ absurd (both_ways (i == m) (not-true (i == m) parts.1) (eq-eqb i m (sym e)))
      | inr e ↦ e
    ]) in
    ap (λ (i : ℕ). suc i) rest ∙ sym (length-without m ns hn (to m (among-head m ms)))

pub least-among : (n : ℕ) (ns : List ℕ) → IsAmong (n ∷ ns) (least_of n ns)
least-among n [] = among-head n []
least-among n (m ∷ ms) = by_order (min n (least_of m ms)) (least-among m ms) (elim_min n (least_of m ms))
  where
    elim_min : (a b : ℕ) → (min a b ≡ a) ⊎ (min a b ≡ b)
    elim_min a b = grind arith

    by_order : (l : ℕ) → IsAmong (m ∷ ms) (least_of m ms) → (l ≡ n) ⊎ (l ≡ least_of m ms) → IsAmong (n ∷ (m ∷ ms)) l
    by_order l more e = elim e [
      | inl x ↦ subst (IsAmong (n ∷ (m ∷ ms))) (sym x) (among-head n (m ∷ ms))
      | inr x ↦ subst (IsAmong (n ∷ (m ∷ ms))) (sym x) (among-tail n (least_of m ms) (m ∷ ms) more)
    ]

pub least-below : (n i : ℕ) (ns : List ℕ) → IsAmong (n ∷ ns) i → least_of n ns ≤ i
least-below n i [] h = elim (among-cons n i [] h) [ inl e ↦ omega arith | inr e ↦ absurd (among-none i e) ]
least-below n i (m ∷ ms) h = elim (among-cons n i (m ∷ ms) h) [ inl e ↦ omega arith | inr e ↦ let more = least-below m i ms e in omega arith ]

pub greatest-among : (n : ℕ) (ns : List ℕ) → IsAmong (n ∷ ns) (greatest_of n ns)
greatest-among n [] = among-head n []
greatest-among n (m ∷ ms) = by_order (max n (greatest_of m ms)) (greatest-among m ms) (elim_max n (greatest_of m ms))
  where
    elim_max : (a b : ℕ) → (max a b ≡ a) ⊎ (max a b ≡ b)
    elim_max a b = grind arith

    by_order : (l : ℕ) → IsAmong (m ∷ ms) (greatest_of m ms) → (l ≡ n) ⊎ (l ≡ greatest_of m ms) → IsAmong (n ∷ (m ∷ ms)) l
    by_order l more e = elim e [
      | inl x ↦ subst (IsAmong (n ∷ (m ∷ ms))) (sym x) (among-head n (m ∷ ms))
      | inr x ↦ subst (IsAmong (n ∷ (m ∷ ms))) (sym x) (among-tail n (greatest_of m ms) (m ∷ ms) more)
    ]

pub greatest-above : (n i : ℕ) (ns : List ℕ) → IsAmong (n ∷ ns) i → i ≤ greatest_of n ns
greatest-above n i [] h = elim (among-cons n i [] h) [ inl e ↦ omega arith | inr e ↦ absurd (among-none i e) ]
greatest-above n i (m ∷ ms) h = elim (among-cons n i (m ∷ ms) h) [ inl e ↦ omega arith | inr e ↦ let more = greatest-above m i ms e in omega arith ]

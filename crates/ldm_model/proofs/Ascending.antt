-- Numbers that rise from a bound on and up to a bound, and what is among them.
use Rattle.std.proofs.Common.{◌≡◌, ◌∙◌, ℕ, zero, suc, ◌+◌, ◌<◌, ◌≤◌, Bool, true, false, cond, List, [], ◌∷◌, ◌++◌, length, filter, refl, sym, ap, subst, inl, inr, arith}
use Rattle.std.specs.Prelude.{◌⊎◌, ◌==◌, All, Contains, slice_index_or}
use Rattle.std.specs.List.{range_with_len}
use Rattle.std.specs.List.Sorted.{IsStrictlyIncreasing}
use Rattle.std.proofs.lemmas.Bool.{false≢true, or_cases, or_left, or_right, eqb-true, eqb-false, eq-eqb}
use Rattle.ldm_model.specs.Law.{is_among}

abbrev pub IsAmong : List ℕ → ℕ → Type 0
IsAmong ns n = is_among ns n ≡ true

pub among-none : (n : ℕ) → IsAmong [] n → ⊥
among-none n h = false≢true h

pub among-cons : (m n : ℕ) (ns : List ℕ) → IsAmong (m ∷ ns) n → (m ≡ n) ⊎ IsAmong ns n
among-cons m n ns h = elim (or_cases (m == n) (is_among ns n) h) [ inl e ↦ inl (eqb-true m n e) | inr e ↦ inr e ]

pub among-head : (n : ℕ) (ns : List ℕ) → IsAmong (n ∷ ns) n
among-head n ns = or_left (n == n) (is_among ns n) (eq-eqb n n refl)

pub among-tail : (m n : ℕ) (ns : List ℕ) → IsAmong ns n → IsAmong (m ∷ ns) n
among-tail m n ns h = or_right (m == n) (is_among ns n) h

pub among-append : (ms ns : List ℕ) (n : ℕ) → IsAmong (ms ++ ns) n → IsAmong ms n ⊎ IsAmong ns n
among-append [] ns n h = inr h
among-append (m ∷ ms) ns n h = elim (among-cons m n (ms ++ ns) h) [
  | inl e ↦ inl (subst (IsAmong (m ∷ ms)) e (among-head m ms))
  | inr e ↦ elim (among-append ms ns n e) [ inl x ↦ inl (among-tail m n ms x) | inr x ↦ inr x ]
]

pub among-left : (ms ns : List ℕ) (n : ℕ) → IsAmong ms n → IsAmong (ms ++ ns) n
among-left [] ns n h = absurd (among-none n h)
among-left (m ∷ ms) ns n h = elim (among-cons m n ms h) [
  | inl e ↦ subst (IsAmong (m ∷ (ms ++ ns))) e (among-head m (ms ++ ns))
  | inr e ↦ among-tail m n (ms ++ ns) (among-left ms ns n e)
]

pub among-right : (ms ns : List ℕ) (n : ℕ) → IsAmong ns n → IsAmong (ms ++ ns) n
among-right [] ns n h = h
among-right (m ∷ ms) ns n h = among-tail m n (ms ++ ns) (among-right ms ns n h)

pub among-push : (ns : List ℕ) (m n : ℕ) → IsAmong (ns ++ m ∷ []) n → IsAmong ns n ⊎ (m ≡ n)
among-push ns m n h = elim (among-append ns (m ∷ []) n h) [ inl e ↦ inl e | inr e ↦ elim (among-cons m n [] e) [ inl x ↦ inr x | inr x ↦ absurd (among-none n x) ] ]

pub among-pushed : (ns : List ℕ) (n : ℕ) → IsAmong (ns ++ n ∷ []) n
among-pushed ns n = among-right ns (n ∷ []) n (among-head n [])

pub among-filter : (test : ℕ → Bool) (ns : List ℕ) (n : ℕ) → IsAmong (filter test ns) n → IsAmong ns n × (test n ≡ true)
among-filter test [] n h = absurd (among-none n h)
among-filter test (m ∷ ms) n h = by_test (among-filter test ms n) (test m) refl h
  where
    by_test : (IsAmong (filter test ms) n → IsAmong ms n × (test n ≡ true)) → (b : Bool) → test m ≡ b → IsAmong (cond b (m ∷ filter test ms) (filter test ms)) n → IsAmong (m ∷ ms) n × (test n ≡ true)
    by_test more true e there = elim (among-cons m n (filter test ms) there) [
      | inl x ↦ (subst (IsAmong (m ∷ ms)) x (among-head m ms), ap test (sym x) ∙ e)
      | inr x ↦ (among-tail m n ms (more x).0, (more x).1)
    ]
    by_test more false e there = (among-tail m n ms (more there).0, (more there).1)

pub filter-among : (test : ℕ → Bool) (ns : List ℕ) (n : ℕ) → IsAmong ns n → test n ≡ true → IsAmong (filter test ns) n
filter-among test [] n h e = absurd (among-none n h)
filter-among test (m ∷ ms) n h e = by_test (λ x. filter-among test ms n x e) (test m) refl
  where
    by_test : (IsAmong ms n → IsAmong (filter test ms) n) → (b : Bool) → test m ≡ b → IsAmong (cond b (m ∷ filter test ms) (filter test ms)) n
    by_test more true at = elim (among-cons m n ms h) [
      | inl x ↦ subst (IsAmong (m ∷ filter test ms)) x (among-head m (filter test ms))
      | inr x ↦ among-tail m n (filter test ms) (more x)
    ]
    by_test more false at = elim (among-cons m n ms h) [
      | inl x ↦ absurd (false≢true (sym at ∙ ap test x ∙ e))
      | inr x ↦ more x
    ]

-- these numbers rise; the least is not below the first bound, and the greatest is below the second
abbrev pub Rises : ℕ → List ℕ → ℕ → Type 0
Rises low [] high = low ≤ high
Rises low (n ∷ ns) high = (low ≤ n) × Rises (suc n) ns high

pub Rises-bounds : (low high : ℕ) (ns : List ℕ) → Rises low ns high → low ≤ high
Rises-bounds low high [] h = h
Rises-bounds low high (n ∷ ns) h = omega (arith, Rises-bounds (suc n) high ns h.1)

pub Rises-among : (low high n : ℕ) (ns : List ℕ) → Rises low ns high → IsAmong ns n → (low ≤ n) × (n < high)
Rises-among low high n [] h there = absurd (among-none n there)
Rises-among low high n (m ∷ ms) h there = elim (among-cons m n ms there) [
  | inl e ↦ let bound = Rises-bounds (suc m) high ms h.1 in (omega arith, omega arith)
  | inr e ↦ let more = Rises-among (suc m) high n ms h.1 e in (omega arith, more.1)
]

pub Rises-lower : (low low' high : ℕ) (ns : List ℕ) → low' ≤ low → Rises low ns high → Rises low' ns high
Rises-lower low low' high [] le h = omega arith
Rises-lower low low' high (n ∷ ns) le h = (omega arith, h.1)

pub Rises-higher : (low high high' : ℕ) (ns : List ℕ) → high ≤ high' → Rises low ns high → Rises low ns high'
Rises-higher low high high' [] le h = omega arith
Rises-higher low high high' (n ∷ ns) le h = (h.0, Rises-higher (suc n) high high' ns le h.1)

pub Rises-push : (low high n : ℕ) (ns : List ℕ) → high ≤ n → Rises low ns high → Rises low (ns ++ n ∷ []) (n + 1)
Rises-push low high n [] le h = (omega arith, omega arith)
Rises-push low high n (m ∷ ms) le h = (h.0, Rises-push (suc m) high n ms le h.1)

pub Rises-filter : (test : ℕ → Bool) (low high : ℕ) (ns : List ℕ) → Rises low ns high → Rises low (filter test ns) high
Rises-filter test low high [] h = h
Rises-filter test low high (n ∷ ns) h = by_test (Rises-filter test (suc n) high ns h.1) (test n)
  where
    by_test : Rises (suc n) (filter test ns) high → (b : Bool) → Rises low (cond b (n ∷ filter test ns) (filter test ns)) high
    by_test more true = (h.0, more)
    by_test more false = Rises-lower (suc n) low high (filter test ns) (omega arith) more

pub Rises-range : (low n high : ℕ) → low + n ≡ high → Rises low (range_with_len low n) high
Rises-range low zero high e = omega arith
Rises-range low (suc n) high e = (omega arith, Rises-lower (low + 1) (suc low) high (range_with_len (low + 1) n) (omega arith) (Rises-range (low + 1) n high (omega arith)))

pub among-range : (low n i : ℕ) → low ≤ i → i < low + n → IsAmong (range_with_len low n) i
among-range low zero i le lt = absurd (omega arith)
among-range low (suc n) i le lt = by_test (λ h. among-range (low + 1) n i h (omega arith)) (low == i) refl
  where
    by_test : (low + 1 ≤ i → IsAmong (range_with_len (low + 1) n) i) → (b : Bool) → (low == i) ≡ b → IsAmong (low ∷ range_with_len (low + 1) n) i
    by_test more true e = or_left (low == i) (is_among (range_with_len (low + 1) n) i) e
    by_test more false e = let other = eqb-false low i e in among-tail low i (range_with_len (low + 1) n) (more (omega arith))

-- two lists that rise and have the same members are one
pub Rises-same : (low high low' high' : ℕ) (ms ns : List ℕ) → Rises low ms high → Rises low' ns high' → ((n : ℕ) → IsAmong ms n → IsAmong ns n) → ((n : ℕ) → IsAmong ns n → IsAmong ms n) → ms ≡ ns
Rises-same low high low' high' [] [] hm hn to from = refl
Rises-same low high low' high' [] (n ∷ ns) hm hn to from = absurd (among-none n (from n (among-head n ns)))
Rises-same low high low' high' (m ∷ ms) [] hm hn to from = absurd (among-none m (to m (among-head m ms)))
Rises-same low high low' high' (m ∷ ms) (n ∷ ns) hm hn to from =
    let a = Rises-among n high' m (n ∷ ns) (omega arith, hn.1) (to m (among-head m ms)) in
    let b = Rises-among m high n (m ∷ ms) (omega arith, hm.1) (from n (among-head n ns)) in
    let same : m ≡ n = omega arith in
    let rest : ms ≡ ns = Rises-same (suc m) high (suc n) high' ms ns hm.1 hn.1
    (λ i h. elim (among-cons n i ns (to i (among-tail m i ms h))) [ inl e ↦ let past = Rises-among (suc m) high i ms hm.1 h in absurd (omega arith) | inr x ↦ x ])
    (λ i h. elim (among-cons m i ms (from i (among-tail n i ns h))) [ inl e ↦ let past = Rises-among (suc n) high' i ns hn.1 h in absurd (omega arith) | inr x ↦ x ]) in
    λ i. same i ∷ rest i

pub IsStrictlyIncreasing-from_rises : (low high : ℕ) (ns : List ℕ) → Rises low ns high → IsStrictlyIncreasing ns
IsStrictlyIncreasing-from_rises low high [] h k lt = absurd (omega arith)
IsStrictlyIncreasing-from_rises low high (n ∷ []) h k lt = absurd (omega arith)
IsStrictlyIncreasing-from_rises low high (n ∷ (m ∷ ms)) h zero lt = omega (arith, h.1.0)
IsStrictlyIncreasing-from_rises low high (n ∷ (m ∷ ms)) h (suc k) lt =
    let e : suc k + 1 ≡ suc (k + 1) = omega arith in rw e (IsStrictlyIncreasing-from_rises (suc n) high (m ∷ ms) h.1 k (omega arith))

-- between a test of membership and the place of a member
pub among-at : (ns : List ℕ) (k d : ℕ) → k < length ns → IsAmong ns (slice_index_or ns k d)
among-at [] k d lt = absurd (omega arith)
among-at (n ∷ ns) zero d lt = among-head n ns
among-at (n ∷ ns) (suc k) d lt = among-tail n (slice_index_or ns k d) ns (among-at ns k d (omega arith))

pub Contains-from_among : (ns : List ℕ) (n : ℕ) → IsAmong ns n → Contains ns n
Contains-from_among [] n h = absurd (among-none n h)
Contains-from_among (m ∷ ms) n h = by_test (Contains-from_among ms n) (among-cons m n ms h)
  where
    by_test : (IsAmong ms n → Contains ms n) → (m ≡ n) ⊎ IsAmong ms n → Contains (m ∷ ms) n
    by_test more e = elim e [
      | inl x ↦ (0, omega arith, x)
      | inr x ↦ let there = more x in (suc there.0, omega (arith, there.1), there.2)
    ]

pub among-from_Contains : (ns : List ℕ) (n : ℕ) → Contains ns n → IsAmong ns n
among-from_Contains ns n there = subst (IsAmong ns) there.2 (among-at ns there.0 n there.1)

pub All-from_among : (P : ℕ → Type 0) (ns : List ℕ) → ((n : ℕ) → IsAmong ns n → P n) → All P ns
All-from_among P ns each k d lt = each (slice_index_or ns k d) (among-at ns k d lt)

-- Lemmas for callers: what stands under a number after a change.
use Rattle.std.proofs.Common.{◌≡◌, ◌∙◌, ℕ, ◌≢◌, ◌<◌, Bool, true, false, cond, List, [], ◌∷◌, Option, Some, refl, sym, ap, arith}
use Rattle.std.specs.Ordering.{nat_cmp, is_eq, match_ordering, MatchOrdering}
use Rattle.std.specs.declared.cmp.Ordering.{Ordering}
use Rattle.std.specs.declared.cmp.Ordering.TheVariants.{Less, Equal, Greater}
use Rattle.std.proofs.lemmas.Cmp.{ranked}
use Rattle.ldm_outside.specs.Numbered.{at_number, with_number, without_number, with_changed_number}

same_number : (n : ℕ) → is_eq (nat_cmp n n) ≡ true
same_number n = by_order (nat_cmp n n) (ranked n n (nat_cmp n n) refl)
  where
    by_order : (r : Ordering) → MatchOrdering r (n < n) (n ≡ n) (n < n) → is_eq r ≡ true
    by_order Less h = absurd (omega (arith, h))
    by_order Equal h = refl
    by_order Greater h = absurd (omega (arith, h))

other_number : (m n : ℕ) → m ≢ n → is_eq (nat_cmp m n) ≡ false
other_number m n differ = by_order (nat_cmp m n) (ranked m n (nat_cmp m n) refl)
  where
    by_order : (r : Ordering) → MatchOrdering r (m < n) (m ≡ n) (n < m) → is_eq r ≡ false
    by_order Less h = refl
    by_order Equal h = absurd (differ h)
    by_order Greater h = refl

module _ {A : Type 0} where
  -- the thing that was put under a number stands there
  pub at-with : (n : ℕ) (x : A) (things : List (ℕ × A)) → at_number n (with_number n x things) ≡ Some x
  at-with n x [] = rw (same_number n) refl
  at-with n x (e ∷ es) = by_order (nat_cmp n e.0) refl (at-with n x es)
    where
      by_order : (r : Ordering) → r ≡ nat_cmp n e.0 → at_number n (with_number n x es) ≡ Some x → at_number n (match_ordering r ((n, x) ∷ e ∷ es) ((e.0, x) ∷ es) (e ∷ with_number n x es)) ≡ Some x
      by_order Less is later = rw (same_number n) refl
      by_order Equal is later = rw (sym is) refl
      by_order Greater is later = rw (sym is) later

  -- nothing else changed
  pub at-with-others : (n m : ℕ) (x : A) (things : List (ℕ × A)) → m ≢ n → at_number m (with_number n x things) ≡ at_number m things
  at-with-others n m x [] differ = rw (other_number m n differ) refl
  at-with-others n m x (e ∷ es) differ = by_order (nat_cmp n e.0) (ranked n e.0 (nat_cmp n e.0) refl) (at-with-others n m x es differ)
    where
      by_order : (r : Ordering) → MatchOrdering r (n < e.0) (n ≡ e.0) (e.0 < n) → at_number m (with_number n x es) ≡ at_number m es
          → at_number m (match_ordering r ((n, x) ∷ e ∷ es) ((e.0, x) ∷ es) (e ∷ with_number n x es)) ≡ at_number m (e ∷ es)
      by_order Less h later = rw (other_number m n differ) refl
      by_order Equal h later = let apart : m ≢ e.0 = λ is. differ (is ∙ sym h) in rw (other_number m e.0 apart) refl
      by_order Greater h later = ap (λ (o : Option A). cond (is_eq (nat_cmp m e.0)) (Some e.1) o) later

  pub at-without-others : (n m : ℕ) (things : List (ℕ × A)) → m ≢ n → at_number m (without_number n things) ≡ at_number m things
  at-without-others n m [] differ = refl
  at-without-others n m (e ∷ es) differ =
      by_order (nat_cmp n e.0) (ranked n e.0 (nat_cmp n e.0) refl) (ap (λ (o : Option A). cond (is_eq (nat_cmp m e.0)) (Some e.1) o) (at-without-others n m es differ))
    where
      by_order : (r : Ordering) → MatchOrdering r (n < e.0) (n ≡ e.0) (e.0 < n) → at_number m (e ∷ without_number n es) ≡ at_number m (e ∷ es)
          → at_number m (cond (is_eq r) es (e ∷ without_number n es)) ≡ at_number m (e ∷ es)
      by_order Less h later = later
      by_order Equal h later = let apart : m ≢ e.0 = λ is. differ (is ∙ sym h) in rw (other_number m e.0 apart) refl
      by_order Greater h later = later

  -- the thing that was put in place of another stands there
  pub at-changed : (n : ℕ) (was x : A) (things : List (ℕ × A)) → at_number n things ≡ Some was → at_number n (with_changed_number n x things) ≡ Some x
  at-changed n was x [] found = absurd (cc)
  at-changed n was x (e ∷ es) found = by_test (is_eq (nat_cmp n e.0)) refl (at-changed n was x es) found
    where
      by_test : (b : Bool) → b ≡ is_eq (nat_cmp n e.0) → (at_number n es ≡ Some was → at_number n (with_changed_number n x es) ≡ Some x)
          → cond b (Some e.1) (at_number n es) ≡ Some was → at_number n (cond b ((e.0, x) ∷ es) (e ∷ with_changed_number n x es)) ≡ Some x
      by_test true is later found = rw (sym is) refl
      by_test false is later found = rw (sym is) (later found)

  pub at-changed-others : (n m : ℕ) (x : A) (things : List (ℕ × A)) → m ≢ n → at_number m (with_changed_number n x things) ≡ at_number m things
  at-changed-others n m x [] differ = refl
  at-changed-others n m x (e ∷ es) differ =
      by_order (nat_cmp n e.0) (ranked n e.0 (nat_cmp n e.0) refl) (ap (λ (o : Option A). cond (is_eq (nat_cmp m e.0)) (Some e.1) o) (at-changed-others n m x es differ))
    where
      by_order : (r : Ordering) → MatchOrdering r (n < e.0) (n ≡ e.0) (e.0 < n) → at_number m (e ∷ with_changed_number n x es) ≡ at_number m (e ∷ es)
          → at_number m (cond (is_eq r) ((e.0, x) ∷ es) (e ∷ with_changed_number n x es)) ≡ at_number m (e ∷ es)
      by_order Less h later = later
      by_order Equal h later = let apart : m ≢ e.0 = λ is. differ (is ∙ sym h) in rw (other_number m e.0 apart) refl
      by_order Greater h later = later

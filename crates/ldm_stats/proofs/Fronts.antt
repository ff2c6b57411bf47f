-- Bytes are ordered as the numbers that their first ones spell, where these differ.
use Rattle.std.proofs.Common.{◌≡◌, ◌∙◌, ℕ, zero, suc, ◌+◌, ◌*◌, ◌<◌, ◌≤◌, List, [], ◌∷◌, length, get_or, refl, sym, ap, subst, arith}
use Rattle.std.specs.declared.cmp.Ordering.{Ordering}
use Rattle.std.specs.declared.cmp.Ordering.TheVariants.{Less, Equal, Greater}
use Rattle.std.specs.Ordering.{nat_cmp, ordering_then, MatchOrdering}
use Rattle.std.specs.Cmp.{nat_cmp_is}
use Rattle.std.specs.Cmp.Lexicographic.{slice_cmp}
use Rattle.std.proofs.lemmas.Cmp.{ranked}
use Rattle.ldm_stats.specs.Fronts.{front, AreBytes, TellsFront}

rises : (n a b : ℕ) (xs ys : List ℕ) → n ≤ length xs → n ≤ length ys → AreBytes xs → a < b → front n a xs < front n b ys
rises zero a b xs ys p q h less = less
rises (suc n) a b [] ys p q h less = absurd (omega arith)
rises (suc n) a b (x ∷ xs) [] p q h less = absurd (omega arith)
rises (suc n) a b (x ∷ xs) (y ∷ ys) p q h less =
    let small : x < 256 = h 0 in
    rises n (a * 256 + x) (b * 256 + y) xs ys (omega arith) (omega arith) (λ k. h (suc k)) (omega arith)

pub by_fronts : (n a : ℕ) (xs ys : List ℕ) → n ≤ length xs → n ≤ length ys → AreBytes xs → AreBytes ys
    → (front n a xs ≡ front n a ys → ⊥) → slice_cmp nat_cmp xs ys ≡ nat_cmp (front n a xs) (front n a ys)
by_fronts zero a xs ys p q g h differ = absurd (differ refl)
by_fronts (suc n) a [] ys p q g h differ = absurd (omega arith)
by_fronts (suc n) a (x ∷ xs) [] p q g h differ = absurd (omega arith)
by_fronts (suc n) a (x ∷ xs) (y ∷ ys) p q g h differ =
    by (by_fronts n (a * 256 + x) xs ys (omega arith) (omega arith) (λ k. g (suc k)) (λ k. h (suc k))) (nat_cmp x y) refl
    (ranked x y (nat_cmp x y) refl)
  where
    by : ((front n (a * 256 + x) xs ≡ front n (a * 256 + x) ys → ⊥) → slice_cmp nat_cmp xs ys ≡ nat_cmp (front n (a * 256 + x) xs) (front n (a * 256 + x) ys))
        → (r : Ordering) → nat_cmp x y ≡ r → MatchOrdering r (x < y) (x ≡ y) (y < x)
        → ordering_then (nat_cmp x y) (slice_cmp nat_cmp xs ys) ≡ nat_cmp (front n (a * 256 + x) xs) (front n (a * 256 + y) ys)
    by rest Less e l =
        let under : x < y = l in
        let t = rises n (a * 256 + x) (a * 256 + y) xs ys (omega arith) (omega arith) (λ k. g (suc k)) (omega arith) in
        ap (λ (r : Ordering). ordering_then r (slice_cmp nat_cmp xs ys)) e ∙ nat_cmp_is _ _ Less t
    by rest Greater e l =
        let over : y < x = l in
        let t = rises n (a * 256 + y) (a * 256 + x) ys xs (omega arith) (omega arith) (λ k. h (suc k)) (omega arith) in
        ap (λ (r : Ordering). ordering_then r (slice_cmp nat_cmp xs ys)) e ∙ nat_cmp_is _ _ Greater t
    by rest Equal e l =
        let level : x ≡ y = l in
        let other = λ (z : ℕ). front n (a * 256 + z) ys in
        let P : ℕ → Type 0 = λ z. slice_cmp nat_cmp xs ys ≡ nat_cmp (front n (a * 256 + x) xs) (other z) in
        ap (λ (r : Ordering). ordering_then r (slice_cmp nat_cmp xs ys)) e
        ∙ subst P level (rest (λ same. differ (same ∙ ap other level)))

pub eight_are : (xs : List ℕ) → 8 ≤ length xs
    → get_or xs 0 0 * 72057594037927936 + get_or xs 1 0 * 281474976710656 + get_or xs 2 0 * 1099511627776 + get_or xs 3 0 * 4294967296
    + get_or xs 4 0 * 16777216 + get_or xs 5 0 * 65536 + get_or xs 6 0 * 256 + get_or xs 7 0 ≡ front 8 0 xs
eight_are [] le = absurd (omega arith)
eight_are (a ∷ []) le = absurd (omega arith)
eight_are (a ∷ b ∷ []) le = absurd (omega arith)
eight_are (a ∷ b ∷ c ∷ []) le = absurd (omega arith)
eight_are (a ∷ b ∷ c ∷ d ∷ []) le = absurd (omega arith)
eight_are (a ∷ b ∷ c ∷ d ∷ e ∷ []) le = absurd (omega arith)
eight_are (a ∷ b ∷ c ∷ d ∷ e ∷ f ∷ []) le = absurd (omega arith)
eight_are (a ∷ b ∷ c ∷ d ∷ e ∷ f ∷ g ∷ []) le = absurd (omega arith)
eight_are (a ∷ b ∷ c ∷ d ∷ e ∷ f ∷ g ∷ h ∷ xs) le = omega arith

module _ (xs ys : List ℕ) (x y : ℕ) (tells_x : TellsFront x xs) (tells_y : TellsFront y ys) (some_x : 0 < x) (some_y : 0 < y) where
  told : (x ≡ y → ⊥) → slice_cmp nat_cmp xs ys ≡ nat_cmp x y
  told differ =
      let one = tells_x some_x in
      let other = tells_y some_y in
      let apart : front 8 0 xs ≡ front 8 0 ys → ⊥ = λ same. differ (one.1 ∙ same ∙ sym other.1) in
      by_fronts 8 0 xs ys one.0 other.0 one.2 other.2 apart ∙ ap (λ (n : ℕ). nat_cmp n (front 8 0 ys)) (sym one.1) ∙ ap (λ (n : ℕ). nat_cmp x n) (sym other.1)

  pub less_by : x < y → Less ≡ slice_cmp nat_cmp xs ys
  less_by less = nat_cmp_is _ _ Less less ∙ sym (told (λ same. omega (arith, same, less)))

  pub greater_by : y < x → Greater ≡ slice_cmp nat_cmp xs ys
  greater_by less = nat_cmp_is _ _ Greater less ∙ sym (told (λ same. omega (arith, same, less)))

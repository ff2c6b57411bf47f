-- A balanced tree of n pairs is of a height whose power of two is at most (n + 1) squared.
use Rattle.std.proofs.Common.{◌≡◌, ℕ, inl, inr, ◌+◌, ◌*◌, ◌^◌, ◌<◌, ◌≤◌, max, ◌∷◌, ◌++◌, length, sym, ap, ◌∙◌, subst, length-append, arith}
use Rattle.std.proofs.Math.Nat.{mul-le-mul, mul-le-mul_left, pow-suc, pow-zero}
use Rattle.std.proofs.Math.Pow.{pow_mono}
use Rattle.std.proofs.lemmas.Nat.{pow-add}
use Rattle.std.proofs.lemmas.Bool.{cases_lt}
use Rattle.ldm_freelist.specs.Tree.{Tree, Leaf, Fork, height, pairs_of, IsBalanced, DifferByAtMost}

square : (x : ℕ) → x ^ 2 ≡ x * x
square x = pow-suc x 1 ∙ ap (λ n. n * x) (pow-suc x 0 ∙ ap (λ n. n * x) (pow-zero x) ∙ omega arith)

four_squares : (a x y : ℕ) → a ≤ x * x → a ≤ y * y → a * 4 ≤ (x + y) * (x + y)
four_squares a x y fx fy =
    elim (cases_lt x y) [
      | inl less ↦ (let h : x * x ≤ x * y = mul-le-mul_left x (omega (arith, less)) in omega (arith, fx, fy, h))
      | inr more ↦ (let h : y * y ≤ y * x = mul-le-mul_left y more in omega (arith, fx, fy, h))
    ]

pub pow_height : (t : Tree) → IsBalanced t → 2 ^ height t ≤ (length (pairs_of t) + 1) * (length (pairs_of t) + 1)
pow_height Leaf b = omega arith
pow_height (Fork k p l r) b = over (length (pairs_of l) + 1) (length (pairs_of r) + 1) (length (pairs_of l ++ p ∷ pairs_of r) + 1) (height l) (height r)
    (omega (arith, length-append (pairs_of l) (p ∷ pairs_of r))) b.0 (pow_height l b.1) (pow_height r b.2) where
      over : (x y n a c : ℕ) → n ≡ x + y → DifferByAtMost 1 a c → 2 ^ a ≤ x * x → 2 ^ c ≤ y * y → 2 ^ (max a c + 1) ≤ n * n
      over x y n a c is near fa fc =
          elim (cases_lt a c) [
            | inl less ↦
                let up : 2 ^ (max a c + 1) ≤ 2 ^ (a + 2) = pow_mono (omega (arith, near, less)) in
                let same = pow-add 2 a 2 in
                let lower : 2 ^ a ≤ 2 ^ c = pow_mono (omega (arith, less)) in
                let all = four_squares (2 ^ a) x y fa (omega (arith, lower, fc)) in
                subst (λ m. 2 ^ (max a c + 1) ≤ m * m) (sym is) (omega (arith, up, same, all))
            | inr more ↦
                let up : 2 ^ (max a c + 1) ≤ 2 ^ (c + 2) = pow_mono (omega (arith, near, more)) in
                let same = pow-add 2 c 2 in
                let lower : 2 ^ c ≤ 2 ^ a = pow_mono more in
                let all = four_squares (2 ^ c) x y (omega (arith, lower, fa)) fc in
                subst (λ m. 2 ^ (max a c + 1) ≤ m * m) (sym is) (omega (arith, up, same, all))
          ]

-- so many steps, one for each level at most
pub few_steps : (t : Tree) (steps : ℕ) → IsBalanced t → steps ≤ height t → 2 ^ steps ≤ (length (pairs_of t) + 1) ^ 2
few_steps t steps b h =
    let up : 2 ^ steps ≤ 2 ^ height t = pow_mono h in
    omega (arith, up, pow_height t b, square (length (pairs_of t) + 1))

-- a tree of n pairs has at least so many levels that their power of two is above n
pub full_height : (t : Tree) → length (pairs_of t) + 1 ≤ 2 ^ height t
full_height Leaf = omega arith
full_height (Fork k p l r) =
    over (length (pairs_of l)) (length (pairs_of r)) (length (pairs_of l ++ p ∷ pairs_of r)) (height l) (height r) (omega (arith, length-append (pairs_of l) (p ∷ pairs_of r))) (full_height l) (full_height r) where
      over : (x y n a c : ℕ) → n ≡ x + (y + 1) → x + 1 ≤ 2 ^ a → y + 1 ≤ 2 ^ c → n + 1 ≤ 2 ^ (max a c + 1)
      over x y n a c is fa fc =
          let left : 2 ^ a ≤ 2 ^ max a c = pow_mono (omega arith) in
          let right : 2 ^ c ≤ 2 ^ max a c = pow_mono (omega arith) in
          let double : 2 ^ (max a c + 1) ≡ 2 ^ max a c * 2 = pow-add 2 (max a c) 1 in
          omega (arith, is, fa, fc, left, right, double)

-- so many steps, one for two levels at least
pub enough_steps : (t : Tree) (steps : ℕ) → height t ≤ 2 * steps → length (pairs_of t) + 1 ≤ (2 ^ steps) ^ 2
enough_steps t steps h =
    let up : 2 ^ height t ≤ 2 ^ (steps + steps) = pow_mono (omega (arith, h)) in
    omega (arith, full_height t, up, pow-add 2 steps steps, square (2 ^ steps))

-- with fewer than 2 ^ 32 pairs there are at most 64 levels
pub height_low : (t : Tree) → IsBalanced t → length (pairs_of t) < 2 ^ 32 → height t ≤ 64
height_low t b h =
    elim (cases_lt 64 (height t)) [
      | inl far ↦
          let up : 2 ^ 65 ≤ 2 ^ height t = pow_mono {i = 65} {j = height t} (omega (arith, far)) in
          let n : length (pairs_of t) + 1 ≤ 2 ^ 32 = omega (arith, h) in
          let most : (length (pairs_of t) + 1) * (length (pairs_of t) + 1) ≤ 2 ^ 32 * 2 ^ 32 = mul-le-mul n n in
          absurd (omega (arith, up, most, pow_height t b))
      | inr near ↦ near
    ]

-- Numbers that rise, in lists that are joined or cut.
use Rattle.std.proofs.Common.{◌≡◌, ℕ, suc, ◌+◌, ◌<◌, ◌≤◌, List, [], ◌∷◌, ◌++◌, inl, inr, arith}
use Rattle.std.specs.List.Sorted.{IsStrictlyIncreasing}
use Rattle.ldm_model.proofs.Ascending.{IsAmong, among-none, among-cons, among-head, among-right, Rises, Rises-bounds, Rises-among}

-- one past the last of these numbers, or the number before them
abbrev pub past : ℕ → List ℕ → ℕ
past low [] = low
past low (n ∷ ns) = past (suc n) ns

increasing-tail : (n : ℕ) (ns : List ℕ) → IsStrictlyIncreasing (n ∷ ns) → IsStrictlyIncreasing ns
increasing-tail n ns rise k lt =
    let e : suc k + 1 ≡ suc (k + 1) = omega arith in rw e at (rise (suc k) (omega arith))

Rises-from_head : (low n : ℕ) (ns : List ℕ) → IsStrictlyIncreasing (n ∷ ns) → low ≤ n → Rises low (n ∷ ns) (past low (n ∷ ns))
Rises-from_head low n [] rise le = (le, omega arith)
Rises-from_head low n (m ∷ ms) rise le = (le, Rises-from_head (suc n) m ms (increasing-tail n (m ∷ ms) rise) (omega (arith, rise 0 (omega arith))))

pub Rises-from_increasing : (ns : List ℕ) → IsStrictlyIncreasing ns → Rises 0 ns (past 0 ns)
Rises-from_increasing [] rise = omega arith
Rises-from_increasing (n ∷ ns) rise = Rises-from_head 0 n ns rise (omega arith)

-- what rises so rises from every bound that none is below, and up to its last one
pub Rises-between : (low from high : ℕ) (ns : List ℕ) → Rises from ns high → ((m : ℕ) → IsAmong ns m → low ≤ m) → Rises low ns (past low ns)
Rises-between low from high [] h above = omega arith
Rises-between low from high (n ∷ ns) h above =
    (above n (among-head n ns), Rises-between (suc n) (suc n) high ns h.1 (λ m there. (Rises-among (suc n) high m ns h.1 there).0))

pub Rises-append : (low mid high : ℕ) (ms ns : List ℕ) → Rises low ms mid → Rises mid ns high → Rises low (ms ++ ns) high
Rises-append low mid high [] [] h k = omega arith
Rises-append low mid high [] (n ∷ ns) h k = (omega (arith, h, k.0), k.1)
Rises-append low mid high (m ∷ ms) ns h k = (h.0, Rises-append (suc m) mid high ms ns h.1 k)

pub Rises-front : (low high : ℕ) (ms ns : List ℕ) → Rises low (ms ++ ns) high → Rises low ms high
Rises-front low high [] ns h = Rises-bounds low high ns h
Rises-front low high (m ∷ ms) ns h = (h.0, Rises-front (suc m) high ms ns h.1)

-- those in front are below those behind
pub Rises-apart : (low high m n : ℕ) (ms ns : List ℕ) → Rises low (ms ++ ns) high → IsAmong ms m → IsAmong ns n → m < n
Rises-apart low high m n [] ns h there then = absurd (among-none m there)
Rises-apart low high m n (x ∷ ms) ns h there then = elim (among-cons x m ms there) [
  | inl same ↦ let bounds = Rises-among (suc x) high n (ms ++ ns) h.1 (among-right ms ns n then) in omega arith
  | inr more ↦ Rises-apart (suc x) high m n ms ns h.1 more then
]

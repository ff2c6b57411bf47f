-- The rows that an insertion or an expiry evicts: present, and held by nobody, each at its turn.
use Rattle.std.proofs.Common.{◌≡◌, ◌∙◌, ℕ, zero, suc, true, false, not, List, [], ◌∷◌, take, length, sym, subst, inl, inr, arith}
use Rattle.std.proofs.lemmas.Bool.{not-true}
use Rattle.ldm_model.specs.State.{State, is_queued}
use Rattle.ldm_model.specs.Evict.{is_held, numbers, unheld, evict}
use Rattle.ldm_model.proofs.Held.{is_held-evict, is_queued-evict}
use Rattle.ldm_model.proofs.Ascending.{IsAmong, among-none, among-cons, among-head, among-tail, among-filter, Rises, Rises-bounds, Rises-among, Rises-filter}
use Rattle.ldm_model.proofs.Rows.{Rises-numbers, present-from_numbers}

abbrev pub AreEvictable : State → List ℕ → Type 0
AreEvictable s [] = Unit {0}
AreEvictable s (n ∷ ns) = (is_held s n ≡ false) × (is_queued s n ≡ true) × AreEvictable (evict s n) ns

AreEvictable-from : (ns : List ℕ) (low high : ℕ) (s : State) → Rises low ns high → ((n : ℕ) → IsAmong ns n → is_held s n ≡ false) → ((n : ℕ) → IsAmong ns n → is_queued s n ≡ true) → AreEvictable s ns
AreEvictable-from [] low high s rises free queued = tt
AreEvictable-from (m ∷ ms) low high s rises free queued = (
  free m (among-head m ms),
  queued m (among-head m ms),
  AreEvictable-from ms (suc m) high (evict s m) rises.1
      (λ n h. is_held-evict s m n ∙ free n (among-tail m n ms h))
      (λ n h. is_queued-evict s m n (λ e. let past = Rises-among (suc m) high n ms rises.1 h in absurd (omega arith)) (queued n (among-tail m n ms h))),
)

Rises-take : (j low high : ℕ) (ns : List ℕ) → Rises low ns high → Rises low (take j ns) high
Rises-take zero low high ns h = Rises-bounds low high ns h
Rises-take (suc j) low high [] h = h
Rises-take (suc j) low high (n ∷ ns) h = (h.0, Rises-take j (suc n) high ns h.1)

among-take : (j n : ℕ) (ns : List ℕ) → IsAmong (take j ns) n → IsAmong ns n
among-take zero n ns h = absurd (among-none n h)
among-take (suc j) n [] h = h
among-take (suc j) n (m ∷ ms) h = elim (among-cons m n (take j ms) h) [ inl e ↦ subst (IsAmong (m ∷ ms)) e (among-head m ms) | inr e ↦ among-tail m n ms (among-take j n ms e) ]

unheld-free : (s : State) (n : ℕ) → IsAmong (unheld s) n → is_held s n ≡ false
unheld-free s n h = not-true (is_held s n) (among-filter (λ m. not (is_held s m)) (numbers s) n h).1

unheld-queued : (s : State) (n : ℕ) → IsAmong (unheld s) n → is_queued s n ≡ true
unheld-queued s n h = present-from_numbers s n (among-filter (λ m. not (is_held s m)) (numbers s) n h).0

pub AreEvictable-unheld : (s : State) (j : ℕ) → AreEvictable s (take j (unheld s))
AreEvictable-unheld s j = AreEvictable-from (take j (unheld s)) 0 (length s.rows) s
    (Rises-take j 0 (length s.rows) (unheld s) (Rises-filter (λ m. not (is_held s m)) 0 (length s.rows) (numbers s) (Rises-numbers s)))
    (λ n h. unheld-free s n (among-take j n (unheld s) h))
    (λ n h. unheld-queued s n (among-take j n (unheld s) h))

-- the first of the rows that nobody holds
pub evictable-first : (s : State) (n : ℕ) (ns : List ℕ) → unheld s ≡ n ∷ ns → (is_held s n ≡ false) × (is_queued s n ≡ true)
evictable-first s n ns e =
    let there : IsAmong (unheld s) n = subst (λ (ms : List ℕ). IsAmong ms n) (sym e) (among-head n ns) in
    (unheld-free s n there, unheld-queued s n there)

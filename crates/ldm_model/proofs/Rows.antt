-- Rows by their numbers: what an eviction and an admission leave of them.
use Rattle.std.proofs.Common.{◌≡◌, ℕ, zero, suc, ◌+◌, ◌<◌, true, false, List, [], ◌∷◌, ◌++◌, length, map, Option, Some, None, refl, ap, subst, inl, inr, arith}
use Rattle.std.specs.Prelude.{is_some, slice_get}
use Rattle.std.proofs.lemmas.Bool.{false≢true}
use Rattle.ldm_model.specs.State.{State, Row, Queued, queued_from, add_queued}
use Rattle.ldm_model.specs.Evict.{numbers, without_place}
use Rattle.ldm_model.specs.Law.{feed_of_row}
use Rattle.ldm_model.proofs.Held.{present}
use Rattle.ldm_model.proofs.Ascending.{IsAmong, among-none, among-cons, among-head, among-tail, Rises, Rises-lower, Rises-among}

pub present-within : (rows : List Row) (n : ℕ) → present rows n ≡ true → n < length rows
present-within [] n h = absurd (false≢true h)
present-within (row ∷ rows) zero h = omega arith
present-within (row ∷ rows) (suc n) h = omega (arith, present-within rows n h)

pub slice_get-front : (rows more : List Row) (n : ℕ) → n < length rows → slice_get (rows ++ more) n ≡ slice_get rows n
slice_get-front [] more n lt = absurd (omega arith)
slice_get-front (row ∷ rows) more zero lt = refl
slice_get-front (row ∷ rows) more (suc n) lt = slice_get-front rows more n (omega arith)

pub slice_get-last : (rows : List Row) (row : Row) (n : ℕ) → n ≡ length rows → slice_get (rows ++ row ∷ []) n ≡ Some row
slice_get-last [] row zero e = refl
slice_get-last [] row (suc n) e = absurd (omega arith)
slice_get-last (other ∷ rows) row zero e = absurd (omega arith)
slice_get-last (other ∷ rows) row (suc n) e = slice_get-last rows row n (omega arith)

pub slice_get-without_other : (rows : List Row) (m n : ℕ) → (m ≡ n → ⊥) → slice_get (without_place rows m) n ≡ slice_get rows n
slice_get-without_other [] m n other = refl
slice_get-without_other (row ∷ rows) zero zero other = absurd (other refl)
slice_get-without_other (row ∷ rows) zero (suc n) other = refl
slice_get-without_other (row ∷ rows) (suc m) zero other = refl
slice_get-without_other (row ∷ rows) (suc m) (suc n) other = slice_get-without_other rows m n (λ e. other (ap (λ (i : ℕ). suc i) e))

pub feed-without_place : (rows : List Row) (m n : ℕ) → feed_of_row (slice_get (without_place rows m) n) ≡ feed_of_row (slice_get rows n)
feed-without_place [] m n = refl
feed-without_place (row ∷ rows) zero zero = refl
feed-without_place (row ∷ rows) zero (suc n) = refl
feed-without_place (row ∷ rows) (suc m) zero = refl
feed-without_place (row ∷ rows) (suc m) (suc n) = feed-without_place rows m n

pub absent-without_place : (rows : List Row) (n : ℕ) → present (without_place rows n) n ≡ false
absent-without_place [] n = refl
absent-without_place (row ∷ rows) zero = refl
absent-without_place (row ∷ rows) (suc n) = absent-without_place rows n

pub length-without_place : (rows : List Row) (n : ℕ) → length (without_place rows n) ≡ length rows
length-without_place [] n = refl
length-without_place (row ∷ rows) zero = refl
length-without_place (row ∷ rows) (suc n) = ap (λ (i : ℕ). suc i) (length-without_place rows n)

abbrev numbers_from : ℕ → List Row → List ℕ
numbers_from low rows = map (λ (q : Queued). q.number) (queued_from low rows)

Rises-numbers_from : (low high : ℕ) (rows : List Row) → low + length rows ≡ high → Rises low (numbers_from low rows) high
Rises-numbers_from low high [] e = omega arith
Rises-numbers_from low high (row ∷ rows) e =
    by_place row.place (Rises-lower (low + 1) (suc low) high (numbers_from (low + 1) rows) (omega arith) (Rises-numbers_from (low + 1) high rows (omega arith)))
  where
    by_place : (place : Option ℕ) → Rises (suc low) (numbers_from (low + 1) rows) high → Rises low (map (λ (q : Queued). q.number) (add_queued low row place (queued_from (low + 1) rows))) high
    by_place None more = Rises-lower (suc low) low high (numbers_from (low + 1) rows) (omega arith) more
    by_place (Some place) more = (omega arith, more)

pub Rises-numbers : (s : State) → Rises 0 (numbers s) (length s.rows)
Rises-numbers s = Rises-numbers_from 0 (length s.rows) s.rows (omega arith)

numbers_from-present : (low n i : ℕ) (rows : List Row) → n ≡ low + i → IsAmong (numbers_from low rows) n → present rows i ≡ true
numbers_from-present low n i [] e there = absurd (among-none n there)
numbers_from-present low n zero (row ∷ rows) e there = by_place row.place there
  where
    by_place : (place : Option ℕ) → IsAmong (map (λ (q : Queued). q.number) (add_queued low row place (queued_from (low + 1) rows))) n → is_some place ≡ true
    by_place None h = let bounds = Rises-among (low + 1) (low + 1 + length rows) n (numbers_from (low + 1) rows) (Rises-numbers_from (low + 1) (low + 1 + length rows) rows refl) h in
        absurd (omega arith)
    by_place (Some place) h = refl
numbers_from-present low n (suc i) (row ∷ rows) e there = numbers_from-present (low + 1) n i rows (omega arith) (by_place row.place there)
  where
    by_place : (place : Option ℕ) → IsAmong (map (λ (q : Queued). q.number) (add_queued low row place (queued_from (low + 1) rows))) n → IsAmong (numbers_from (low + 1) rows) n
    by_place None h = h
    by_place (Some place) h = elim (among-cons low n (numbers_from (low + 1) rows) h) [ inl x ↦ absurd (omega arith) | inr x ↦ x ]

present-numbers_from : (low n i : ℕ) (rows : List Row) → n ≡ low + i → present rows i ≡ true → IsAmong (numbers_from low rows) n
present-numbers_from low n i [] e h = absurd (false≢true h)
present-numbers_from low n zero (row ∷ rows) e h = by_place row.place h
  where
    by_place : (place : Option ℕ) → is_some place ≡ true → IsAmong (map (λ (q : Queued). q.number) (add_queued low row place (queued_from (low + 1) rows))) n
    by_place None x = absurd (false≢true x)
    by_place (Some place) x = let same : low ≡ n = omega arith in subst (IsAmong (low ∷ numbers_from (low + 1) rows)) same (among-head low (numbers_from (low + 1) rows))
present-numbers_from low n (suc i) (row ∷ rows) e h = by_place row.place (present-numbers_from (low + 1) n i rows (omega arith) h)
  where
    by_place : (place : Option ℕ) → IsAmong (numbers_from (low + 1) rows) n → IsAmong (map (λ (q : Queued). q.number) (add_queued low row place (queued_from (low + 1) rows))) n
    by_place None x = x
    by_place (Some place) x = among-tail low n (numbers_from (low + 1) rows) x

pub present-from_numbers : (s : State) (n : ℕ) → IsAmong (numbers s) n → present s.rows n ≡ true
present-from_numbers s n there = numbers_from-present 0 n n s.rows (omega arith) there

pub numbers-from_present : (s : State) (n : ℕ) → present s.rows n ≡ true → IsAmong (numbers s) n
numbers-from_present s n h = present-numbers_from 0 n n s.rows (omega arith) h

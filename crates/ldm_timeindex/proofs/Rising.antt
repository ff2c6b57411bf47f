-- Products that rise, with one more behind them, with one of them gone, and at two places.
use Rattle.std.proofs.Common.{◌≡◌, ℕ, zero, suc, ◌<◌, not, eqb, List, [], ◌∷◌, ◌++◌, length, get_or, remove, refl, ap, ◌∙◌, arith}
use Rattle.std.specs.List.{AllByRecursion, Any, filter, position_or_len}
use Rattle.std.proofs.lemmas.Bool.{cond-false, cond-true, eq-eqb, le-leb, lt-leb, ne_eqb}
use Rattle.std.proofs.lemmas.List.{get_or_default}
use Rattle.std.proofs.lemmas.List.Sums.{position_or_len_is}
use Rattle.ldm_timeindex.specs.Kept.{queued_of, all_queued}
use Rattle.ldm_timeindex.specs.Times.{Queued, Precedes, IsRising, at_number}
use Rattle.ldm_timeindex.specs.declared.entry.Entry.{Entry}

all_more : (P : Queued → Type 0) (xs : List Queued) (x : Queued) → AllByRecursion P xs → P x → AllByRecursion P (xs ++ x ∷ [])
all_more P [] x all p = (p, tt)
all_more P (y ∷ ys) x all p = (all.0, all_more P ys x all.1 p)

pub rising_more : (xs : List Queued) (x : Queued) → IsRising xs → AllByRecursion (λ y. Precedes y x) xs → IsRising (xs ++ x ∷ [])
rising_more [] x up before = (tt, tt)
rising_more (y ∷ ys) x up before = (all_more (Precedes y) ys x up.0 before.0, rising_more ys x up.1 before.1)

all_left : (P : Queued → Type 0) (xs : List Queued) (i : ℕ) → AllByRecursion P xs → AllByRecursion P (remove xs i)
all_left P [] zero all = tt
all_left P [] (suc i) all = tt
all_left P (x ∷ xs) zero all = all.1
all_left P (x ∷ xs) (suc i) all = (all.0, all_left P xs i all.1)

pub rising_left : (xs : List Queued) (i : ℕ) → IsRising xs → IsRising (remove xs i)
rising_left [] zero up = tt
rising_left [] (suc i) up = tt
rising_left (x ∷ xs) zero up = up.1
rising_left (x ∷ xs) (suc i) up = (all_left (Precedes x) xs i up.0, rising_left xs i up.1)

all_at : (P : Queued → Type 0) (xs : List Queued) (i : ℕ) (d : Queued) → AllByRecursion P xs → i < length xs → P (get_or xs i d)
all_at P [] i d all lt = absurd (omega arith)
all_at P (x ∷ xs) zero d all lt = all.0
all_at P (x ∷ xs) (suc i) d all lt = all_at P xs i d all.1 (omega arith)

pub rising_at : (xs : List Queued) (i j : ℕ) (d : Queued) → IsRising xs → i < j → j < length xs → Precedes (get_or xs i d) (get_or xs j d)
rising_at [] i j d up lt inside = absurd (omega arith)
rising_at (x ∷ xs) i zero d up lt inside = absurd (omega arith)
rising_at (x ∷ xs) zero (suc j) d up lt inside = all_at (Precedes x) xs j d up.0 (omega arith)
rising_at (x ∷ xs) (suc i) (suc j) d up lt inside = rising_at xs i j d up.1 (omega arith) (omega arith)

all_kept : (n : ℕ) (xs : List Queued) → AllByRecursion (λ x. n < x.n) xs → filter (λ x. not (eqb x.n n)) xs ≡ xs
all_kept n [] above = refl
all_kept n (x ∷ xs) above =
    cond-true _ _ _ (ap not (ne_eqb x.n n (λ same. omega (arith, above.0)))) ∙ ap (λ rest. x ∷ rest) (all_kept n xs above.1)

above_all : (n : ℕ) (x : Queued) (xs : List Queued) → x.n ≡ n → AllByRecursion (Precedes x) xs → AllByRecursion (λ y. n < y.n) xs
above_all n x [] is up = tt
above_all n x (y ∷ ys) is up = (omega (arith, up.0.0), above_all n x ys is up.1)

-- products of other numbers are all but the one at its place
pub others_left : (n : ℕ) (xs : List Queued) (i : ℕ) (d : Queued) → IsRising xs → i < length xs → (get_or xs i d).n ≡ n → filter (λ x. not (eqb x.n n)) xs ≡ remove xs i
others_left n [] i d up lt is = absurd (omega arith)
others_left n (x ∷ xs) zero d up lt is = cond-false _ _ _ (ap not (eq-eqb x.n n is)) ∙ all_kept n xs (above_all n x xs is up.0)
others_left n (x ∷ xs) (suc i) d up lt is =
    let before = all_at (Precedes x) xs i d up.0 (omega arith) in
    cond-true _ _ _ (ap not (ne_eqb x.n n (λ same. omega (arith, before.0)))) ∙ ap (λ rest. x ∷ rest) (others_left n xs i d up.1 (omega arith) is)

-- the place of a number that is there
pub number_is_at : (n : ℕ) (xs : List Queued) (d : Queued) → IsRising xs → Any (λ x. x.n ≡ n) xs → (position_or_len (at_number n) xs < length xs) × ((get_or xs (position_or_len (at_number n) xs) d).n ≡ n)
number_is_at n xs d up (k, x, lt, read, is) =
    let here : (get_or xs k x).n ≡ n = ap (λ (y : Queued). y.n) read ∙ is in
    let at : position_or_len (at_number n) xs ≡ k =
    position_or_len_is (at_number n) xs k x (omega arith)
    (λ j before. lt-leb n (get_or xs j x).n (omega (arith, (rising_at xs j k x up before lt).0)))
    (λ _. le-leb n (get_or xs k x).n (omega arith)) in
    (omega arith, ap (λ j. (get_or xs j d).n) at ∙ ap (λ (y : Queued). y.n) (get_or_default xs k d x lt) ∙ here)

-- the products of entries of which one is gone
pub queued_left : (entries : List Entry) (i : ℕ) → all_queued (remove entries i) ≡ remove (all_queued entries) i
queued_left [] zero = refl
queued_left [] (suc i) = refl
queued_left (entry ∷ entries) zero = refl
queued_left (entry ∷ entries) (suc i) = ap (λ rest. queued_of entry ∷ rest) (queued_left entries i)

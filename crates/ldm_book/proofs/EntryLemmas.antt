-- Entries of the index by number: the one of a number, and the others.
use Rattle.std.proofs.Common.{◌≡◌, ◌≢◌, ◌⊎◌, ℕ, zero, suc, ◌+◌, ◌<◌, not, ◌==◌, List, [], ◌∷◌, ◌++◌, length, map, get_or, Some, refl, sym, ap, subst, ◌∙◌, inl, inr, ⊎_elim, arith}
use Rattle.std.specs.List.{AllByRecursion, Any, filter, find}
use Rattle.std.proofs.lemmas.Bool.{cases_eq, cond-true, cond-false, eq-eqb, ne_eqb, le-leb, lt-leb, not_from_true, not_from_false}
use Rattle.ldm_model.specs.Stat.{extents}
use Rattle.ldm_timeindex.specs.Times.{Queued, Precedes, IsRising, at_number}
use Rattle.ldm_book.specs.View.{Kept}
use Rattle.ldm_book.specs.Products.{is_other, kept_extent, kept_region}
use Rattle.ldm_book.specs.Slots.{Slots, row_at, kept_or_none, kept_entry, kept_entries, HasSlot}

-- the entries of other numbers
abbrev pub others : ℕ → List Queued → List Queued
others n entries = filter (λ e. not (e.n == n)) entries

-- an entry of that number is not among the others
pub others-same : (n : ℕ) (e : Queued) (es : List Queued) → e.n ≡ n → others n (e ∷ es) ≡ others n es
others-same n e es is = cond-false _ (e ∷ others n es) (others n es) (not_from_true _ (eq-eqb e.n n is))

-- an entry of another number is
pub others-other : (n : ℕ) (e : Queued) (es : List Queued) → e.n ≢ n → others n (e ∷ es) ≡ e ∷ others n es
others-other n e es apart = cond-true _ (e ∷ others n es) (others n es) (not_from_false _ (ne_eqb e.n n apart))

-- what follows for entries of other numbers holds of the others
pub all_others : (P Q : Queued → Type 0) (n : ℕ) → ((e : Queued) → e.n ≢ n → P e → Q e) → (es : List Queued) → AllByRecursion P es → AllByRecursion Q (others n es)
all_others P Q n step [] all = tt
all_others P Q n step (e ∷ es) all =
    let rest = all_others P Q n step es all.1 in
    elim (cases_eq e.n n) [
      | inl is ↦ subst (AllByRecursion Q) (sym (others-same n e es is)) rest
      | inr apart ↦ subst (AllByRecursion Q) (sym (others-other n e es apart)) (step e apart all.0, rest)
    ]

-- behind the entry of that number all are others
others_behind : (n : ℕ) (e : Queued) (es : List Queued) → e.n ≡ n → AllByRecursion (Precedes e) es → others n es ≡ es
others_behind n e [] is up = refl
others_behind n e (o ∷ os) is up = others-other n o os (λ same. omega (arith, up.0.0)) ∙ ap (λ rest. o ∷ rest) (others_behind n e os is up.1)

-- what holds of all holds of the one at an index
all_at : (P : Queued → Type 0) (es : List Queued) (k : ℕ) (d : Queued) → k < length es → AllByRecursion P es → P (get_or es k d)
all_at P [] k d h all = absurd (omega arith)
all_at P (e ∷ es) zero d h all = all.0
all_at P (e ∷ es) (suc k) d h all = all_at P es k d (omega arith) all.1

-- the entry of a number, what stands before it and behind it
pub record IsAmong (n : ℕ) (entries : List Queued) : Type 0 where
  pub entry : Queued
  pub before : List Queued
  pub behind : List Queued
  pub number : entry.n ≡ n
  pub parts : entries ≡ before ++ entry ∷ behind
  pub left : others n entries ≡ before ++ behind
  pub first : find (at_number n) entries ≡ Some entry

-- the entry of a number at an index
among_at : (n : ℕ) (entries : List Queued) (k : ℕ) (d : Queued) → IsRising entries → k < length entries → (get_or entries k d).n ≡ n → IsAmong n entries
among_at n [] k d up h is = absurd (omega arith)
among_at n (e ∷ es) zero d up h is = record {
  entry = e;
  before = [];
  behind = es;
  number = is;
  parts = refl;
  left = others-same n e es is ∙ others_behind n e es is up.0;
  first = cond-true _ (Some e) (find (at_number n) es) (le-leb n e.n (omega arith));
}
among_at n (e ∷ es) (suc k) d up h is =
    let rest = among_at n es k d up.1 (omega arith) is in
    let lower : e.n < n = omega (arith, (all_at (Precedes e) es k d (omega arith) up.0).0) in
    record {
      entry = rest.entry;
      before = e ∷ rest.before;
      behind = rest.behind;
      number = rest.number;
      parts = ap (λ es. e ∷ es) rest.parts;
      left = others-other n e es (λ same. omega arith) ∙ ap (λ es. e ∷ es) rest.left;
      first = cond-false _ (Some e) (find (at_number n) es) (lt-leb n e.n lower) ∙ rest.first;
    }

-- the first entry of at least a number that an entry has is that entry
pub among : (n : ℕ) (entries : List Queued) → IsRising entries → Any (λ e. e.n ≡ n) entries → IsAmong n entries
among n entries up any = among_at n entries any.0 any.1 up any.2 (ap (λ (e : Queued). e.n) any.3 ∙ any.4)

-- the number of the product at an index is the number of an entry
any_at : (slots : Slots) (n : ℕ) (entries : List Queued) (k : ℕ) (d : Kept) → k < length (kept_entries slots entries) → (get_or (kept_entries slots entries) k d).number ≡ n
    → Any (λ e. e.n ≡ n) entries
any_at slots n [] k d h is = absurd (omega arith)
any_at slots n (e ∷ es) zero d h is = (zero, e, omega arith, refl, is)
any_at slots n (e ∷ es) (suc k) d h is =
    let rest = any_at slots n es k d (omega arith) is in
    (suc rest.0, rest.1, omega (arith, rest.2), rest.3, rest.4)

-- the number of a product is the number of an entry
pub any_entry : (slots : Slots) (n : ℕ) (entries : List Queued) → Any (λ k. k.number ≡ n) (kept_entries slots entries) → Any (λ e. e.n ≡ n) entries
any_entry slots n entries any = any_at slots n entries any.0 any.1 any.2 (ap (λ (k : Kept). k.number) any.3 ∙ any.4)

-- the products of other numbers are those of the entries of other numbers
pub rows-others : (slots : Slots) (n : ℕ) (es : List Queued) → filter (is_other n) (kept_entries slots es) ≡ kept_entries slots (others n es)
rows-others slots n [] = refl
rows-others slots n (e ∷ es) =
    let rows = filter (is_other n) (kept_entries slots es) in
    let rest = rows-others slots n es in
    elim (cases_eq e.n n) [
      | inl is ↦ cond-false _ (kept_entry slots e ∷ rows) rows (not_from_true _ (eq-eqb e.n n is)) ∙ rest ∙ ap (kept_entries slots) (sym (others-same n e es is))
      | inr apart ↦
          cond-true _ (kept_entry slots e ∷ rows) rows (not_from_false _ (ne_eqb e.n n apart)) ∙ ap (λ rest. kept_entry slots e ∷ rest) rest ∙ ap (kept_entries slots) (sym (others-other n e es apart))
    ]

-- what holds of all holds of one among them
pub all_middle : (P : Queued → Type 0) (xs : List Queued) (e : Queued) (ys : List Queued) → AllByRecursion P (xs ++ e ∷ ys) → P e
all_middle P [] e ys all = all.0
all_middle P (x ∷ xs) e ys all = all_middle P xs e ys all.1

-- a slot of all is the one of an entry or one of the rest
pub slot_middle : (k : ℕ) (xs : List Queued) (e : Queued) (ys : List Queued) → HasSlot k (xs ++ e ∷ ys) → (e.slot ≡ k) ⊎ HasSlot k (xs ++ ys)
slot_middle k [] e ys has = has
slot_middle k (x ∷ xs) e ys has = ⊎_elim (λ is. inr (inl is)) (λ rest. ⊎_elim (λ is. inl is) (λ there. inr (inr there)) (slot_middle k xs e ys rest)) has

-- the extents of all are the extent of one and those of the rest
pub extents_middle : (slots : Slots) (xs : List Queued) (e : Queued) (ys : List Queued)
    → extents (map kept_region (kept_entries slots (xs ++ e ∷ ys))) ≡ kept_extent (kept_or_none (row_at slots e.slot)) + extents (map kept_region (kept_entries slots (xs ++ ys)))
extents_middle slots [] e ys = refl
extents_middle slots (x ∷ xs) e ys =
    let front = kept_extent (kept_or_none (row_at slots x.slot)) in
    let rest = extents_middle slots xs e ys in
    ap (λ sum. front + sum) rest ∙ omega arith

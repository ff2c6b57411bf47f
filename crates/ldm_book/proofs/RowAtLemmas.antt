-- Slots that have a product, and one of them emptied.
use Rattle.std.proofs.Common.{◌≡◌, ◌≢◌, ℕ, zero, suc, ◌<◌, cond, List, [], ◌∷◌, ◌++◌, length, set, Some, None, refl, sym, ap, ◌∙◌, inl, inr, get_or-set_other, get_or-set_same, length-set, arith}
use Rattle.std.specs.Cmp.{nat_cmp_total, eq_by_cmp_equiv, Equal-is}
use Rattle.std.specs.FinMap as fin
use Rattle.std.specs.FinMap.{nat_cmp-IsAntisymmetric}
use Rattle.std.specs.List.{AllByRecursion}
use Rattle.std.specs.Option.{option_map}
use Rattle.std.specs.Ordering.{nat_cmp, eq_by_cmp}
use Rattle.std.proofs.lemmas.Bool.{cases_eq, cases_lt, false_from_ne_true}
use Rattle.std.proofs.lemmas.List.{get_or_past}
use Rattle.std.proofs.lemmas.Option.{none-some}
use Rattle.ldm_regions.specs.Layout.{Owned}
use Rattle.ldm_book.specs.Products.{kept_region}
use Rattle.ldm_book.specs.View.{Kept}
use Rattle.ldm_book.specs.Slots.{Slots, row_at, AreFree}

-- a slot with a product is one of the slots
pub filled_within : (slots : Slots) (k : ℕ) (row : Kept) → row_at slots k ≡ Some row → k < length slots
filled_within slots k row here =
    elim (cases_lt k (length slots)) [ inl within ↦ within | inr past ↦ absurd (none-some row (sym (get_or_past slots k None past) ∙ here)) ]

-- an emptied slot has no product
pub emptied : (slots : Slots) (k : ℕ) → row_at (set slots k None) k ≡ None
emptied [] k = refl
emptied (slot ∷ slots) zero = refl
emptied (slot ∷ slots) (suc k) = emptied slots k

-- the other slots are as they were
pub emptied-other : (slots : Slots) (slot k : ℕ) → k ≢ slot → row_at (set slots slot None) k ≡ row_at slots k
emptied-other slots slot k apart = get_or-set_other slots slot k None None apart

-- what holds of all and of one more
all_more : (P : ℕ → Type 0) (ks : List ℕ) (k : ℕ) → AllByRecursion P ks → P k → AllByRecursion P (ks ++ k ∷ [])
all_more P [] k all last = (last, tt)
all_more P (x ∷ xs) k all last = (all.0, all_more P xs k all.1 last)

-- an emptied slot is one more free slot
pub free-emptied : (slots : Slots) (slot : ℕ) (row : Kept) → row_at slots slot ≡ Some row → (free : List ℕ) → AreFree slots free → AreFree (set slots slot None) (free ++ slot ∷ [])
free-emptied slots slot row here [] are =
    (omega (arith, length-set slots slot None, filled_within slots slot row here), emptied slots slot, tt, tt)
free-emptied slots slot row here (k ∷ ks) are =
    let apart : k ≢ slot = λ is. none-some row (sym are.1 ∙ ap (row_at slots) is ∙ here) in (
      omega (arith, length-set slots slot None, are.0),
      emptied-other slots slot k apart
          ∙ are.1,
      all_more (λ other. other ≢ k) ks slot are.2 (λ is. apart (sym is)),
      free-emptied slots slot row here ks are.3,
    )

-- the region of an emptied slot is owned no more
pub owned-emptied : (slots : Slots) (slot : ℕ) (owned : Owned) → ((k : ℕ) → fin.get owned k ≡ option_map kept_region (row_at slots k)) → (k : ℕ)
    → fin.get (fin.remove owned slot) k ≡ option_map kept_region (row_at (set slots slot None) k)
owned-emptied slots slot owned own k =
    fin.get-remove nat_cmp_total owned slot k
    ∙ elim (cases_eq k slot) [
      | inl is ↦ ap (λ b. cond b None (fin.get owned k)) (ap (λ k. eq_by_cmp nat_cmp k slot) is ∙ (eq_by_cmp_equiv nat_cmp_total).refl slot)
          ∙ ap (option_map kept_region) (sym (ap (row_at (set slots slot None)) is ∙ emptied slots slot))
      | inr apart ↦ ap (λ b. cond b None (fin.get owned k)) (false_from_ne_true _ (λ tie. apart (nat_cmp-IsAntisymmetric k slot ((Equal-is (nat_cmp k slot)).0 tie))))
          ∙ own k
          ∙ ap (option_map kept_region) (sym (emptied-other slots slot k apart))
    ]

-- a slot owns the region of the product that it is given
pub owned-set : (slots : Slots) (slot : ℕ) (row : Kept) (owned : Owned) → slot < length slots → ((k : ℕ) → fin.get owned k ≡ option_map kept_region (row_at slots k)) → (k : ℕ)
    → fin.get (fin.insert owned slot (kept_region row)) k ≡ option_map kept_region (row_at (set slots slot (Some row)) k)
owned-set slots slot row owned inside own k =
    fin.get-insert nat_cmp_total owned slot (kept_region row) k
    ∙ elim (cases_eq k slot) [
      | inl same ↦ ap (λ b. cond b (Some (kept_region row)) (fin.get owned k)) (ap (λ j. eq_by_cmp nat_cmp j slot) same ∙ (eq_by_cmp_equiv nat_cmp_total).refl slot)
          ∙ ap (option_map kept_region) (sym (ap (row_at (set slots slot (Some row))) same ∙ get_or-set_same slots slot (Some row) None inside))
      | inr apart ↦ ap (λ b. cond b (Some (kept_region row)) (fin.get owned k)) (false_from_ne_true _ (λ tie. apart (nat_cmp-IsAntisymmetric k slot ((Equal-is (nat_cmp k slot)).0 tie))))
          ∙ own k ∙ ap (option_map kept_region) (sym (get_or-set_other slots slot k (Some row) None apart))
    ]

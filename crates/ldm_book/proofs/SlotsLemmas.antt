-- The products of the slots, by their rows and the index by signature.
use Rattle.std.proofs.Common.{◌≡◌, ℕ, zero, suc, List, [], ◌∷◌, length, arith, get_or, replicate, set, Option, Some, None, refl, ap, subst}
use Rattle.std.specs.Option.{option_map}
use Rattle.ldm_sigindex.specs.Index.{Table}
use Rattle.ldm_book.specs.declared.row.Row.{Row}
use Rattle.ldm_book.specs.RowKept.{kept_row}
use Rattle.ldm_book.specs.View.{Kept}
use Rattle.ldm_book.specs.declared.products.Products.TheInside.{Inside}
use Rattle.ldm_book.specs.Slots.{Slots, row_at, slots_from, slots_of, AreIndexed, IsSlotted}

-- the slot of a row and of a signature in front of others
abbrev front : Row → Option (List ℕ) → Option Kept
front row signature = option_map (λ (s : List ℕ). kept_row row) signature

-- a slot is given a row and a signature
pub slots-put : (rows : List Row) (table : Table) (k : ℕ) (row : Row) (signature : List ℕ)
    → slots_from (set rows k row) (set table k (Some signature)) ≡ set (slots_from rows table) k (Some (kept_row row))
slots-put [] table k row signature = refl
slots-put (r ∷ rows) [] zero row signature = refl
slots-put (r ∷ rows) [] (suc k) row signature = refl
slots-put (r ∷ rows) (s ∷ table) zero row signature = refl
slots-put (r ∷ rows) (s ∷ table) (suc k) row signature = ap (λ (slots : Slots). front r s ∷ slots) (slots-put rows table k row signature)

-- the signature of a slot is taken
pub slots-taken : (rows : List Row) (table : Table) (k : ℕ) → slots_from rows (set table k None) ≡ set (slots_from rows table) k None
slots-taken [] table k = refl
slots-taken (r ∷ rows) [] k = refl
slots-taken (r ∷ rows) (s ∷ table) zero = refl
slots-taken (r ∷ rows) (s ∷ table) (suc k) = ap (λ (slots : Slots). front r s ∷ slots) (slots-taken rows table k)

-- no slot has a signature
pub slots-none : (rows : List Row) (n : ℕ) → length rows ≡ n → slots_from rows (replicate n None) ≡ replicate n None
slots-none [] zero long = refl
slots-none [] (suc n) long = absurd (omega arith)
slots-none (r ∷ rows) zero long = absurd (omega arith)
slots-none (r ∷ rows) (suc n) long = ap (λ (slots : Slots). None ∷ slots) (slots-none rows n (omega arith))

-- the row of a slot that has a product is that of the product
pub slots-read : (rows : List Row) (table : Table) (k : ℕ) (product : Kept) (d : Row) → row_at (slots_from rows table) k ≡ Some product → kept_row (get_or rows k d) ≡ product
slots-read [] table k product d at = absurd cc
slots-read (r ∷ rows) [] k product d at = absurd cc
slots-read (r ∷ rows) (None ∷ table) zero product d at = absurd cc
slots-read (r ∷ rows) (Some s ∷ table) zero product d at = cc
slots-read (r ∷ rows) (s ∷ table) (suc k) product d at = slots-read rows table k product d at

-- what is known of the products of the slots
pub slotted_from : (p : Inside) (slots : Slots) → slots ≡ slots_of p → AreIndexed slots p → IsSlotted p
slotted_from p slots same kept = subst (λ (s : Slots). AreIndexed s p) same kept

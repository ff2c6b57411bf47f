-- As many products were settled as were taken.
use Rattle.std.proofs.Common.{◌≡◌, ◌∙◌, ℕ, ◌+◌, Bool, false, cond, not, List, [], ◌∷◌, ◌++◌, length, filter, take, drop, inl, inr, refl, sym, ap, arith, length-append}
use Rattle.std.proofs.lemmas.List.{take_at, drop_at}
use Rattle.std.proofs.lemmas.List.Elements.{filter-append}
use Rattle.ldm_model.specs.declared.event.Event.TheVariants.{Reserve, Commit}
use Rattle.ldm_model.specs.declared.event.Entry.{Entry}
use Rattle.ldm_model.specs.Product.{Product}
use Rattle.ldm_intake.specs.Course.{entry_by}
use Rattle.ldm_between_ends.specs.Handed.{Way, Whole, Declined, InBlocks, Announced, Handed}
use Rattle.ldm_between_ends.specs.Takings.{Joins, Fills, TakesNone, TakesBlocks, TakesBy, Takings, BeginsBy, BeginsFirst}
use Rattle.ldm_between_ends.specs.Offered.{settles, count_settled}

abbrev is_settling : Entry → Bool
is_settling entry = settles entry.event entry.reply

count-append : (xs ys : List Entry) → count_settled (xs ++ ys) ≡ count_settled xs + count_settled ys
count-append xs ys = ap length (filter-append is_settling xs ys) ∙ length-append (filter is_settling xs) (filter is_settling ys)

-- a call that settles nothing counts nothing
count-other : (entry : Entry) (made : List Entry) → is_settling entry ≡ false → count_settled (entry ∷ made) ≡ count_settled made
count-other entry made other = ap (λ (b : Bool). length (cond b (entry ∷ filter is_settling made) (filter is_settling made))) other

fills-none : (actor r : ℕ) (blocks : List (List ℕ)) (made : List Entry) → Fills actor r blocks made → count_settled made ≡ 0
fills-none actor r [] [] filled = refl
fills-none actor r [] (entry ∷ made) filled = absurd filled
fills-none actor r (block ∷ blocks) [] filled = absurd filled
fills-none actor r (block ∷ blocks) (entry ∷ made) filled = count-other entry made (ap is_settling filled.0) ∙ fills-none actor r blocks made filled.1

none-taken : (actor : ℕ) (product : Product) (made : List Entry) → TakesNone actor product made → count_settled made ≡ 1
none-taken actor product made t =
    let entry = entry_by actor (Reserve product.info) t.reply in
    ap count_settled t.is ∙ ap (λ (b : Bool). length (cond (not b) (entry ∷ []) [])) t.refused

blocks-taken : (actor : ℕ) (moments : List ℕ) (product : Product) (made : List Entry) → TakesBlocks actor moments product made → count_settled made ≡ 1
blocks-taken actor moments product made t =
    let none = fills-none actor t.r _ t.fills t.filled in
    let last = entry_by actor (Commit t.r t.now) t.reply ∷ [] in
    ap count_settled t.is ∙ count-append t.fills last ∙ ap (λ (n : ℕ). n + count_settled last) none

taken-one : (way : Way) (actor : ℕ) (moments : List ℕ) (product : Product) (made : List Entry) → TakesBy way actor moments product made → count_settled made ≡ 1
taken-one Whole actor moments product made t = ap count_settled t.is
taken-one Declined actor moments product made t = none-taken actor product made t
taken-one InBlocks actor moments product made t = blocks-taken actor moments product made t
taken-one Announced actor moments product made t = none-taken actor product made t

takings-count : (actor : ℕ) (moments : List ℕ) (products : List Handed) (made : List Entry) → Takings actor moments products made
    → count_settled made ≡ length products
takings-count actor moments [] made t = ap count_settled t
takings-count actor moments (product ∷ products) made t =
    let first = taken-one product.way actor moments product.given.product t.first t.is_first in
    let rest = takings-count actor moments products t.second t.is_second in
    let all = ap count_settled t.all ∙ count-append t.first t.second in
    omega (arith, first, rest, all)

begun-none : (way : Way) (actor : ℕ) (product : Product) (made : List Entry) → BeginsBy way actor product made → count_settled made ≡ 0
begun-none Whole actor product made b = ap count_settled b
begun-none Declined actor product made b = ap count_settled b
begun-none InBlocks actor product made (inl none) = ap count_settled none
begun-none InBlocks actor product made (inr b) = ap count_settled b.is ∙ fills-none actor b.r b.front b.fills b.filled
begun-none Announced actor product made (inl none) = ap count_settled none
begun-none Announced actor product made (inr b) = ap count_settled b.is

begins-none : (actor : ℕ) (left : List Handed) (made : List Entry) → BeginsFirst actor left made → count_settled made ≡ 0
begins-none actor [] made b = ap count_settled b
begins-none actor (product ∷ left) made b = begun-none product.way actor product.given.product made b

-- a cut of the products that fits what was asked for them
module _ (actor : ℕ) (moments : List ℕ) (products : List Handed) (made : List Entry) (done left : List Handed) (all : done ++ left ≡ products)
    (fits : Joins (Takings actor moments done) (BeginsFirst actor left) made) where
  settled-done : count_settled made ≡ length done
  settled-done =
      let first = takings-count actor moments done fits.first fits.is_first in
      let second = begins-none actor left fits.second fits.is_second in
      let both = ap count_settled fits.all ∙ count-append fits.first fits.second in
      omega (arith, first, second, both)

  pub done-settled : take (count_settled made) products ≡ done
  done-settled = ap (take (count_settled made)) (sym all) ∙ take_at done left (count_settled made) (sym settled-done)

  pub left-unsettled : drop (count_settled made) products ≡ left
  left-unsettled = ap (drop (count_settled made)) (sym all) ∙ drop_at done left (count_settled made) (sym settled-done)

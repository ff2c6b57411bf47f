-- Products that are taken at one moment.
use Rattle.std.proofs.Common.{◌≡◌, ℕ, List, [], ◌∷◌, ◌++◌, Option, inl, inr, ap, sym, subst}
use Rattle.std.specs.Prelude.{All, Contains}
use Rattle.std.specs.List.{AllByRecursion}
use Rattle.std.proofs.lemmas.List.Elements.{All-contains, All-map}
use Rattle.ldm_model.specs.declared.event.Event.{Event}
use Rattle.ldm_model.specs.declared.event.Event.TheVariants.{Fill}
use Rattle.ldm_model.specs.declared.event.Entry.{Entry}
use Rattle.ldm_model.specs.Product.{Product}
use Rattle.ldm_downstream.specs.Pieces.{Piece}
use Rattle.ldm_between_ends.specs.Handed.{Way, Whole, Declined, InBlocks, Announced, Handed}
use Rattle.ldm_between_ends.specs.Passing.{CameAt, PassesOn, moments_of}
use Rattle.ldm_between_ends.specs.Takings.{Fills, TakesBy, Takings, TakesNone, BeginsBy, BeginsFirst, IsAt}

-- all at one moment
abbrev pub AreAt : ℕ → List Entry → Type 0
AreAt now made = AllByRecursion (λ (entry : Entry). IsAt now entry.event) made

are-append : (now : ℕ) (first second : List Entry) → AreAt now first → AreAt now second → AreAt now (first ++ second)
are-append now [] second are others = others
are-append now (entry ∷ first) second are others = (are.0, are-append now first second are.1 others)

are-same : (now : ℕ) (first second : List Entry) → second ≡ first → AreAt now first → AreAt now second
are-same now first second same are = subst (λ (x : List Entry). AreAt now x) (sym same) are

fills-are : (now actor r : ℕ) (blocks : List (List ℕ)) (made : List Entry) → Fills actor r blocks made → AreAt now made
fills-are now actor r [] [] filled = tt
fills-are now actor r [] (entry ∷ made) filled = absurd filled
fills-are now actor r (block ∷ blocks) [] filled = absurd filled
fills-are now actor r (block ∷ blocks) (entry ∷ made) filled =
    let is : entry.event ≡ Fill r block = ap (λ (e : Entry). e.event) filled.0 in
    (subst (λ (event : Event). IsAt now event) (sym is) tt, fills-are now actor r blocks made filled.1)

module _ (now actor : ℕ) (moments : List ℕ) (at : All (λ (n : ℕ). n ≡ now) moments) where
  pub moment-is : (n : ℕ) → Contains moments n → n ≡ now
  moment-is n has = All-contains (λ (n : ℕ). n ≡ now) moments n at has

  none-are : (product : Product) (made : List Entry) → TakesNone actor product made → AreAt now made
  none-are product made takes = are-same now _ made takes.is (tt, tt)

  takes-are : (way : Way) (product : Product) (made : List Entry) → TakesBy way actor moments product made → AreAt now made
  takes-are Whole product made takes = are-same now _ made takes.is (moment-is takes.now takes.moment, tt)
  takes-are Declined product made takes = none-are product made takes
  takes-are InBlocks product made takes =
      are-same now _ made takes.is
      (tt, are-append now takes.fills _ (fills-are now actor takes.r _ takes.fills takes.filled) (moment-is takes.now takes.moment, tt))
  takes-are Announced product made takes = none-are product made takes

  takings-are : (products : List Handed) (made : List Entry) → Takings actor moments products made → AreAt now made
  takings-are [] made takings = are-same now [] made takings tt
  takings-are (product ∷ behind) made takings =
      are-same now _ made takings.all (are-append now takings.first takings.second
      (takes-are product.way product.given.product takings.first takings.is_first) (takings-are behind takings.second takings.is_second))

  begins-are : (way : Way) (product : Product) (made : List Entry) → BeginsBy way actor product made → AreAt now made
  begins-are Whole product made begins = are-same now [] made begins tt
  begins-are Declined product made begins = are-same now [] made begins tt
  begins-are InBlocks product made begins =
      elim begins [
        | inl none ↦ are-same now [] made none tt
        | inr some ↦ are-same now _ made some.is (tt, fills-are now actor some.r some.front some.fills some.filled)
      ]
  begins-are Announced product made begins =
      elim begins [
        | inl none ↦ are-same now [] made none tt
        | inr some ↦ are-same now _ made some.is (tt, tt)
      ]

  first-are : (products : List Handed) (made : List Entry) → BeginsFirst actor products made → AreAt now made
  first-are [] made begins = are-same now [] made begins tt
  first-are (product ∷ behind) made begins = begins-are product.way product.given.product made begins

  pub passes-are : (old last : Option (List ℕ)) (products : List Handed) (made : List Entry) → PassesOn actor moments old last products made → AreAt now made
  passes-are old last products made passes =
      let parts = passes.made_is in
      are-same now _ made parts.all
      (are-append now parts.first parts.second (takings-are passes.done parts.first parts.is_first) (first-are passes.left parts.second parts.is_second))

-- the moments of pieces that all came at one
pub moments-at : (now : ℕ) (pieces : List Piece) → CameAt now pieces → All (λ (n : ℕ). n ≡ now) (moments_of pieces)
moments-at now pieces all = All-map (λ (n : ℕ). n ≡ now) (λ (piece : Piece). piece.now) pieces all

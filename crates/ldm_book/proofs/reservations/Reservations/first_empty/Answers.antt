use Rattle.std.proofs.Common.{◌≡◌, ◌∙◌, ◌<◌, ℕ, inl, inr, Option, Some, None, true, false, length, refl, ap, arith}
use Rattle.std.specs.Prelude.{is_none, is_some}
use Rattle.std.proofs.lemmas.Bool.{cases_eq}
use Rattle.std.proofs.lemmas.List.{length-map}
use Rattle.std.specs.Option.{SomeIff, option_map}
use Rattle.ldm_book.specs.declared.reservations.Place.{Place}
use Rattle.ldm_book.specs.Reserved.{kept_place, kept_places, least_empty, place_at}
use Rattle.ldm_book.proofs.OpenPlacesLemmas.{least_here, least_none, none_read}
use Rattle.ldm_book.proofs.reservations.Reservations.first_empty.Goals as goal

-- a number below the bound is one of a place
some_of : (o : Option ℕ) (P : Type 0) (v : ℕ) → SomeIff o P v → P → o ≡ Some v
some_of None P v is holds = absurd (is holds)
some_of (Some x) P v is holds = ap (λ (n : ℕ). Some n) is.1

-- whether there is nothing, by whether there is something
none_from : (o : Option Place) → is_some o ≡ false → is_none o ≡ true
none_from None e = refl
none_from (Some place) e = absurd cc

some_from : (o : Option Place) → is_some o ≡ true → is_none o ≡ false
some_from None e = absurd cc
some_from (Some place) e = refl

pub returns-then-is_none : goal.returns-then-is_none
returns-then-is_none c =
    let items = c.self.inside.places.items in
    let r = c.loop-r.r in
    let bound : r < 64 = omega (arith, c.loop-r-test.true) in
    let inside : r < length items =
    omega (arith, bound, c.self.invariant.many, length-map items (option_map kept_place)) in
    let here = none_read items r c.index.result.now inside c.index.ensures ∙ none_from c.index.result.now c.if-is_none.ensures in
    some_of c.new.result (r < 64) r c.new.ensures bound
    ∙ least_here (kept_places items) r (omega (arith, inside, length-map items (option_map kept_place))) c.loop-r.invariant here
    ∙ ap least_empty c.self.view_is

pub loop-r-preserved : goal.loop-r-preserved
loop-r-preserved c = λ k below.
    let items = c.self.inside.places.items in
    let r = c.loop-r.r in
    let inside : r < length items =
    omega (arith, c.loop-r-test.true, c.self.invariant.many, length-map items (option_map kept_place)) in
    elim (cases_eq k r) [
      | inl same ↦ ap (λ (i : ℕ). is_none (place_at (kept_places items) i)) same ∙ none_read items r c.index.result.now inside c.index.ensures ∙ some_from c.index.result.now c.if-is_none.ensures
      | inr other ↦ c.loop-r.invariant k (omega (arith, other))
    ]

pub returns : goal.returns
returns c =
    let items = c.self.inside.places.items in
    least_none (kept_places items)
    (λ i inside. c.loop-r.invariant i (omega (arith, inside, c.self.invariant.many, c.loop-r-test.false)))
    ∙ ap least_empty c.self.view_is

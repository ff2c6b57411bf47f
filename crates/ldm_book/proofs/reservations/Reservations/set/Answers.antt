use Rattle.std.proofs.Common.{◌≡◌, ◌+◌, ◌<◌, ◌≤◌, ℕ, zero, suc, get_or, List, [], ◌∷◌, length, set}
use Rattle.std.proofs.Common.{Option, None, Some, ap, sym, ◌∙◌, arith}
use Rattle.std.specs.Option.{option_map}
use Rattle.std.proofs.lemmas.List.{get_or-map, length-map, length-set, map-set}
use Rattle.ldm_book.specs.declared.reservations.Place.{Place}
use Rattle.ldm_book.specs.Reserved.{KeptPlace, KeptPlaces, count_one, kept_place, kept_places, open_places, place_at}
use Rattle.ldm_book.proofs.OpenPlacesLemmas.{few_open}
use Rattle.ldm_book.proofs.reservations.Reservations.set.Goals as goal

pub returns-clause-set : goal.returns-clause-set
returns-clause-set c =
    map-set (option_map kept_place) c.self.inside.places.items c.get-at.result c.args.place
    ∙ ap (λ (places : KeptPlaces). set places c.get-at.result (option_map kept_place c.args.place)) c.self.view_is
    ∙ ap (λ k. set c.args.self.now k (option_map kept_place c.args.place)) c.get-at.ensures.value

one_at_most : (place : Option KeptPlace) → count_one place ≤ 1
one_at_most None = omega arith
one_at_most (Some place) = omega arith

one_read : (items : List (Option Place)) (r : ℕ) (place : Option Place) → r < length items
    → place ≡ get_or items r place
    → count_one (option_map kept_place place) ≡ count_one (place_at (kept_places items) r)
one_read items r place inside read =
    ap count_one (ap (option_map kept_place) read ∙ sym (get_or-map (option_map kept_place) items r place None inside))

-- how many are open once a place is set
counted-set : (places : KeptPlaces) (r : ℕ) (place : Option KeptPlace) → r < length places
    → length (open_places (set places r place)) + count_one (place_at places r)
    ≡ length (open_places places) + count_one place
counted-set [] r place inside = absurd (omega arith)
counted-set (None ∷ places) zero None inside = omega arith
counted-set (None ∷ places) zero (Some new) inside = omega arith
counted-set (Some old ∷ places) zero None inside = omega arith
counted-set (Some old ∷ places) zero (Some new) inside = omega arith
counted-set (None ∷ places) (suc r) place inside = counted-set places r place (omega arith)
counted-set (Some old ∷ places) (suc r) place inside = omega (arith, counted-set places r place (omega arith))

pub overflow_add-self : goal.overflow_add-self
overflow_add-self c =
    let places = kept_places c.self.inside.places.items in
    omega (
      arith,
      c.count_one.ensures,
      one_at_most (option_map kept_place c.args.place),
      c.self.invariant.counted,
      c.self.invariant.many,
      few_open places,
    )

pub overflow_sub-self : goal.overflow_sub-self
overflow_sub-self c =
    let items = c.self.inside.places.items in
    let places = kept_places items in
    let at : ℕ = c.get-at.result in
    let long = length-map items (option_map kept_place) in
    let within : at < length places = omega (arith, c.get-at.ensures.bound, c.self.invariant.many) in
    let read = one_read items at c.index.result.now (omega (arith, long, within)) c.index.ensures in
    omega (
      arith,
      c.count_one.ensures,
      c.count_one-2.ensures,
      read,
      c.self.invariant.counted,
      counted-set places at (option_map kept_place c.args.place) within,
    )

pub invariant_of-self : goal.invariant_of-self
invariant_of-self c =
    let items = c.self.inside.places.items in
    let places = kept_places items in
    let at : ℕ = c.get-at.result in
    let new = option_map kept_place c.args.place in
    let long = length-map items (option_map kept_place) in
    let within : at < length places = omega (arith, c.get-at.ensures.bound, c.self.invariant.many) in
    let read = one_read items at c.index.result.now (omega (arith, long, within)) c.index.ensures in
    let is = map-set (option_map kept_place) items at c.args.place in
    record {
      many = ap (λ (ps : KeptPlaces). length ps) is ∙ length-set places at new ∙ c.self.invariant.many;
      counted = omega (
        arith,
        c.count_one.ensures,
        c.count_one-2.ensures,
        read,
        c.self.invariant.counted,
        counted-set places at new within,
        ap (λ (ps : KeptPlaces). length (open_places ps)) is,
      );
    }

-- The order of places tells all places apart.
use Rattle.std.proofs.Common.{◌≡◌, true, refl}
use Rattle.std.specs.declared.cmp.Ordering.{Ordering}
use Rattle.std.specs.declared.cmp.Ordering.TheVariants.{Less, Equal, Greater}
use Rattle.std.specs.Ordering.{nat_cmp, ordering_then, eq_by_cmp}
use Rattle.std.specs.Cmp.{Equal-is, eq_by_cmp_equiv}
use Rattle.std.proofs.lemmas.Map.Lookups.{exact_unsigned, exact_bytes}
use Rattle.ldm_stats.specs.Place.{Place, place_cmp}
use Rattle.ldm_stats.specs.PlaceOrder.{places_total}

then_equal : (r s : Ordering) → ordering_then r s ≡ Equal → (r ≡ Equal) × (s ≡ Equal)
then_equal Less s e = absurd (cc)
then_equal Equal s e = (refl, e)
then_equal Greater s e = absurd (cc)

pub places_exact : (one other : Place) → place_cmp one other ≡ Equal → one ≡ other
places_exact one other e =
    let hours = then_equal (nat_cmp one.hour other.hour) _ e in
    let texts = then_equal (nat_cmp one.feed other.feed) _ hours.1 in
    let hour = exact_unsigned one.hour other.hour hours.0 in
    let feed = exact_unsigned one.feed other.feed texts.0 in
    let origin = exact_bytes one.origin other.origin texts.1 in
    λ i. record { hour = hour i; feed = feed i; origin = origin i }

-- a test of two places that holds says that they are one
pub same_place : (one other : Place) → eq_by_cmp place_cmp one other ≡ true → one ≡ other
same_place one other e = places_exact one other ((Equal-is (place_cmp one other)).0 e)

pub itself : (place : Place) → eq_by_cmp place_cmp place place ≡ true
itself place = (eq_by_cmp_equiv places_total).refl place

pub either_way : (one other : Place) → eq_by_cmp place_cmp one other ≡ eq_by_cmp place_cmp other one
either_way one other = (eq_by_cmp_equiv places_total).symm one other

-- Entries in ascending order that begin within the latest hours lie within them all.
use Rattle.std.proofs.Common.{◌≡◌, ℕ, ◌+◌, ◌<◌, ◌≤◌, Bool, true, false, refl, sym, ap, [], ◌∷◌, arith, Some, nat_lt, subst, All}
use Rattle.std.specs.Prelude.{slice_get, nat_le, MatchBool, unwrap_or}
use Rattle.std.specs.declared.cmp.Ordering.{Ordering}
use Rattle.std.specs.declared.cmp.Ordering.TheVariants.{Less, Equal, Greater}
use Rattle.std.specs.Ordering.{nat_cmp, ordering_then, is_gt}
use Rattle.std.specs.Map.{keys_of}
use Rattle.std.specs.BTreeMap.Range.{IsLeBy}
use Rattle.std.proofs.lemmas.Bool.Decides.{nat_tests}
use Rattle.std.proofs.lemmas.Cmp.{ranked}
use Rattle.std.proofs.lemmas.List.Elements.{All-head, All-tail}
use Rattle.ldm_stats.specs.Place.{Place, place_cmp}
use Rattle.ldm_stats.specs.Totals.{Total}
use Rattle.ldm_stats.specs.Joining.{Entries, within, BeginsOutside}

first_by : (r s : Ordering) (x y : ℕ) → r ≡ nat_cmp x y → is_gt (ordering_then r s) ≡ false → x ≤ y
first_by Less s x y e h = omega (arith, ranked x y Less e)
first_by Equal s x y e h = omega (arith, ranked x y Equal e)
first_by Greater s x y e h = absurd (cc)

hour_up : (one other : Place) → IsLeBy place_cmp one other → one.hour ≤ other.hour
hour_up one other h = first_by (nat_cmp one.hour other.hour) _ one.hour other.hour refl h

all_within : (window hour : ℕ) (first : Place) (entries : Entries) → hour < first.hour + window → All (IsLeBy place_cmp first) (keys_of entries) →
    within window hour entries ≡ entries
all_within window hour first [] h up = refl
all_within window hour first (entry ∷ entries) h up =
    let le = hour_up first entry.0 (All-head (IsLeBy place_cmp first) entry.0 (keys_of entries) up) in
    let test : nat_lt hour (entry.0.hour + window) ≡ true = grind (arith, nat_tests, le) in
    rw test (ap (λ (es : Entries). entry ∷ es) (all_within window hour first entries h (All-tail (IsLeBy place_cmp first) entry.0 (keys_of entries) up)))

first_is : (entry other : Place × Total) → Some entry ≡ Some other → entry ≡ other
first_is entry other e = ap (λ o. unwrap_or o entry) e

outside_by : (b : Bool) (window hour : ℕ) (first : Place × Total) (entries : Entries) → nat_le (first.0.hour + window) hour ≡ b →
    All (IsLeBy place_cmp first.0) (keys_of (first ∷ entries)) →
    MatchBool b (BeginsOutside window hour (first ∷ entries)) (within window hour (first ∷ entries) ≡ first ∷ entries)
outside_by true window hour first entries t up = grind (arith, nat_tests)
outside_by false window hour first entries f up =
    let near : hour < first.0.hour + window = grind (arith, nat_tests) in
    all_within window hour first.0 (first ∷ entries) near up

pub outside : (window hour : ℕ) (entries : Entries) (first : Place × Total) → slice_get entries 0 ≡ Some first →
    All (IsLeBy place_cmp first.0) (keys_of entries) →
    MatchBool (nat_le (first.0.hour + window) hour) (BeginsOutside window hour entries) (within window hour entries ≡ entries)
outside window hour [] first e up = absurd (cc)
outside window hour (entry ∷ entries) first e up =
    let same = first_is entry first e in
    let P : Place × Total → Type 0 = λ one. MatchBool (nat_le (one.0.hour + window) hour) (BeginsOutside window hour (entry ∷ entries)) (within window hour (entry ∷ entries) ≡ entry ∷ entries) in
    subst P same (outside_by (nat_le (entry.0.hour + window) hour) window hour entry entries refl
    (subst (λ (one : Place × Total). All (IsLeBy place_cmp one.0) (keys_of (entry ∷ entries))) (sym same) up))

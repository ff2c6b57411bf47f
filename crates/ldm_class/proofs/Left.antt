-- What is left of the specifications of a class under some feedtypes.
use Rattle.std.proofs.Common.{◌≡◌, ◌↔◌, ℕ, ◌<◌, ◌≤◌, Bool, true, false, not, ◌&&◌, ◌==◌, List, [], ◌∷◌, length, Option, None, Some, refl, ap, ◌∙◌, ⊎_elim, arith, suc, bit_and}
use Rattle.std.specs.Prelude.{nat_lt}
use Rattle.std.proofs.lemmas.Bool.{cases_Bool}
use Rattle.std.proofs.lemmas.Bool.Decides.{nat_tests}
use Rattle.std.proofs.lemmas.Option.{none-some}
use Rattle.std.specs.List.{list_all, list_any, filter_map, cons_option}
use Rattle.ldm_types.specs.Feed.{feeds_meet}
use Rattle.ldm_types.specs.declared.class.Spec.{Spec}
use Rattle.ldm_class.specs.Access.{narrowed, is_within, left_of}
use Rattle.ldm_class.specs.Classes.{is_resumption}
use Rattle.ldm_class.proofs.Searches.{resumption_has_no_feed}

-- a specification with a feedtype names no signature
not_resumption : (spec : Spec) → nat_lt 0 spec.feed.0 ≡ true → is_resumption spec ≡ false
not_resumption spec h =
    ⊎_elim
    (λ (named : is_resumption spec ≡ true).
    let none = resumption_has_no_feed spec named in
    let some : 0 < spec.feed.0 = grind (arith, nat_tests) in absurd (omega arith))
    (λ (plain : is_resumption spec ≡ false). plain)
    (cases_Bool (is_resumption spec))

abbrev pub OnlyNames : ℕ → List Spec → Type 0
OnlyNames feeds specs = list_all is_resumption (filter_map (narrowed feeds) specs) ≡ not (list_any (λ (s : Spec). feeds_meet s.feed.0 feeds) specs)

same_number : (m n : ℕ) → (m == n) ≡ true → m ≡ n
same_number m n h = grind (arith, nat_tests)

-- only specifications that name signatures are left exactly where no specification meets the feedtypes
pub only_names_left : (feeds : ℕ) (specs : List Spec) → OnlyNames feeds specs
only_names_left feeds [] = refl
only_names_left feeds (spec ∷ specs) =
    ⊎_elim
    (λ (named : is_resumption spec ≡ true).
    let apart : feeds_meet spec.feed.0 feeds ≡ false = ap (λ feed. feeds_meet feed feeds) (resumption_has_no_feed spec named) in
    rw (named, named, apart) (only_names_left feeds specs))
    (λ (plain : is_resumption spec ≡ false).
    ⊎_elim
    (λ (meets : feeds_meet spec.feed.0 feeds ≡ true).
    let kept = not_resumption (record spec { feed = record { 0 = bit_and spec.feed.0 feeds } }) meets in
    rw (plain, meets, kept))
    (λ (apart : feeds_meet spec.feed.0 feeds ≡ false). rw (plain, apart) (only_names_left feeds specs))
    (cases_Bool (feeds_meet spec.feed.0 feeds)))
    (cases_Bool (is_resumption spec))

both : (a b : Bool) → (a && b) ≡ true → (a ≡ true) × (b ≡ true)
both true b h = (refl, h)
both false b h = absurd cc

within_kept : (feeds : ℕ) (spec : Spec) → is_within feeds spec ≡ true → narrowed feeds spec ≡ Some spec
within_kept feeds spec h =
    ⊎_elim
    (λ (named : is_resumption spec ≡ true). rw named)
    (λ (plain : is_resumption spec ≡ false).
    let parts = both (feeds_meet spec.feed.0 feeds) (bit_and spec.feed.0 feeds == spec.feed.0) (rw plain at h) in
    let same : bit_and spec.feed.0 feeds ≡ spec.feed.0 = same_number _ _ parts.1 in
    rw (plain, parts.0) (ap (λ bits. Some (record spec { feed = record { 0 = bits } })) same))
    (cases_Bool (is_resumption spec))

kept_within : (feeds : ℕ) (spec : Spec) → narrowed feeds spec ≡ Some spec → is_within feeds spec ≡ true
kept_within feeds spec h =
    ⊎_elim
    (λ (named : is_resumption spec ≡ true). rw named)
    (λ (plain : is_resumption spec ≡ false).
    ⊎_elim
    (λ (meets : feeds_meet spec.feed.0 feeds ≡ true).
    let same : bit_and spec.feed.0 feeds ≡ spec.feed.0 = ap feed_or_none (rw (plain, meets) at h) in
    let test : (bit_and spec.feed.0 feeds == spec.feed.0) ≡ true = grind (arith, nat_tests) in
    rw (plain, meets, test))
    (λ (apart : feeds_meet spec.feed.0 feeds ≡ false).
    absurd (none-some spec (rw (plain, apart) at h)))
    (cases_Bool (feeds_meet spec.feed.0 feeds)))
    (cases_Bool (is_resumption spec))
  where
    feed_or_none : Option Spec → ℕ
    feed_or_none None = 0
    feed_or_none (Some left) = left.feed.0

left_is_short : (feeds : ℕ) (specs : List Spec) → length (left_of feeds specs) ≤ length specs
left_is_short feeds [] = omega arith
left_is_short feeds (spec ∷ specs) = short_of (narrowed feeds spec) (left_is_short feeds specs)
  where
    short_of : (o : Option Spec) → length (left_of feeds specs) ≤ length specs → length (cons_option o (left_of feeds specs)) ≤ suc (length specs)
    short_of None short = omega arith
    short_of (Some left) short = omega arith

all_kept : (feeds : ℕ) (specs : List Spec) → list_all (is_within feeds) specs ≡ true → left_of feeds specs ≡ specs
all_kept feeds [] h = refl
all_kept feeds (spec ∷ specs) h =
    let parts = both (is_within feeds spec) (list_all (is_within feeds) specs) h in
    rw (within_kept feeds spec parts.0) (ap (λ later. spec ∷ later) (all_kept feeds specs parts.1))

all_within : (feeds : ℕ) (specs : List Spec) → left_of feeds specs ≡ specs → list_all (is_within feeds) specs ≡ true
all_within feeds [] h = refl
all_within feeds (spec ∷ specs) h = by (all_within feeds specs) (narrowed feeds spec) refl h
  where
    by : (left_of feeds specs ≡ specs → list_all (is_within feeds) specs ≡ true) → (o : Option Spec) → narrowed feeds spec ≡ o → cons_option o (left_of feeds specs) ≡ spec ∷ specs →
        (is_within feeds spec && list_all (is_within feeds) specs) ≡ true
    by within None is e = absurd (omega (arith, left_is_short feeds specs, ap length e))
    by within (Some left) is e =
        let same : left ≡ spec = cc in
        let later : left_of feeds specs ≡ specs = cc in
        rw (kept_within feeds spec (is ∙ ap Some same), within later)

-- each specification is left as it is exactly where what is left is the whole
pub whole_left : (feeds : ℕ) (specs : List Spec) → (list_all (is_within feeds) specs ≡ true) ↔ (left_of feeds specs ≡ specs)
whole_left feeds specs = (all_kept feeds specs, all_within feeds specs)

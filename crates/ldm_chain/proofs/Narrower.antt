-- A class of which a part is left.
use Rattle.std.proofs.Common.{◌≡◌, ℕ, ◌≤◌, Bool, true, false, ◌&&◌, ◌==◌, eqb, List, [], ◌∷◌, length, Option, Some, None, bit_and, inl, inr, refl, ap, sym, subst, ◌∙◌, arith}
use Rattle.std.specs.Prelude.{◌||◌, is_some, bytes_eq, nat_lt, if◌then◌else◌}
use Rattle.std.specs.List.{AllByRecursion, list_all, zip}
use Rattle.std.specs.Option.{option_or}
use Rattle.std.specs.Int.Bits.{and_self}
use Rattle.std.proofs.lemmas.Bool.{and_parts, cases_Bool, eq-eqb, eqb-true}
use Rattle.std.proofs.lemmas.Bool.Decides.{nat_tests}
use Rattle.std.proofs.lemmas.Nat.{and_assoc, and_le_l}
use Rattle.std.proofs.lemmas.Slice.Eq.{bytes_eq-Decides}
use Rattle.ldm_types.specs.Feed.{feeds_meet}
use Rattle.ldm_types.specs.declared.class.ClassSpec.{ClassSpec}
use Rattle.ldm_types.specs.declared.class.Spec.{Spec}
use Rattle.ldm_class.specs.Access.{is_within, left_of, reduced}
use Rattle.ldm_class.specs.Classes.{is_resumption, resumed, signature_in}
use Rattle.ldm_class.specs.declared.answers.Reduced.TheVariants.{Same, Fewer, Nothing}
use Rattle.ldm_class.proofs.Left.{whole_left}
use Rattle.ldm_relay.specs.Fits.{ClassFits, SpecFits}
use Rattle.ldm_class.specs.Asking.{same_class, same_spec, same_specs}
use Rattle.ldm_chain.specs.Queues.{IsForAllTimes}

-- ---- it is another class

spec-is : (one other : Spec) → same_spec one other ≡ true → one ≡ other
spec-is one other same =
    let parts = and_parts (eqb one.feed.0 other.feed.0) (bytes_eq one.pattern.items other.pattern.items) same in
    let feed : one.feed.0 ≡ other.feed.0 = eqb-true one.feed.0 other.feed.0 parts.0 in
    let pattern : one.pattern.items ≡ other.pattern.items = (bytes_eq-Decides one.pattern.items other.pattern.items).0 parts.1 in
    λ i. record { feed = record { 0 = feed i }; pattern = record { items = pattern i } }

specs-are : (ones others : List Spec) → length ones ≡ length others → list_all (λ pair. same_spec pair.0 pair.1) (zip ones others) ≡ true → ones ≡ others
specs-are [] [] long same = refl
specs-are [] (other ∷ others) long same = absurd (omega (arith, long))
specs-are (one ∷ ones) [] long same = absurd (omega (arith, long))
specs-are (one ∷ ones) (other ∷ others) long same =
    let parts = and_parts (same_spec one other) (list_all (λ pair. same_spec pair.0 pair.1) (zip ones others)) same in
    let first = spec-is one other parts.0 in
    let rest = specs-are ones others (omega (arith, long)) parts.1 in
    λ i. first i ∷ rest i

class-specs : (one other : ClassSpec) → same_class one other ≡ true → one.specs.items ≡ other.specs.items
class-specs one other same =
    let ones = one.specs.items in
    let others = other.specs.items in
    let outer = and_parts (eqb one.from other.from && eqb one.to other.to) (same_specs ones others) same in
    let parts = and_parts (eqb (length ones) (length others)) (list_all (λ pair. same_spec pair.0 pair.1) (zip ones others)) outer.1 in
    specs-are ones others (eqb-true (length ones) (length others) parts.0) parts.1

module _ (feeds rule : ℕ) (class : ClassSpec) where
  abbrev specs : List Spec
  specs = class.specs.items

  abbrev lesser : ClassSpec
  lesser = record class { specs = record { items = left_of feeds specs } }

  -- that is left, which is something and is not the whole
  record IsFewer (fewer : ClassSpec) : Type 0 where
    is : fewer ≡ lesser
    some : list_all is_resumption (left_of feeds specs) ≡ false
    part : list_all (is_within feeds) specs ≡ false

  fewer-of : (fewer : ClassSpec) → reduced feeds rule class ≡ Fewer fewer → IsFewer fewer
  fewer-of fewer is = by (list_all is_resumption (left_of feeds specs)) (list_all (is_within feeds) specs) refl refl is where
    by : (none whole : Bool) → list_all is_resumption (left_of feeds specs) ≡ none → list_all (is_within feeds) specs ≡ whole
        → (if none then Nothing rule else (if whole then Same else Fewer lesser)) ≡ Fewer fewer → IsFewer fewer
    by true whole some part is = absurd (cc is)
    by false true some part is = absurd (cc is)
    by false false some part is = record { is = (let same : fewer ≡ lesser = cc is in same); some = some; part = part }

  pub fewer-other : (fewer : ClassSpec) → reduced feeds rule class ≡ Fewer fewer → same_class fewer class ≡ false
  fewer-other fewer is = elim (cases_Bool (same_class fewer class)) [
    | inl same ↦
        let parts = fewer-of fewer is in
        let kept : left_of feeds specs ≡ specs = sym (ap (λ (c : ClassSpec). c.specs.items) parts.is) ∙ class-specs fewer class same in
        let whole : list_all (is_within feeds) specs ≡ true = (whole_left feeds specs).1 kept in
        absurd (let no : true ≡ false = sym whole ∙ parts.part in cc no)
    | inr other ↦ other
  ]

-- ---- it names no product to go on behind

or-none : (one other : Option (List ℕ)) → option_or one other ≡ None → (one ≡ None) × (other ≡ None)
or-none None other is = (refl, is)
or-none (Some signature) other is = absurd (cc is)

lesser-spec : ℕ → Spec → Spec
lesser-spec feeds spec = record spec { feed = record { 0 = bit_and spec.feed.0 feeds } }

lesser-named : (feeds : ℕ) (spec : Spec) → feeds_meet spec.feed.0 feeds ≡ true → signature_in (record spec { feed = record { 0 = bit_and spec.feed.0 feeds } }) ≡ None
lesser-named feeds spec meets =
    let some : (bit_and spec.feed.0 feeds == 0) ≡ false = grind (arith, nat_tests) in
    rw some refl

left-named : (feeds : ℕ) (specs : List Spec) → resumed specs ≡ None → resumed (left_of feeds specs) ≡ None
left-named feeds [] none = refl
left-named feeds (spec ∷ specs) none =
    let parts = or-none (signature_in spec) (resumed specs) none in
    let plain : is_resumption spec ≡ false = ap is_some parts.0 in
    let left = left_of feeds specs in
    let rest = left-named feeds specs parts.1 in
    elim (cases_Bool (feeds_meet spec.feed.0 feeds)) [
      | inl meets ↦ rw (plain, meets) (ap (λ (o : Option (List ℕ)). option_or o (resumed left)) (lesser-named feeds spec meets) ∙ rest)
      | inr apart ↦ rw (plain, apart) rest
    ]

-- ---- it is left whole

twice : (f feeds : ℕ) → bit_and (bit_and f feeds) feeds ≡ bit_and f feeds
twice f feeds = and_assoc feeds f feeds ∙ ap (bit_and f) (and_self feeds)

or-true : (a b : Bool) → b ≡ true → (a || b) ≡ true
or-true true b is = refl
or-true false b is = is

lesser-within : (feeds : ℕ) (spec : Spec) → feeds_meet spec.feed.0 feeds ≡ true → is_within feeds (record spec { feed = record { 0 = bit_and spec.feed.0 feeds } }) ≡ true
lesser-within feeds spec meets =
    let f = bit_and spec.feed.0 feeds in
    let still : nat_lt 0 (bit_and f feeds) ≡ true = ap (nat_lt 0) (twice spec.feed.0 feeds) ∙ meets in
    let same : (bit_and f feeds == f) ≡ true = eq-eqb (bit_and f feeds) f (twice spec.feed.0 feeds) in
    or-true (is_resumption (record spec { feed = record { 0 = f } })) (nat_lt 0 (bit_and f feeds) && (bit_and f feeds == f)) (rw (still, same) refl)

left-within : (feeds : ℕ) (specs : List Spec) → list_all (is_within feeds) (left_of feeds specs) ≡ true
left-within feeds [] = refl
left-within feeds (spec ∷ specs) =
    let rest = left-within feeds specs in
    elim (cases_Bool (is_resumption spec)) [
      | inl named ↦ rw (named, named, rest) refl
      | inr plain ↦ elim (cases_Bool (feeds_meet spec.feed.0 feeds)) [
        | inl meets ↦ rw (plain, meets) (ap (λ (b : Bool). b && list_all (is_within feeds) (left_of feeds specs)) (lesser-within feeds spec meets) ∙ rest)
        | inr apart ↦ rw (plain, apart) rest
      ]
    ]

pub fewer-whole : (feeds rule : ℕ) (class fewer : ClassSpec) → reduced feeds rule class ≡ Fewer fewer → reduced feeds rule fewer ≡ Same
fewer-whole feeds rule class fewer is =
    let parts = fewer-of feeds rule class fewer is in
    let left = left_of feeds class.specs.items in
    let all = left-within feeds class.specs.items in
    let some : list_all is_resumption (left_of feeds left) ≡ false = ap (list_all is_resumption) ((whole_left feeds left).0 all) ∙ parts.some in
    ap (reduced feeds rule) parts.is ∙ rw (some, all) refl

-- ---- nothing is left where nothing else is named

within-named : (feeds : ℕ) (specs : List Spec) → list_all is_resumption specs ≡ true → list_all (is_within feeds) specs ≡ true
within-named feeds [] named = refl
within-named feeds (spec ∷ specs) named =
    let parts = and_parts (is_resumption spec) (list_all is_resumption specs) named in
    rw (parts.0, within-named feeds specs parts.1) refl

nothing-left : (feeds rule : ℕ) (class : ClassSpec) → list_all is_resumption class.specs.items ≡ true → reduced feeds rule class ≡ Nothing rule
nothing-left feeds rule class named =
    let specs = class.specs.items in
    let kept : left_of feeds specs ≡ specs = (whole_left feeds specs).0 (within-named feeds specs named) in
    let all : list_all is_resumption (left_of feeds specs) ≡ true = ap (list_all is_resumption) kept ∙ named in
    rw all refl

module _ (feeds rule : ℕ) (class : ClassSpec) (asks : IsForAllTimes class) where
  pub same-names : reduced feeds rule class ≡ Same → resumed class.specs.items ≡ None
  same-names is = elim asks.names [
    | inl none ↦ none
    | inr named ↦ absurd (let no : Same ≡ Nothing rule = sym is ∙ nothing-left feeds rule class named in cc no)
  ]

  pub fewer-from : (fewer : ClassSpec) → reduced feeds rule class ≡ Fewer fewer → fewer.from ≡ 0
  fewer-from fewer is = ap (λ (c : ClassSpec). c.from) (fewer-of feeds rule class fewer is).is ∙ asks.from

  pub fewer-names : (fewer : ClassSpec) → reduced feeds rule class ≡ Fewer fewer → resumed fewer.specs.items ≡ None
  fewer-names fewer is = elim asks.names [
    | inl none ↦ ap (λ (c : ClassSpec). resumed c.specs.items) (fewer-of feeds rule class fewer is).is ∙ left-named feeds class.specs.items none
    | inr named ↦ absurd (let no : Fewer fewer ≡ Nothing rule = sym is ∙ nothing-left feeds rule class named in cc no)
  ]

-- ---- it can be written

left-fits : (feeds : ℕ) (specs : List Spec) → AllByRecursion SpecFits specs → AllByRecursion SpecFits (left_of feeds specs)
left-fits feeds [] fits = tt
left-fits feeds (spec ∷ others) fits =
    let rest = left-fits feeds others fits.1 in
    let small : bit_and spec.feed.0 feeds ≤ spec.feed.0 = and_le_l spec.feed.0 feeds in
    let lesser : SpecFits (record spec { feed = record { 0 = bit_and spec.feed.0 feeds } }) = (omega (arith, small, fits.0.0), fits.0.1) in
    elim (cases_Bool (is_resumption spec)) [
      | inl named ↦ rw named (fits.0, rest)
      | inr plain ↦ elim (cases_Bool (feeds_meet spec.feed.0 feeds)) [
        | inl meets ↦ rw (plain, meets) (lesser, rest)
        | inr apart ↦ rw (plain, apart) rest
      ]
    ]

left-few : (feeds : ℕ) (specs : List Spec) → length (left_of feeds specs) ≤ length specs
left-few feeds [] = omega arith
left-few feeds (spec ∷ others) =
    let rest = left-few feeds others in
    elim (cases_Bool (is_resumption spec)) [
      | inl named ↦ rw named (omega (arith, rest))
      | inr plain ↦ elim (cases_Bool (feeds_meet spec.feed.0 feeds)) [
        | inl meets ↦ rw (plain, meets) (omega (arith, rest))
        | inr apart ↦ rw (plain, apart) (omega (arith, rest))
      ]
    ]

pub fewer-fits : (feeds rule : ℕ) (class fewer : ClassSpec) → reduced feeds rule class ≡ Fewer fewer → ClassFits class → ClassFits fewer
fewer-fits feeds rule class fewer is fits =
    let specs = class.specs.items in
    subst ClassFits (sym (fewer-of feeds rule class fewer is).is) (record {
      from = fits.from;
      to = fits.to;
      few = omega (arith, left-few feeds specs, fits.few);
      each = left-fits feeds specs fits.each;
    })

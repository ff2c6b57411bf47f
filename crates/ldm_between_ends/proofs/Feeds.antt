-- A product that a class wants is of one of its feedtypes.
use Rattle.std.proofs.Common.{◌≡◌, ◌∙◌, ℕ, ◌<◌, Bool, true, false, List, [], ◌∷◌, map, fold, refl, sym, ap, arith, bit_and, bit_or}
use Rattle.std.specs.Prelude.{◌||◌}
use Rattle.std.specs.List.{list_any}
use Rattle.std.proofs.lemmas.Bool.{false≢true, and_parts, ltb-true, lt-ltb}
use Rattle.std.proofs.lemmas.Nat.{and_comm, and_assoc, and_or_self, or_comm}
use Rattle.std.specs.Int.Bits.{and_zero_r}
use Rattle.ldm_types.specs.Feed.{feeds_meet}
use Rattle.ldm_types.specs.Info.{Metadata}
use Rattle.ldm_types.specs.declared.class.ClassSpec.{ClassSpec}
use Rattle.ldm_types.specs.declared.class.Spec.{Spec}
use Rattle.ldm_class.specs.Classes.{wants, spec_wants, pattern_of}
use Rattle.ldm_pattern.specs.Patterns.{found}

-- a set has what is in a set that it holds
in-union : (a b c : ℕ) → bit_and (bit_or b a) c ≡ 0 → bit_and a c ≡ 0
in-union a b c none =
    let part : bit_and (bit_or b a) a ≡ a = and_or_self a b in
    ap (λ (n : ℕ). bit_and n c) (sym part ∙ and_comm (bit_or b a) a) ∙ and_assoc c a (bit_or b a) ∙ ap (bit_and a) none ∙ and_zero_r a

above : (n : ℕ) → (n ≡ 0 → ⊥) → 0 < n
above n some = grind arith

meets-right : (a b c : ℕ) → feeds_meet a c ≡ true → feeds_meet (bit_or b a) c ≡ true
meets-right a b c h =
    let some : 0 < bit_and a c = ltb-true 0 (bit_and a c) h in
    lt-ltb 0 (bit_and (bit_or b a) c) (above _ (λ none. let no : bit_and a c ≡ 0 = in-union a b c none in absurd (omega arith)))

meets-left : (a b c : ℕ) → feeds_meet a c ≡ true → feeds_meet (bit_or a b) c ≡ true
meets-left a b c h = ap (λ (n : ℕ). feeds_meet n c) (or_comm a b) ∙ meets-right a b c h

-- what a union begins with, it has in the end
begins-met : (a c : ℕ) (specs : List Spec) → feeds_meet a c ≡ true → feeds_meet (fold bit_or a (map (λ (spec : Spec). spec.feed.0) specs)) c ≡ true
begins-met a c [] h = h
begins-met a c (spec ∷ specs) h = begins-met (bit_or a spec.feed.0) c specs (meets-left a spec.feed.0 c h)

union-meets : (a : ℕ) (info : Metadata) (specs : List Spec) → list_any (spec_wants info) specs ≡ true
    → feeds_meet (fold bit_or a (map (λ (spec : Spec). spec.feed.0) specs)) info.feed ≡ true
union-meets a info [] h = absurd (false≢true h)
union-meets a info (spec ∷ specs) h = by_spec (spec_wants info spec) refl (union-meets (bit_or a spec.feed.0) info specs) h
  where
    by_spec : (b : Bool) → spec_wants info spec ≡ b
        → (list_any (spec_wants info) specs ≡ true → feeds_meet (fold bit_or (bit_or a spec.feed.0) (map (λ (spec : Spec). spec.feed.0) specs)) info.feed ≡ true)
        → (b || list_any (spec_wants info) specs) ≡ true
        → feeds_meet (fold bit_or (bit_or a spec.feed.0) (map (λ (spec : Spec). spec.feed.0) specs)) info.feed ≡ true
    by_spec true is more x = begins-met (bit_or a spec.feed.0) info.feed specs
        (meets-right spec.feed.0 a info.feed (and_parts (feeds_meet spec.feed.0 info.feed) (found (pattern_of spec) info.ident) is).0)
    by_spec false is more x = more x

-- the feedtypes of all specifications, as one set, meet those of what the class wants
pub wanted-meets : (class : ClassSpec) (info : Metadata) → wants class info ≡ true
    → feeds_meet (fold bit_or 0 (map (λ (spec : Spec). spec.feed.0) class.specs.items)) info.feed ≡ true
wanted-meets class info h = union-meets 0 info class.specs.items h

-- A product that a class wants is of one of its feedtypes.
use Rattle.std.proofs.Common.{◌≡◌, ◌∙◌, ℕ, ◌<◌, Bool, true, false, List, [], ◌∷◌, map, fold, refl, sym, ap, arith, bit_and, bit_or}
use Rattle.std.specs.Prelude.{◌||◌, ◌&&◌, nat_le}
use Rattle.std.specs.List.{list_any}
use Rattle.std.proofs.lemmas.Bool.{false≢true, and_parts, ltb-true, lt-ltb}
use Rattle.std.proofs.lemmas.Nat.{and_comm, and_assoc, and_or_self, or_comm}
use Rattle.std.specs.Int.Bits.{and_zero_r}
use Rattle.ldm_types.specs.Feed.{feeds_meet}
use Rattle.ldm_types.specs.Info.{Metadata}
use Rattle.ldm_types.specs.declared.class.Spec.{Spec}
use Rattle.ldm_class.specs.Access.{is_yes, verdict}
use Rattle.ldm_class.specs.Classes.{wants, spec_wants}
use Rattle.ldm_sender.specs.Asked.{Asked}
use Rattle.ldm_sender.specs.Due.{is_due}
use Rattle.ldm_sender.specs.Opening.{feeds_of}

abbrev feed_of : Spec → ℕ
feed_of spec = spec.feed.0

-- a set that holds another one meets what that meets
union-none : (a b c : ℕ) → bit_and (bit_or b a) c ≡ 0 → bit_and a c ≡ 0
union-none a b c none =
    ap (λ (n : ℕ). bit_and n c) (sym (and_or_self a b) ∙ and_comm (bit_or b a) a) ∙ and_assoc c a (bit_or b a) ∙ ap (bit_and a) none ∙ and_zero_r a

not-zero : (n : ℕ) → (n ≡ 0 → ⊥) → 0 < n
not-zero n some = grind arith

meets-union : (a b c : ℕ) → feeds_meet a c ≡ true → feeds_meet (bit_or b a) c ≡ true
meets-union a b c h =
    let some : 0 < bit_and a c = ltb-true 0 (bit_and a c) h in
    lt-ltb 0 (bit_and (bit_or b a) c) (not-zero _ (λ none. let no : bit_and a c ≡ 0 = union-none a b c none in absurd (omega arith)))

fold-keeps : (a c : ℕ) (specs : List Spec) → feeds_meet a c ≡ true → feeds_meet (fold bit_or a (map feed_of specs)) c ≡ true
fold-keeps a c [] h = h
fold-keeps a c (spec ∷ specs) h =
    fold-keeps (bit_or a spec.feed.0) c specs (ap (λ (n : ℕ). feeds_meet n c) (or_comm a spec.feed.0) ∙ meets-union a spec.feed.0 c h)

fold-meets : (a : ℕ) (info : Metadata) (specs : List Spec) → list_any (spec_wants info) specs ≡ true → feeds_meet (fold bit_or a (map feed_of specs)) info.feed ≡ true
fold-meets a info [] h = absurd (false≢true h)
fold-meets a info (spec ∷ specs) h = by_spec (spec_wants info spec) refl (fold-meets (bit_or a spec.feed.0) info specs) h
  where
    by_spec : (b : Bool) → spec_wants info spec ≡ b
        → (list_any (spec_wants info) specs ≡ true → feeds_meet (fold bit_or (bit_or a spec.feed.0) (map feed_of specs)) info.feed ≡ true)
        → (b || list_any (spec_wants info) specs) ≡ true → feeds_meet (fold bit_or (bit_or a spec.feed.0) (map feed_of specs)) info.feed ≡ true
    by_spec true is more x = fold-keeps (bit_or a spec.feed.0) info.feed specs (meets-union spec.feed.0 a info.feed (and_parts _ _ is).0)
    by_spec false is more x = more x

-- what is due is of the feedtypes that the cursor was opened for
pub due-meets : (asked : Asked) (time : ℕ) (info : Metadata) → is_due asked time info ≡ true → feeds_meet (feeds_of asked.class) info.feed ≡ true
due-meets asked time info due =
    let parts = and_parts (nat_le time asked.class.to && wants asked.class info) (is_yes (verdict asked.rules asked.host info)) due in
    fold-meets 0 info asked.class.specs.items (and_parts (nat_le time asked.class.to) (wants asked.class info) parts.0).1

-- Where a byte stands.
use Rattle.std.proofs.Common.{◌≡◌, ℕ, ◌<◌, ◌≤◌, ◌==◌, ◌+◌, take, drop, Bool, true, false, List, [], ◌∷◌, length, Some, None, refl, sym, arith}
use Rattle.std.proofs.lemmas.List.Sums.{position_or_len_is, fails_before_first}
use Rattle.std.proofs.lemmas.List.Elements.{All-from_get_or}
use Rattle.std.proofs.lemmas.List.Splits.{slice_split_first, slice_split_none}
use Rattle.std.specs.List.{position_or_len}
use Rattle.memchr.specs.Find.{IsFirstByte, is_byte}
use Rattle.ldm_text.specs.Lines.{lines_of}

not_true : (b : Bool) → (b ≡ true → ⊥) → b ≡ false
not_true true h = absurd (h refl)
not_true false h = refl

-- the first place of a byte, if it stands anywhere
pub place_is : (c : ℕ) (text : List ℕ) (at : ℕ) → IsFirstByte (is_byte c) text (Some at) → at ≡ position_or_len (λ b. b == c) text
place_is c text at h =
    sym (position_or_len_is (λ b. b == c) text at 0 (let within = h.0.high in omega arith) (λ k below. not_true _ (h.0.before k (omega arith) below)) (λ _. h.1))

-- or the length of the text
pub length_is : (c : ℕ) (text : List ℕ) → IsFirstByte (is_byte c) text None → length text ≡ position_or_len (λ b. b == c) text
length_is c text h =
    sym (position_or_len_is (λ b. b == c) text (length text) 0 (omega arith) (λ k below. not_true _ (h k (omega arith) below)) (λ beyond. absurd (omega arith)))

-- the lines of a text up to its first newline, and behind it
pub first_and_others : (text : List ℕ) → position_or_len (λ b. b == 10) text < length text →
    lines_of text ≡ take (position_or_len (λ b. b == 10) text) text ∷ lines_of (drop (position_or_len (λ b. b == 10) text + 1) text)
first_and_others text within = slice_split_first (λ b. b == 10) text 0 within

-- a text without a newline is one line
pub one_line : (text : List ℕ) → length text ≤ position_or_len (λ b. b == 10) text → lines_of text ≡ text ∷ []
one_line text none =
    slice_split_none (λ b. b == 10) text
    (All-from_get_or (λ x. (x == 10) ≡ false) text 0 (λ i within. fails_before_first (λ b. b == 10) text i 0 (omega arith)))

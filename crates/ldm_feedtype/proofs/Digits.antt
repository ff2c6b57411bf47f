-- The text of a set of feedtypes is read as that set.
use Rattle.std.proofs.Common.{◌≡◌, ℕ, zero, suc, ◌+◌, ◌*◌, ◌/◌, ◌%◌, ◌^◌, ◌<◌, List, [], ◌∷◌, ◌++◌, drop, set, length, true, Result, Ok, inl, inr, refl, sym, ap, ◌∙◌, arith, append_assoc, append-nil, length-append, add-one}
use Rattle.std.proofs.Math.Seq.{take-length, drop-length}
use Rattle.std.proofs.lemmas.Bool.{cases_Bool, cond-true, cond-false}
use Rattle.std.proofs.lemmas.List.{drop-set}
use Rattle.std.proofs.Math.Nat.{pow-suc}
use Rattle.std.specs.Char.{digit_value, digit_char}
use Rattle.ldm_feedtype.specs.declared.fault.FeedFault.{FeedFault}
use Rattle.ldm_feedtype.specs.FeedSets.{set_of}
use Rattle.ldm_feedtype.specs.Parts.{Part, Word, is_word_byte, parts, word_length}
use Rattle.ldm_feedtype.specs.Words.{numeral, within, word_value}
use Rattle.ldm_feedtype.specs.Reading.{Wanted, whole, reading, valued, and_then, feed_set}
use Rattle.ldm_feedtype.specs.Text.{hex_digits, feed_digits}
use Rattle.ldm_feedtype.proofs.Numerals.{numeral-digit, within-small}
use Rattle.ldm_feedtype.proofs.Texts.{parts-word, cut}

-- a digit more at the front of those that are written
pub digits-more : (p rest byte : ℕ) (digits all : List ℕ) → p < length digits → byte ≡ digit_char (rest % 16)
    → hex_digits (suc p) rest ++ drop (suc p) digits ≡ all
    → hex_digits p (rest / 16) ++ drop p (set digits p byte) ≡ all
unfolding hex_digits
digits-more p rest byte digits all inside is written =
    ap (λ (behind : List ℕ). hex_digits p (rest / 16) ++ behind)
    (drop-set digits p byte inside ∙ ap (λ (k : ℕ). byte ∷ drop k digits) (add-one p) ∙ ap (λ (b : ℕ). b ∷ drop (suc p) digits) is)
    ∙ sym (append_assoc (hex_digits p (rest / 16)) (digit_char (rest % 16) ∷ []) (drop (suc p) digits))
    ∙ written

digit_value-char : (d : ℕ) → d < 16 → digit_value (digit_char d) ≡ d
digit_value-char d small = grind (arith)

digit_char-word : (d : ℕ) → d < 16 → is_word_byte (digit_char d) ≡ true
digit_char-word d small = grind (arith)

pub length-hex_digits : (count n : ℕ) → length (hex_digits count n) ≡ count
unfolding hex_digits
length-hex_digits zero n = refl
length-hex_digits (suc count) n = let e = length-hex_digits count (n / 16) in simp length-append (omega (arith, e))

-- words end to end are one word
word_length-append : (front behind : List ℕ) → word_length front ≡ length front
    → word_length (front ++ behind) ≡ length front + word_length behind
word_length-append [] behind all = omega arith
word_length-append (byte ∷ rest) behind all =
    elim (cases_Bool (is_word_byte byte)) [
      | inl word ↦
          let one : word_length (byte ∷ rest) ≡ suc (word_length rest) = cond-true (is_word_byte byte) _ 0 word in
          let others = word_length-append rest behind (omega (arith, one, all)) in
          cond-true (is_word_byte byte) (suc (word_length (rest ++ behind))) 0 word ∙ omega (arith, others)
      | inr mark ↦
          let none : word_length (byte ∷ rest) ≡ 0 = cond-false (is_word_byte byte) _ 0 mark in
          absurd (omega (arith, none, all))
    ]

word_length-hex_digits : (count n : ℕ) → word_length (hex_digits count n) ≡ count
unfolding hex_digits
word_length-hex_digits zero n = refl
word_length-hex_digits (suc count) n =
    let before = word_length-hex_digits count (n / 16) in
    let long = length-hex_digits count (n / 16) in
    let last : word_length (digit_char (n % 16) ∷ []) ≡ 1 =
    cond-true (is_word_byte (digit_char (n % 16))) 1 0 (digit_char-word (n % 16) (omega arith)) in
    word_length-append (hex_digits count (n / 16)) (digit_char (n % 16) ∷ []) (before ∙ sym long) ∙ omega (arith, long, last)

-- digits in base 16 spell the number
numeral-hex_digits : (at place before count n : ℕ) (rest : List ℕ) → n < 16 ^ count
    → numeral 16 at place before (hex_digits count n ++ rest) ≡ numeral 16 at (place + count) (before * 16 ^ count + n) rest
unfolding hex_digits
numeral-hex_digits at place before zero n rest small =
    let none : n < 1 = small in
    ap (λ (p : ℕ). numeral 16 at p before rest) (omega arith) ∙ ap (λ (m : ℕ). numeral 16 at (place + 0) m rest) (omega arith)
numeral-hex_digits at place before (suc count) n rest small =
    let grows = pow-suc 16 count in
    let high : n / 16 < 16 ^ count = omega (arith, grows) in
    let value = digit_value-char (n % 16) (omega arith) in
    ap (numeral 16 at place before) (append_assoc (hex_digits count (n / 16)) (digit_char (n % 16) ∷ []) rest)
    ∙ numeral-hex_digits at place before count (n / 16) (digit_char (n % 16) ∷ rest) high
    ∙ numeral-digit 16 at (place + count) (before * 16 ^ count + n / 16) (digit_char (n % 16)) rest (rw value (omega arith))
    ∙ ap (λ (p : ℕ). numeral 16 at p ((before * 16 ^ count + n / 16) * 16 + digit_value (digit_char (n % 16))) rest) (omega arith)
    ∙ ap (λ (m : ℕ). numeral 16 at (place + suc count) m rest) (rw value (omega (arith, grows, ap (λ (power : ℕ). before * power) grows)))

hexadecimal-digits : (n : ℕ) → word_value 0 (feed_digits n) ≡ numeral 16 0 2 0 (hex_digits 8 n)
unfolding hex_digits
hexadecimal-digits n = refl

-- eight digits behind `0x` are a number
word_value-feed_digits : (n : ℕ) → n < 2 ^ 32 → word_value 0 (feed_digits n) ≡ Ok n
word_value-feed_digits n small =
    hexadecimal-digits n
    ∙ ap (numeral 16 0 2 0) (sym (append-nil (hex_digits 8 n)))
    ∙ numeral-hex_digits 0 2 0 8 n [] small
    ∙ ap (within 0) (omega arith)
    ∙ within-small 0 n small

-- the text has one part
parts-feed_digits : (n : ℕ) → parts 0 (feed_digits n) ≡ Word 0 (feed_digits n) ∷ []
parts-feed_digits n =
    let text = feed_digits n in
    let all : word_length text ≡ length text =
    ap (λ (m : ℕ). suc (suc m)) (word_length-hex_digits 8 n ∙ sym (length-hex_digits 8 n)) in
    parts-word 0 text refl ∙ ap (cut 0 text) all
    ∙ ap (λ (word : List ℕ). Word 0 word ∷ parts (0 + length text) (drop (length text) text)) (take-length text)
    ∙ ap (λ (behind : List ℕ). Word 0 text ∷ parts (0 + length text) behind) (drop-length text)

pub feed_set-feed_digits : (n : ℕ) → n < 2 ^ 32 → feed_set (feed_digits n) ≡ Ok (set_of n)
feed_set-feed_digits n small =
    let end = length (feed_digits n) in
    ap (λ (ps : List Part). reading end ps (Wanted whole [])) (parts-feed_digits n)
    ∙ ap (λ (value : Result ℕ FeedFault). and_then (valued whole [] value) (reading end [])) (word_value-feed_digits n small)

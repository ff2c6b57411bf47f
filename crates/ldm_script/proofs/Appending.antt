-- Bodies that are appended as digits.
use Rattle.std.proofs.Common.{◌≡◌, ℕ, zero, suc, ◌+◌, ◌*◌, ◌/◌, ◌%◌, ◌<◌, ◌≤◌, Bool, true, cond, List, [], ◌∷◌, ◌++◌, length, map, replicate, Option, Some, None, unwrap_or, refl, sym, ap, ◌∙◌, arith, inl, inr}
use Rattle.std.proofs.lemmas.Bool.{and_parts, cases_lt, eqb-true, cond-true, cond-false, lt-ltb, le-ltb}
use Rattle.std.proofs.lemmas.List.{replicate_more}
use Rattle.std.specs.Char.{digit_char, to_ascii_lowercase}
use Rattle.std.specs.Prelude.{nat_lt, ◌==◌, ◌&&◌, IsSome, slice_index}
use Rattle.hex.specs.Hex.{IsBytes, encode_with, encode_lower, lower_digits, hex_digit_value}
use Rattle.hex.proofs.HexLemmas.{length-encode_with, decode_of-ok}
use Rattle.ldm_script.specs.Bodies.{body_of, digits_of}
use Rattle.ldm_answers.specs.Texts.{body_text}
use Rattle.ldm_script.proofs.Hexadecimal.{pairs, cons_pair, digits_of-pairs, length-digits_of, some_bytes, decoded}
use Rattle.ldm_script.proofs.ReadBack.{body_of-body_text}

pub length-body_text : (bytes : List ℕ) → length (body_text bytes) ≤ 2 * length bytes + 1
length-body_text [] = omega arith
length-body_text (byte ∷ bytes) = let len = length-encode_with lower_digits (byte ∷ bytes) in omega arith

-- ---- digits in lower case

abbrev all_below : (ℕ → Bool) → ℕ → Bool
all_below test zero = true
all_below test (suc n) = test n && all_below test n

all_below-at : (test : ℕ → Bool) (n k : ℕ) → all_below test n ≡ true → k < n → test k ≡ true
all_below-at test zero k all below = absurd (omega arith)
all_below-at test (suc n) k all below =
    let parts = and_parts (test n) (all_below test n) all in
    elim (cases_lt k n) [
      | inl lower ↦ all_below-at test n k parts.1 lower
      | inr last ↦
          let e : k ≡ n = omega arith in
          rw e parts.0
    ]

lower_digits-at : (v : ℕ) → v < 16 → slice_index lower_digits v ≡ digit_char v
lower_digits-at v small = eqb-true (slice_index lower_digits v) (digit_char v) (all_below-at (λ d. slice_index lower_digits d == digit_char d) 16 v refl small)

small_digit : (c v : ℕ) → hex_digit_value c ≡ Some v → v < 16
small_digit c v is = grind arith

digit_below : (c v : ℕ) → c < 65 → hex_digit_value c ≡ Some v → c ≡ digit_char v
digit_below c v low is = grind arith

letter_between : (c v : ℕ) → 65 ≤ c → c < 91 → hex_digit_value c ≡ Some v → c + 32 ≡ digit_char v
letter_between c v above low is = grind arith

letter_above : (c v : ℕ) → 91 ≤ c → hex_digit_value c ≡ Some v → c ≡ digit_char v
letter_above c v above is = grind arith

lower_digit : (c v : ℕ) → hex_digit_value c ≡ Some v → to_ascii_lowercase c ≡ digit_char v
lower_digit c v is =
    elim (cases_lt c 65) [
      | inl below ↦ cond-true (nat_lt c 65) c (cond (nat_lt c 91) (c + 32) c) (lt-ltb c 65 below) ∙ digit_below c v below is
      | inr upper ↦
          cond-false (nat_lt c 65) c (cond (nat_lt c 91) (c + 32) c) (le-ltb c 65 upper) ∙ elim (cases_lt c 91) [
            | inl between ↦ cond-true (nat_lt c 91) (c + 32) c (lt-ltb c 91 between) ∙ letter_between c v upper between is
            | inr above ↦ cond-false (nat_lt c 91) (c + 32) c (le-ltb c 91 above) ∙ letter_above c v above is
          ]
    ]

abbrev lowered : List ℕ → List ℕ → Type 0
lowered s bytes = map to_ascii_lowercase s ≡ encode_lower bytes

lower_pair : (high low : ℕ) (rest : List ℕ) (x y : Option ℕ) (o : Option (List ℕ)) → hex_digit_value high ≡ x → hex_digit_value low ≡ y
    → ((bytes : List ℕ) → o ≡ Some bytes → lowered rest bytes) → (bytes : List ℕ) → cons_pair x y o ≡ Some bytes → lowered (high ∷ low ∷ rest) bytes
unfolding encode_with
lower_pair high low rest None y o high_is low_is behind bytes is = absurd (cc is)
lower_pair high low rest (Some a) None o high_is low_is behind bytes is = absurd (cc is)
lower_pair high low rest (Some a) (Some b) None high_is low_is behind bytes is = absurd (cc is)
lower_pair high low rest (Some a) (Some b) (Some more) high_is low_is behind bytes is =
    let small_a = small_digit high a high_is in
    let small_b = small_digit low b low_is in
    let byte = a * 16 + b in
    let same : byte ∷ more ≡ bytes = cc is in
    let first : to_ascii_lowercase high ≡ slice_index lower_digits (byte / 16) = lower_digit high a high_is ∙ sym (lower_digits-at a small_a) ∙ ap (slice_index lower_digits) (omega arith) in
    let second : to_ascii_lowercase low ≡ slice_index lower_digits (byte % 16) = lower_digit low b low_is ∙ sym (lower_digits-at b small_b) ∙ ap (slice_index lower_digits) (omega arith) in
    ap (λ (x : ℕ). x ∷ to_ascii_lowercase low ∷ map to_ascii_lowercase rest) first
    ∙ ap (λ (x : ℕ). slice_index lower_digits (byte / 16) ∷ x ∷ map to_ascii_lowercase rest) second
    ∙ ap (λ (xs : List ℕ). slice_index lower_digits (byte / 16) ∷ slice_index lower_digits (byte % 16) ∷ xs) (behind more refl)
    ∙ ap encode_lower same

lower_pairs : (s bytes : List ℕ) → pairs s ≡ Some bytes → lowered s bytes
unfolding encode_with
lower_pairs [] bytes is = let none : bytes ≡ [] = cc is in sym (ap encode_lower none)
lower_pairs (digit ∷ []) bytes is = absurd (cc is)
lower_pairs (high ∷ low ∷ rest) bytes is =
    lower_pair high low rest (hex_digit_value high) (hex_digit_value low) (pairs rest) refl refl (λ more e. lower_pairs rest more e) bytes is

pub lower_digits-of : (digits : List ℕ) → IsSome (digits_of digits) → map to_ascii_lowercase digits ≡ encode_lower (unwrap_or (digits_of digits) [])
lower_digits-of digits some = lower_pairs digits (unwrap_or (digits_of digits) []) (sym (digits_of-pairs digits) ∙ some_bytes (digits_of digits) some)

-- ---- equal bytes

encode_with-append : (table xs ys : List ℕ) → encode_with table (xs ++ ys) ≡ encode_with table xs ++ encode_with table ys
unfolding encode_with
encode_with-append table [] ys = refl
encode_with-append table (x ∷ xs) ys = ap (λ (l : List ℕ). slice_index table (x / 16) ∷ slice_index table (x % 16) ∷ l) (encode_with-append table xs ys)

pub encode_lower-one_more : (count byte : ℕ) → encode_lower (replicate count byte) ++ encode_lower (byte ∷ []) ≡ encode_lower (replicate (count + 1) byte)
encode_lower-one_more count byte = sym (encode_with-append lower_digits (replicate count byte) (byte ∷ [])) ∙ ap encode_lower (replicate_more count byte)

pub encode_lower-none : (byte : ℕ) → encode_lower (replicate 0 byte) ≡ []
unfolding encode_with
encode_lower-none byte = refl

-- ---- bodies that are not empty

some_if : (o : Option (List ℕ)) → (length (unwrap_or o []) ≡ 0 → ⊥) → IsSome o
some_if None some = absurd (some refl)
some_if (Some bytes) some = refl

body_text-some : (bytes : List ℕ) → (length bytes ≡ 0 → ⊥) → body_text bytes ≡ encode_lower bytes
body_text-some [] some = absurd (some refl)
body_text-some (byte ∷ bytes) some = refl

pub length-body_text-some : (bytes : List ℕ) → (length bytes ≡ 0 → ⊥) → length (body_text bytes) ≡ 2 * length bytes
length-body_text-some bytes some = ap length (body_text-some bytes some) ∙ length-encode_with lower_digits bytes

pub length-digits : (digits : List ℕ) → (length (unwrap_or (digits_of digits) []) ≡ 0 → ⊥) → length digits ≡ length (body_text (unwrap_or (digits_of digits) []))
length-digits digits some =
    length-digits_of digits (some_if (digits_of digits) some) ∙ sym (length-body_text-some (unwrap_or (digits_of digits) []) some)

pub read_back-digits : (digits : List ℕ) → (length (unwrap_or (digits_of digits) []) ≡ 0 → ⊥)
    → body_of (body_text (unwrap_or (digits_of digits) [])) ≡ Some (unwrap_or (digits_of digits) [])
read_back-digits digits some =
    let bytes = unwrap_or (digits_of digits) [] in
    body_of-body_text bytes (decode_of-ok digits bytes (decoded digits (some_if (digits_of digits) some))).3

IsBytes-replicate : (count byte : ℕ) → byte < 256 → IsBytes (replicate count byte)
IsBytes-replicate zero byte small i = omega arith
IsBytes-replicate (suc count) byte small zero = small
IsBytes-replicate (suc count) byte small (suc i) = IsBytes-replicate count byte small i

pub read_back-fill : (count byte : ℕ) → byte < 256 → body_of (body_text (replicate count byte)) ≡ Some (replicate count byte)
read_back-fill count byte small = body_of-body_text (replicate count byte) (IsBytes-replicate count byte small)

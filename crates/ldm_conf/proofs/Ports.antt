-- Where a text is cut at its last colon, and the port that it spells.
use Rattle.std.proofs.Common.{◌≡◌, ◌∙◌, ℕ, zero, suc, ◌+◌, ◌-◌, ◌*◌, ◌<◌, ◌≤◌, ◌^◌, ◌==◌, Bool, true, false, cond, not, ◌&&◌, nat_le, nat_lt, List, [], ◌∷◌, length, take, drop, get_or, slice_index, IfSome, Some, None, Result, Ok, Err, refl, sym, ap, arith, rules}
use Rattle.std.proofs.lemmas.Bool.{and_parts, le-leb, leb-true, lt-ltb, ltb-true}
use Rattle.std.proofs.lemmas.Bool.Decides.{nat_tests}
use Rattle.std.proofs.lemmas.Str.{IsUtf8-from_ascii}
use Rattle.std.proofs.lemmas.Str.Parse.{parse_digits, IsNumeralModel, numerals_by_fold}
use Rattle.std.specs.Result.{OkIff, result_ok}
use Rattle.std.specs.Char.{is_ascii_digit}
use Rattle.std.specs.List.{list_all}
use Rattle.std.specs.Str.{all_ascii_digits, IsAscii, IsUtf8}
use Rattle.std.specs.Str.Parse.{ParsesUnsigned}
use Rattle.memchr.specs.Find.{is_byte}
use Rattle.ldm_conf.specs.Addresses.{at_last_colon, begins_with_zero, digits_from, is_port, port_of}

abbrev is_colon : ℕ → Bool
is_colon = is_byte 58

not_true : (b : Bool) → (b ≡ true → ⊥) → b ≡ false
not_true true h = absurd (h refl)
not_true false h = refl

-- a text without a colon
pub none_at : (text : List ℕ) → ((j : ℕ) → 0 ≤ j → j < length text → is_colon (get_or text j 0) ≡ true → ⊥) → at_last_colon text ≡ None
none_at [] h = refl
none_at (byte ∷ bytes) h =
    let behind : at_last_colon bytes ≡ None = none_at bytes (λ j low within is. h (suc j) (omega arith) (omega arith) is) in
    let here : (byte == 58) ≡ false = not_true _ (λ is. h 0 (omega arith) (omega arith) is) in
    rw (behind, here) refl

-- a text whose last colon stands at k
pub last_at : (text : List ℕ) (k : ℕ) → k < length text → is_colon (get_or text k 0) ≡ true → ((j : ℕ) → k + 1 ≤ j → j < length text → is_colon (get_or text j 0) ≡ true → ⊥) →
    at_last_colon text ≡ Some (take k text, drop (k + 1) text)
last_at [] k within is after = absurd (omega arith)
last_at (byte ∷ bytes) zero within is after =
    let behind : at_last_colon bytes ≡ None = none_at bytes (λ j low more here. after (suc j) (omega arith) (omega arith) here) in
    let here : (byte == 58) ≡ true = is in
    rw (behind, here) refl
last_at (byte ∷ bytes) (suc m) within is after =
    let behind : at_last_colon bytes ≡ Some (take m bytes, drop (m + 1) bytes) = last_at bytes m (omega arith) is (λ j low more here. after (suc j) (omega arith) (omega arith) here) in
    let one : suc m + 1 ≡ suc (m + 1) = omega arith in
    rw (behind, one) refl

-- digits spell the number that `parse` gives
pub digits : IsNumeralModel (λ text. all_ascii_digits text ≡ true) (digits_from 0)
digits = numerals_by_fold _ (search rules) digits_from (search rules)

pub are_digits : (text : List ℕ) → list_all is_ascii_digit text ≡ all_ascii_digits text
are_digits [] = refl
are_digits (byte ∷ bytes) = ap (λ (b : Bool). is_ascii_digit byte && b) (are_digits bytes)

-- what is parsed of digits that begin with no 0 is the port that they spell
pub port_is : {E : Type 0} (text : List ℕ) (r : Result ℕ E) → begins_with_zero text ≡ false → list_all is_ascii_digit text ≡ true →
    OkIff r ((0 < length text) × (digits_from 0 text < 2 ^ 16)) (digits_from 0 text) → result_ok r ≡ port_of text
port_is text (Ok n) no_zero are_digits is =
    let some : nat_le 1 (length text) ≡ true = le-leb 1 (length text) (omega (arith, is.0.0)) in
    let small : nat_lt (digits_from 0 text) (2 ^ 16) ≡ true = lt-ltb (digits_from 0 text) (2 ^ 16) is.0.1 in
    rw (is.1, no_zero, are_digits, some, small) refl
port_is text (Err e) no_zero are_digits is =
    elim (nat_le 1 (length text)) as (λ b. nat_le 1 (length text) ≡ b → None ≡ port_of text) [
      | true ↦ λ some.
          elim (nat_lt (digits_from 0 text) (2 ^ 16)) as (λ b. nat_lt (digits_from 0 text) (2 ^ 16) ≡ b → None ≡ port_of text) [
            | true ↦ λ small. absurd (is (leb-true 1 (length text) some, ltb-true (digits_from 0 text) (2 ^ 16) small))
            | false ↦ λ large. rw (no_zero, are_digits, some, large) refl
          ] refl
      | false ↦ λ none. rw (no_zero, none) refl
    ] refl

pub no_port_zero : (text : List ℕ) → begins_with_zero text ≡ true → None ≡ port_of text
no_port_zero text h = elim (nat_le 1 (length text)) as (λ b. nat_le 1 (length text) ≡ b → None ≡ port_of text) [
  | true ↦ λ some. rw (some, h) refl
  | false ↦ λ nothing. rw nothing refl
] refl

pub no_port_digits : (text : List ℕ) → begins_with_zero text ≡ false → list_all is_ascii_digit text ≡ false → None ≡ port_of text
no_port_digits text no_zero none = elim (nat_le 1 (length text)) as (λ b. nat_le 1 (length text) ≡ b → None ≡ port_of text) [
  | true ↦ λ some. rw (some, no_zero, none) refl
  | false ↦ λ nothing. rw nothing refl
] refl

digits_behind_some : (n : ℕ) (text : List ℕ) → 0 < n → 0 < digits_from n text
digits_behind_some n [] some = some
digits_behind_some n (byte ∷ bytes) some = digits_behind_some (10 * n + (byte - 48)) bytes (omega arith)

digit_from_one : (byte : ℕ) → not (byte == 48) ≡ true → 48 ≤ byte → 48 < byte
digit_from_one byte other low = grind (arith, nat_tests)

port_is_some : (text : List ℕ) → is_port text ≡ true → 0 < digits_from 0 text
port_is_some [] is = absurd cc
port_is_some (byte ∷ bytes) is =
    let text = byte ∷ bytes in
    let front = and_parts (nat_le 1 (length text) && not (byte == 48)) (list_all is_ascii_digit text)
    (and_parts (nat_le 1 (length text) && not (byte == 48) && list_all is_ascii_digit text) (nat_lt (digits_from 0 text) (2 ^ 16)) is).0 in
    let other = (and_parts (nat_le 1 (length text)) (not (byte == 48)) front.0).1 in
    let digit = (and_parts (is_ascii_digit byte) (list_all is_ascii_digit bytes) front.1).0 in
    let low : 48 ≤ byte = leb-true 48 byte (and_parts (nat_le 48 byte) (nat_le byte 57) digit).0 in
    let above : 48 < byte = digit_from_one byte other low in
    digits_behind_some (10 * 0 + (byte - 48)) bytes (omega arith)

-- a port is at least 1
pub some_port : (text : List ℕ) → IfSome (port_of text) (λ port. 0 < port)
some_port text = elim (is_port text) as (λ b. is_port text ≡ b → IfSome (cond b (Some (digits_from 0 text)) None) (λ port. 0 < port)) [
  | true ↦ λ is. port_is_some text is
  | false ↦ λ _. tt
] refl

digit_is_ascii : (byte : ℕ) → is_ascii_digit byte ≡ true → byte < 128
digit_is_ascii byte h = let high : byte ≤ 57 = leb-true byte 57 (and_parts (nat_le 48 byte) (nat_le byte 57) h).1 in omega arith

ascii_at : (byte : ℕ) (bytes : List ℕ) → byte < 128 → IsAscii bytes → (i : ℕ) → slice_index (byte ∷ bytes) i < 128
ascii_at byte bytes here behind zero = here
ascii_at byte bytes here behind (suc i) = behind i

are_ascii : (text : List ℕ) → list_all is_ascii_digit text ≡ true → IsAscii text
are_ascii [] h = λ i. omega arith
are_ascii (byte ∷ bytes) h = λ i. ascii_at byte bytes (digit_is_ascii byte (and_parts (is_ascii_digit byte) (list_all is_ascii_digit bytes) h).0) (are_ascii bytes (and_parts (is_ascii_digit byte) (list_all is_ascii_digit bytes) h).1) i

-- digits are text
pub digits_are_text : (text : List ℕ) → list_all is_ascii_digit text ≡ true → IsUtf8 text
digits_are_text text digits = IsUtf8-from_ascii text (are_ascii text digits)

pub parsed : {E : Type 0} (text : List ℕ) (r : Result ℕ E) → list_all is_ascii_digit text ≡ true → ParsesUnsigned 16 10 text r →
    OkIff r ((0 < length text) × (digits_from 0 text < 2 ^ 16)) (digits_from 0 text)
parsed text r are is = parse_digits digits 16 text r is (sym (are_digits text) ∙ are)

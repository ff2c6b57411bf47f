-- Fields without a blank, or another byte.
use Rattle.std.proofs.Common.{◌≡◌, ℕ, zero, suc, ◌+◌, ◌-◌, ◌*◌, ◌/◌, ◌%◌, ◌<◌, ◌≤◌, Bool, true, false, cond, List, [], ◌∷◌, length, codes, Option, Some, None, refl, sym, ◌∙◌, arith, inl, inr}
use Rattle.std.proofs.lemmas.Bool.{cases_Bool, cond-false, ne_eqb, or_parts}
use Rattle.std.proofs.lemmas.List.Elements.{All-nil, All-cons, All-append, All-head, All-tail, All-push}
use Rattle.std.specs.Char.{digit_char}
use Rattle.std.specs.List.{flat_map, list_any}
use Rattle.std.specs.Prelude.{◌==◌, ◌&&◌, nat_le, bytes_eq, slice_index}
use Rattle.hex.specs.Hex.{encode_with, encode_lower, encode_upper, lower_digits, upper_digits}
use Rattle.ldm_feedtype.specs.Text.{hex_digits, feed_digits}
use Rattle.ldm_answers.specs.Number.{is_digit, digits_from, up_to, number_up_to}
use Rattle.ldm_script.specs.Split.{Lacks}
use Rattle.ldm_answers.specs.Texts.{is_plain, spelled_byte, spelled, body_text}
use Rattle.ldm_answers.proofs.Numbers.{one_digit}

abbrev P : ℕ → ℕ → Type 0
P c byte = (byte == c) ≡ false

-- no byte of a table is that one, nor what is behind its end
lacks-at : (c : ℕ) (table : List ℕ) → 0 < c → Lacks c table → (k : ℕ) → (slice_index table k == c) ≡ false
lacks-at c [] some lacks k = ne_eqb 0 c (λ e. omega arith)
lacks-at c (byte ∷ bytes) some lacks zero = All-head (P c) byte bytes lacks
lacks-at c (byte ∷ bytes) some lacks (suc k) = lacks-at c bytes some (All-tail (P c) byte bytes lacks) k

lacks-from_test : (c : ℕ) (xs : List ℕ) → list_any (λ byte. byte == c) xs ≡ false → Lacks c xs
lacks-from_test c [] e = All-nil (P c)
lacks-from_test c (byte ∷ bytes) e =
    let parts = or_parts (byte == c) (list_any (λ byte. byte == c) bytes) e in
    All-cons (P c) byte bytes parts.0 (lacks-from_test c bytes parts.1)

pub lacks-encode_with : (c : ℕ) (table xs : List ℕ) → 0 < c → Lacks c table → Lacks c (encode_with table xs)
unfolding encode_with
lacks-encode_with c table [] some lacks = All-nil (P c)
lacks-encode_with c table (b ∷ rest) some lacks =
    All-cons (P c) (slice_index table (b / 16)) (slice_index table (b % 16) ∷ encode_with table rest) (lacks-at c table some lacks (b / 16))
    (All-cons (P c) (slice_index table (b % 16)) (encode_with table rest) (lacks-at c table some lacks (b % 16)) (lacks-encode_with c table rest some lacks))

pub lacks-encode_lower : (xs : List ℕ) → Lacks 32 (encode_lower xs)
lacks-encode_lower xs = lacks-encode_with 32 lower_digits xs (omega arith) (lacks-from_test 32 lower_digits refl)

pub lacks_star-encode_lower : (xs : List ℕ) → Lacks 42 (encode_lower xs)
lacks_star-encode_lower xs = lacks-encode_with 42 lower_digits xs (omega arith) (lacks-from_test 42 lower_digits refl)

-- ---- numbers

digit-high : (c byte : ℕ) → c < 48 → is_digit byte ≡ true → (byte == c) ≡ false
digit-high c byte low digit = let high : 48 ≤ byte = grind arith in ne_eqb byte c (λ e. omega arith)

lacks-digits : (c n m : ℕ) (bytes : List ℕ) → c < 48 → digits_from n bytes ≡ Some m → Lacks c bytes
lacks-digits c n m [] low is = All-nil (P c)
lacks-digits c n m (byte ∷ bytes) low is =
    elim (cases_Bool (is_digit byte)) [
      | inl digit ↦ All-cons (P c) byte bytes (digit-high c byte low digit) (lacks-digits c (10 * n + (byte - 48)) m bytes low (sym (one_digit n byte bytes digit) ∙ is))
      | inr other ↦ let none : None ≡ Some m = sym (cond-false (is_digit byte) (digits_from (10 * n + (byte - 48)) bytes) None other) ∙ is in absurd (cc none)
    ]

-- a text that is read as a number
pub lacks-number : (c most n : ℕ) (text : List ℕ) → c < 48 → number_up_to most text ≡ Some n → Lacks c text
lacks-number c most n [] low is = absurd (cc is)
lacks-number c most n (byte ∷ bytes) low is = by_parts (byte == 48 && nat_le 1 (length bytes)) (digits_from 0 (byte ∷ bytes)) refl is
  where
    by_parts : (b : Bool) (o : Option ℕ) → digits_from 0 (byte ∷ bytes) ≡ o → cond b None (up_to most o) ≡ Some n → Lacks c (byte ∷ bytes)
    by_parts true o digits e = absurd (cc e)
    by_parts false None digits e = absurd (cc e)
    by_parts false (Some m) digits e = lacks-digits c 0 m (byte ∷ bytes) low digits

-- ---- feedtypes

digit_char-high : (d : ℕ) → 48 ≤ digit_char d
digit_char-high d = grind arith

lacks-hex_digits : (c count n : ℕ) → c < 48 → Lacks c (hex_digits count n)
unfolding hex_digits
lacks-hex_digits c zero n low = All-nil (P c)
lacks-hex_digits c (suc count) n low =
    let high = digit_char-high (n % 16) in
    All-push (P c) (hex_digits count (n / 16)) (digit_char (n % 16)) (lacks-hex_digits c count (n / 16) low) (ne_eqb (digit_char (n % 16)) c (λ e. omega arith))

pub lacks-feed_digits : (c feed : ℕ) → c < 48 → Lacks c (feed_digits feed)
lacks-feed_digits c feed low =
    All-cons (P c) 48 (120 ∷ hex_digits 8 feed) (ne_eqb 48 c (λ e. omega arith))
    (All-cons (P c) 120 (hex_digits 8 feed) (ne_eqb 120 c (λ e. omega arith)) (lacks-hex_digits c 8 feed low))

pub list_any-lacks : (c : ℕ) (xs : List ℕ) → Lacks c xs → list_any (λ byte. byte == c) xs ≡ false
list_any-lacks c [] lacks = refl
list_any-lacks c (byte ∷ bytes) lacks =
    let head = All-head (P c) byte bytes lacks in
    let tail = list_any-lacks c bytes (All-tail (P c) byte bytes lacks) in
    grind arith

-- ---- texts

plain-solid : (byte : ℕ) → is_plain byte ≡ true → (byte == 32) ≡ false
plain-solid byte plain = grind arith

lacks-spelled_byte : (byte : ℕ) → Lacks 32 (spelled_byte byte)
lacks-spelled_byte byte = by_test (is_plain byte) refl
  where
    by_test : (b : Bool) → is_plain byte ≡ b → Lacks 32 (cond b (byte ∷ []) (37 ∷ encode_upper (byte ∷ [])))
    by_test true plain = All-cons (P 32) byte [] (plain-solid byte plain) (All-nil (P 32))
    by_test false other =
        All-cons (P 32) 37 (encode_upper (byte ∷ [])) refl (lacks-encode_with 32 upper_digits (byte ∷ []) (omega arith) (lacks-from_test 32 upper_digits refl))

lacks-flat_map : (text : List ℕ) → Lacks 32 (flat_map spelled_byte text)
lacks-flat_map [] = All-nil (P 32)
lacks-flat_map (byte ∷ bytes) = All-append (P 32) (spelled_byte byte) (flat_map spelled_byte bytes) (lacks-spelled_byte byte) (lacks-flat_map bytes)

pub lacks-spelled : (text : List ℕ) → Lacks 32 (spelled text)
lacks-spelled [] = lacks-from_test 32 (codes "-") refl
lacks-spelled (byte ∷ bytes) = by_test (bytes_eq (byte ∷ bytes) (codes "-"))
  where
    by_test : (b : Bool) → Lacks 32 (cond b (codes "%2D") (flat_map spelled_byte (byte ∷ bytes)))
    by_test true = lacks-from_test 32 (codes "%2D") refl
    by_test false = lacks-flat_map (byte ∷ bytes)

-- ---- bodies

pub lacks-body_text : (bytes : List ℕ) → Lacks 32 (body_text bytes)
lacks-body_text [] = lacks-from_test 32 (codes "-") refl
lacks-body_text (byte ∷ bytes) = lacks-encode_lower (byte ∷ bytes)

pub lacks-literal : (xs : List ℕ) → list_any (λ byte. byte == 32) xs ≡ false → Lacks 32 xs
lacks-literal xs = lacks-from_test 32 xs

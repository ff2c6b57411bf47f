-- Numbers and texts that are read as what they were written for.
use Rattle.std.proofs.Common.{◌≡◌, ℕ, zero, suc, ◌+◌, ◌-◌, ◌*◌, ◌/◌, ◌%◌, ◌^◌, ◌<◌, ◌≤◌, Bool, true, false, cond, ◌||◌, List, [], ◌∷◌, ◌++◌, length, get_or, codes, decimal, Option, Some, None, Result, Ok, refl, sym, ap, subst, ◌∙◌, arith, inl, inr}
use Rattle.std.proofs.lemmas.Bool.{false≢true, and_parts, cases_Bool, cases_eq, eqb-true, le-leb, lt-leb, cond-true, cond-false}
use Rattle.std.proofs.lemmas.Fmt.{decimal_by_steps, decimal_digit, first_decimal, decimal_nonempty}
use Rattle.std.proofs.lemmas.Slice.Eq.{bytes_eq-Decides}
use Rattle.std.specs.List.{flat_map, list_all, list_any}
use Rattle.std.specs.Prelude.{◌==◌, ◌&&◌, not, nat_le, bytes_eq, is_some, unwrap_or}
use Rattle.std.specs.Result.{result_ok}
use Rattle.hex.specs.Hex.{IsBytes, decode_sized, encode_upper, upper_digits}
use Rattle.hex.proofs.HexLemmas.{length-encode_with, decode_of-encode_upper, decode_sized-twice}
use Rattle.hex.specs.declared.error.FromHexError.{FromHexError}
use Rattle.ldm_answers.specs.Number.{is_digit, digits_from, up_to, number_up_to, number_below}
use Rattle.ldm_answers.specs.Texts.{is_plain, spelled_byte, spelled, unspelled, with_byte, if_text, text_up_to}
use Rattle.ldm_answers.proofs.Unspelling.{escaped, unspelled-plain, if_text-is}
use Rattle.ldm_answers.proofs.Numbers.{one_digit, number_below-next}

-- ---- numbers

is_digit-digit : (digit : ℕ) → digit < 10 → is_digit (48 + digit) ≡ true
is_digit-digit digit small = grind arith

digits_from-append : (n m digit : ℕ) (bytes : List ℕ) → digit < 10 → digits_from n bytes ≡ Some m → digits_from n (bytes ++ (48 + digit) ∷ []) ≡ Some (10 * m + digit)
digits_from-append n m digit [] small so_far =
    let same : n ≡ m = cc so_far in
    one_digit n (48 + digit) [] (is_digit-digit digit small) ∙ ap (λ (k : ℕ). Some k) (omega arith)
digits_from-append n m digit (byte ∷ bytes) small so_far =
    elim (cases_Bool (is_digit byte)) [
      | inl digit_is ↦
          one_digit n byte (bytes ++ (48 + digit) ∷ []) digit_is
          ∙ digits_from-append (10 * n + (byte - 48)) m digit bytes small (sym (one_digit n byte bytes digit_is) ∙ so_far)
      | inr other ↦
          let none : None ≡ Some m = sym (cond-false (is_digit byte) (digits_from (10 * n + (byte - 48)) bytes) None other) ∙ so_far in
          absurd (cc none)
    ]

digits_from-decimal : (n : ℕ) → n < 2 ^ 64 → digits_from 0 (decimal n) ≡ Some n
digits_from-decimal =
    decimal_by_steps (λ n digits. digits_from 0 digits ≡ Some n)
    (λ n small. one_digit 0 (48 + n) [] (is_digit-digit n small) ∙ ap (λ (k : ℕ). Some k) (omega arith))
    (λ n digits large so_far. digits_from-append 0 (n / 10) (n % 10) digits (omega arith) so_far ∙ ap (λ (k : ℕ). Some k) (omega arith))

number_from : (most n : ℕ) (digits : List ℕ) → n ≤ most → 0 < length digits → (get_or digits 0 0 ≡ 48 → length digits ≡ 1) → digits_from 0 digits ≡ Some n → number_up_to most digits ≡ Some n
number_from most n [] le some leading is = absurd (omega arith)
number_from most n (byte ∷ bytes) le some leading is =
    cond-false (byte == 48 && nat_le 1 (length bytes)) None (up_to most (digits_from 0 (byte ∷ bytes))) (no_zero (byte == 48) (nat_le 1 (length bytes)) (λ e. lt-leb 1 (length bytes) (let one = leading (eqb-true byte 48 e) in omega arith)))
    ∙ ap (up_to most) is ∙ cond-true (nat_le n most) (Some n) None (le-leb n most le)
  where
    no_zero : (a b : Bool) → (a ≡ true → b ≡ false) → (a && b) ≡ false
    no_zero true b h = h refl
    no_zero false b h = refl

pub number_up_to-decimal : (most n : ℕ) → n ≤ most → n < 2 ^ 64 → number_up_to most (decimal n) ≡ Some n
number_up_to-decimal most n le small =
    number_from most n (decimal n) le (decimal_nonempty n small) leading (digits_from-decimal n small)
  where
    leading : get_or (decimal n) 0 0 ≡ 48 → length (decimal n) ≡ 1
    leading e =
        elim (cases_eq n 0) [
          | inl none ↦ ap (λ (k : ℕ). length (decimal k)) none ∙ ap length (decimal_digit 0 (omega arith))
          | inr some ↦ absurd (let above = first_decimal n (omega arith) small in omega arith)
        ]

pub number_below-decimal : (limit n : ℕ) → n < limit → n < 2 ^ 64 → number_below limit (decimal n) ≡ Some n
number_below-decimal zero n below small = absurd (omega arith)
number_below-decimal (suc most) n below small =
    ap (λ (k : ℕ). number_below k (decimal n)) (let e : suc most ≡ most + 1 = omega arith in e) ∙ number_below-next most (decimal n) ∙ number_up_to-decimal most n (omega arith) small

-- a field that is read is no text that is not read
pub other_text : {A : Type 0} (read : List ℕ → Option A) (field word : List ℕ) (x : A) → read field ≡ Some x → read word ≡ None → bytes_eq field word ≡ false
other_text {A} read field word x is none =
    elim (cases_Bool (bytes_eq field word)) [
      | inl same ↦ let e : Some x ≡ None = sym is ∙ ap read ((bytes_eq-Decides field word).0 same) ∙ none in absurd (cc e)
      | inr other ↦ other
    ]

-- ---- texts

unspelled-escaped : (byte : ℕ) (rest : List ℕ) → byte < 256 → unspelled (37 ∷ encode_upper (byte ∷ []) ++ rest) ≡ with_byte (Some (byte ∷ [])) (unspelled rest)
unspelled-escaped byte rest small =
    let len = length-encode_with upper_digits (byte ∷ []) in
    let digits = escaped byte in
    let read : decode_sized (encode_upper (byte ∷ [])) 1 ≡ Ok (byte ∷ []) = decode_sized-twice (encode_upper (byte ∷ [])) 1 len ∙ decode_of-encode_upper (byte ∷ []) (alone byte small) in
    ap (λ (ds : List ℕ). unspelled (37 ∷ ds ++ rest)) digits
    ∙ ap (λ (ds : List ℕ). with_byte (result_ok (decode_sized ds 1)) (unspelled rest)) (sym digits)
    ∙ ap (λ (r : Result (List ℕ) FromHexError). with_byte (result_ok r) (unspelled rest)) read
  where
    alone : (byte : ℕ) → byte < 256 → IsBytes (byte ∷ [])
    alone byte small zero = small
    alone byte small (suc i) = omega arith

plain-no_percent : (byte : ℕ) → is_plain byte ≡ true → (byte == 37) ≡ false
plain-no_percent byte plain = grind arith

unspelled-flat_map : (text : List ℕ) → IsBytes text → unspelled (flat_map spelled_byte text) ≡ Some text
unspelled-flat_map [] bytes = refl
unspelled-flat_map (byte ∷ rest) bytes = by_test (is_plain byte) refl (unspelled-flat_map rest (λ i. bytes (suc i)))
  where
    by_test : (b : Bool) → is_plain byte ≡ b → unspelled (flat_map spelled_byte rest) ≡ Some rest
        → unspelled (cond b (byte ∷ []) (37 ∷ encode_upper (byte ∷ [])) ++ flat_map spelled_byte rest) ≡ Some (byte ∷ rest)
    by_test true plain so_far = unspelled-plain byte (flat_map spelled_byte rest) (plain-no_percent byte plain) ∙ ap (with_byte (Some (byte ∷ []))) so_far
    by_test false other so_far = unspelled-escaped byte (flat_map spelled_byte rest) (bytes 0) ∙ ap (with_byte (Some (byte ∷ []))) so_far

-- the spelling of a text that is not `-`
no_dash : (text : List ℕ) → IsBytes text → bytes_eq text (codes "-") ≡ false → bytes_eq (flat_map spelled_byte text) (codes "-") ≡ false
no_dash text bytes other =
    elim (cases_Bool (bytes_eq (flat_map spelled_byte text) (codes "-"))) [
      | inl same ↦
          let is : flat_map spelled_byte text ≡ codes "-" = (bytes_eq-Decides (flat_map spelled_byte text) (codes "-")).0 same in
          let e : Some text ≡ Some (codes "-") = sym (unspelled-flat_map text bytes) ∙ ap unspelled is in
          let dash : text ≡ codes "-" = cc e in
          absurd (false≢true (sym other ∙ (bytes_eq-Decides text (codes "-")).1 dash))
      | inr differs ↦ differs
    ]

-- a spelling that gives the text and is not `-`
abbrev Unspells : List ℕ → List ℕ → Type 0
Unspells text field = (unspelled field ≡ Some text) × (bytes_eq field (codes "-") ≡ false)

dash_spelled : Unspells (codes "-") (codes "%2D")
dash_spelled = (ap (λ (ds : List ℕ). unspelled (37 ∷ ds ++ [])) (sym (escaped 45)) ∙ unspelled-escaped 45 [] (omega arith), refl)

unspells : (byte : ℕ) (rest : List ℕ) → IsBytes (byte ∷ rest) → Unspells (byte ∷ rest) (spelled (byte ∷ rest))
unspells byte rest bytes = by_test (bytes_eq (byte ∷ rest) (codes "-")) refl
  where
    by_test : (b : Bool) → bytes_eq (byte ∷ rest) (codes "-") ≡ b → Unspells (byte ∷ rest) (cond b (codes "%2D") (flat_map spelled_byte (byte ∷ rest)))
    by_test true dash =
        let P : List ℕ → Type 0 = λ text. Unspells text (codes "%2D") in subst P (sym ((bytes_eq-Decides (byte ∷ rest) (codes "-")).0 dash)) dash_spelled
    by_test false other = (unspelled-flat_map (byte ∷ rest) bytes, no_dash (byte ∷ rest) bytes other)

pub text_up_to-spelled : (most : ℕ) (text : List ℕ) → length text ≤ most → list_any (λ byte. byte == 0) text ≡ false → IsBytes text → text_up_to most (spelled text) ≡ Some text
text_up_to-spelled most [] short free bytes = refl
text_up_to-spelled most (byte ∷ rest) short free bytes =
    let text = byte ∷ rest in
    let field = spelled text in
    let unspelt = unspells byte rest bytes in
    cond-false (bytes_eq field (codes "-")) (Some []) (if_text most field (unspelled field)) unspelt.1
    ∙ ap (if_text most field) unspelt.0
    ∙ if_text-is most field text ((bytes_eq-Decides field field).1 refl) short free

-- ---- texts that spell themselves

plain-no_nul : (byte : ℕ) → is_plain byte ≡ true → (byte == 0) ≡ false
plain-no_nul byte plain = grind arith

spelled-plain : (text : List ℕ) → list_all is_plain text ≡ true → flat_map spelled_byte text ≡ text
spelled-plain [] all = refl
spelled-plain (byte ∷ rest) all =
    let parts = and_parts (is_plain byte) (list_all is_plain rest) all in
    ap (λ (bytes : List ℕ). bytes ++ flat_map spelled_byte rest) (cond-true (is_plain byte) (byte ∷ []) (37 ∷ encode_upper (byte ∷ [])) parts.0)
    ∙ ap (λ (bytes : List ℕ). byte ∷ bytes) (spelled-plain rest parts.1)

unspelled-all_plain : (text : List ℕ) → list_all is_plain text ≡ true → unspelled text ≡ Some text
unspelled-all_plain [] all = refl
unspelled-all_plain (byte ∷ rest) all =
    let parts = and_parts (is_plain byte) (list_all is_plain rest) all in
    unspelled-plain byte rest (plain-no_percent byte parts.0) ∙ ap (with_byte (Some (byte ∷ []))) (unspelled-all_plain rest parts.1)

plain-free : (text : List ℕ) → list_all is_plain text ≡ true → list_any (λ byte. byte == 0) text ≡ false
plain-free [] all = refl
plain-free (byte ∷ rest) all =
    let parts = and_parts (is_plain byte) (list_all is_plain rest) all in
    ap (λ (b : Bool). b || list_any (λ byte. byte == 0) rest) (plain-no_nul byte parts.0) ∙ plain-free rest parts.1

pub itself_free : (field : List ℕ) → (not (length field == 0) && list_all is_plain field) ≡ true → list_any (λ byte. byte == 0) field ≡ false
itself_free field all = plain-free field (and_parts (not (length field == 0)) (list_all is_plain field) all).1

pub text_up_to_itself : (most : ℕ) (field : List ℕ) → bytes_eq field (codes "-") ≡ false → (not (length field == 0) && list_all is_plain field) ≡ true → length field ≤ most
    → text_up_to most field ≡ Some field
text_up_to_itself most [] other all short = absurd (false≢true all)
text_up_to_itself most (byte ∷ rest) other all short =
    let text = byte ∷ rest in
    let plain = (and_parts (not (length text == 0)) (list_all is_plain text) all).1 in
    let same : spelled text ≡ text = cond-false (bytes_eq text (codes "-")) (codes "%2D") (flat_map spelled_byte text) other ∙ spelled-plain text plain in
    cond-false (bytes_eq text (codes "-")) (Some []) (if_text most text (unspelled text)) other
    ∙ ap (if_text most text) (unspelled-all_plain text plain)
    ∙ if_text-is most text text ((bytes_eq-Decides (spelled text) text).1 same) short (plain-free text plain)

pub some_text : (text : Option (List ℕ)) → is_some text ≡ true → Some (unwrap_or text []) ≡ text
some_text None is = absurd (false≢true is)
some_text (Some bytes) is = refl

pub no_text : (text : Option (List ℕ)) → is_some text ≡ false → None ≡ text
no_text None is = refl
no_text (Some bytes) is = absurd (false≢true (sym is))

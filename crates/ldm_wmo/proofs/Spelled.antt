-- What is spelled as a bulletin is read as one.
use Rattle.std.proofs.Common.{◌≡◌, ℕ, suc, ◌+◌, ◌-◌, ◌==◌, ◌||◌, ◌&&◌, Bool, true, false, not, List, [], ◌∷◌, ◌++◌, length, take, drop, Some, refl, sym, ap, ◌∙◌, zero-add, arith, inl, inr}
use Rattle.std.specs.Prelude.{nat_le}
use Rattle.std.specs.List.{list_all, prefix_len}
use Rattle.std.proofs.lemmas.Bool.{both_ways, cases_Bool, cases_eq, eqb-true, le-leb, ne_eqb}
use Rattle.std.proofs.lemmas.List.{drop_at, length-append, take_at}
use Rattle.std.proofs.lemmas.List.Folds.{list_all-append}
use Rattle.ldm_text.specs.Blanks.{is_blank}
use Rattle.ldm_wmo.specs.Headings.{fits, is_digit, is_heading, is_letter, long_form, short_form, stands_for}
use Rattle.ldm_wmo.specs.Lines.{behind, end_of_line, heading_in, line_length, line_of, number_in, number_of, rest_of}
use Rattle.ldm_wmo.specs.Bulletins.{bulletin_of, closing, is_closed_text, is_text_of}
use Rattle.ldm_wmo.specs.declared.kind.Kind.{Kind}
use Rattle.ldm_wmo.specs.Spelling.{AreParts, IsBulletin, Parts, heading_spelling, spelling, text_spelling}
use Rattle.ldm_wmo.proofs.BulletinLemmas.{begun, closed, numbered}
use Rattle.ldm_wmo.proofs.WriteLemmas.{fits_length}

pub and_both : (a b : Bool) → a ≡ true → b ≡ true → (a && b) ≡ true
and_both a b a_is b_is = rw (a_is, b_is) refl

pub and_parts : (a b : Bool) → (a && b) ≡ true → (a ≡ true) × (b ≡ true)
and_parts true b h = (refl, h)
and_parts false b h = absurd cc

and_false : (a : Bool) → (a && false) ≡ false
and_false true = refl
and_false false = refl

pub all_imply : (p q : ℕ → Bool) → ((b : ℕ) → p b ≡ true → q b ≡ true) → (xs : List ℕ) → list_all p xs ≡ true → list_all q xs ≡ true
all_imply p q so [] all = refl
all_imply p q so (x ∷ xs) all =
    let parts = and_parts (p x) (list_all p xs) all in
    and_both (q x) (list_all q xs) (so x parts.0) (all_imply p q so xs parts.1)

-- ---- bytes that stand in no line

-- a byte that is none of a class is none that another byte of the class is
pub never : (x : ℕ) (p : ℕ → Bool) → p x ≡ false → (b : ℕ) → p b ≡ true → not (b == x) ≡ true
never x p other b is = elim (cases_eq b x) [
  | inl same ↦ absurd (both_ways (p x) other (ap p (sym same) ∙ is))
  | inr ne ↦ rw (ne_eqb b x ne) refl
]

-- a byte that stands in no heading
pub record IsOther (x : ℕ) : Type 0 where
  pub letter : is_letter x ≡ false
  pub digit : is_digit x ≡ false
  pub space : (x == 32) ≡ false
  pub blank : is_blank x ≡ false

pub return_is : IsOther 13
return_is = record { letter = refl; digit = refl; space = refl; blank = refl }

pub start_is : IsOther 1
start_is = record { letter = refl; digit = refl; space = refl; blank = refl }

pub end_is : IsOther 3
end_is = record { letter = refl; digit = refl; space = refl; blank = refl }

never_stands : (x : ℕ) → IsOther x → (symbol : ℕ) → stands_for symbol x ≡ false
never_stands x other symbol = elim (cases_Bool (symbol == 84 || symbol == 65 || symbol == 66)) [
  | inl letter ↦ rw (letter, other.letter) refl
  | inr not_letter ↦ elim (cases_Bool (symbol == 67)) [
    | inl either ↦ rw (not_letter, either, other.letter, other.digit) refl
    | inr not_either ↦ elim (cases_Bool (symbol == 32)) [
      | inl space ↦ rw (not_letter, not_either, space, other.space) refl
      | inr not_space ↦ rw (not_letter, not_either, not_space, other.digit) refl
    ]
  ]
]

fits_without : (x : ℕ) → IsOther x → (form bytes : List ℕ) → fits form bytes ≡ true → list_all (λ b. not (b == x)) bytes ≡ true
unfolding fits
fits_without x other [] [] fit = refl
fits_without x other [] (byte ∷ bytes) fit = absurd cc
fits_without x other (symbol ∷ form) [] fit = absurd cc
fits_without x other (symbol ∷ form) (byte ∷ bytes) fit =
    let parts = and_parts (stands_for symbol byte) (fits form bytes) fit in
    and_both (not (byte == x)) (list_all (λ b. not (b == x)) bytes) (never x (stands_for symbol) (never_stands x other symbol) byte parts.0) (fits_without x other form bytes parts.1)

pub heading_without : (x : ℕ) → IsOther x → (heading : List ℕ) → is_heading heading ≡ true → list_all (λ b. not (b == x)) heading ≡ true
heading_without x other heading is = elim (cases_Bool (fits short_form heading)) [
  | inl short ↦ fits_without x other short_form heading short
  | inr long ↦ fits_without x other long_form heading (rw long at is)
]

pub digits_without : (x : ℕ) → IsOther x → (digits : List ℕ) → list_all is_digit digits ≡ true → list_all (λ b. not (b == x)) digits ≡ true
digits_without x other digits are = all_imply is_digit (λ b. not (b == x)) (never x is_digit other.digit) digits are

pub blanks_without : (x : ℕ) → IsOther x → (blanks : List ℕ) → list_all is_blank blanks ≡ true → list_all (λ b. not (b == x)) blanks ≡ true
blanks_without x other blanks are = all_imply is_blank (λ b. not (b == x)) (never x is_blank other.blank) blanks are

-- ---- lines

abbrev pub no_return : List ℕ → Bool
no_return line = list_all (λ b. not (b == 13)) line

pub length_is : (line rest : List ℕ) → no_return line ≡ true → line_length (line ++ 13 ∷ rest) ≡ length line
length_is [] rest none = refl
length_is (byte ∷ line) rest none =
    let parts = and_parts (not (byte == 13)) (no_return line) none in
    rw parts.0 (ap (λ n. 1 + n) (length_is line rest parts.1) ∙ omega arith)

pub line_is : (line rest : List ℕ) → no_return line ≡ true → line ≡ line_of (line ++ (end_of_line ++ rest))
line_is line rest none =
    sym (ap (λ n. take n (line ++ (end_of_line ++ rest))) (length_is line (13 ∷ 10 ∷ rest) none) ∙ take_at line (end_of_line ++ rest) (length line) refl)

pub rest_is : (line rest : List ℕ) → no_return line ≡ true → rest_of (line ++ (end_of_line ++ rest)) ≡ Some rest
rest_is line rest none =
    let there : drop (line_length (line ++ (end_of_line ++ rest))) (line ++ (end_of_line ++ rest)) ≡ end_of_line ++ rest =
    ap (λ n. drop n (line ++ (end_of_line ++ rest))) (length_is line (13 ∷ 10 ∷ rest) none) ∙ drop_at line (end_of_line ++ rest) (length line) refl in
    ap (behind end_of_line) there

line_without : (a b : List ℕ) → no_return a ≡ true → no_return b ≡ true → no_return (a ++ b) ≡ true
line_without a b a_is b_is = list_all-append (λ (x : ℕ). not (x == 13)) a b ∙ and_both (no_return a) (no_return b) a_is b_is

-- ---- the number

-- a blank is a 32 or a 9
blank_cases : (p : ℕ → Bool) → p 32 ≡ false → p 9 ≡ false → (b : ℕ) → is_blank b ≡ true → p b ≡ false
blank_cases p space tab b is = elim (cases_eq b 32) [
  | inl at ↦ ap p at ∙ space
  | inr other ↦
      let left : (b == 9) ≡ true = rw (ne_eqb b 32 other) at is in
      ap p (eqb-true b 9 left) ∙ tab
]

blank_no_digit : (b : ℕ) → is_blank b ≡ true → is_digit b ≡ false
blank_no_digit = blank_cases is_digit refl refl

blank_no_letter : (b : ℕ) → is_blank b ≡ true → is_letter b ≡ false
blank_no_letter = blank_cases is_letter refl refl

prefix_none : (blanks : List ℕ) → list_all is_blank blanks ≡ true → prefix_len is_digit blanks ≡ 0
prefix_none [] are = refl
prefix_none (b ∷ blanks) are =
    let parts = and_parts (is_blank b) (list_all is_blank blanks) are in
    let other : is_digit b ≡ false = blank_no_digit b parts.0 in
    rw other refl

prefix_is : (digits blanks : List ℕ) → list_all is_digit digits ≡ true → list_all is_blank blanks ≡ true → prefix_len is_digit (digits ++ blanks) ≡ length digits
prefix_is [] blanks are none = prefix_none blanks none
prefix_is (d ∷ digits) blanks are none =
    let parts = and_parts (is_digit d) (list_all is_digit digits) are in
    rw parts.0 (ap (λ n. 1 + n) (prefix_is digits blanks parts.1 none) ∙ omega arith)

pub number_is : (kind : Kind) (p : Parts) → AreParts kind p → Some (number_of p.digits) ≡ number_in (p.digits ++ p.behind_digits)
unfolding number_in
number_is kind p are =
    let line = p.digits ++ p.behind_digits in
    let count = prefix_is p.digits p.behind_digits are.digits are.behind_digits in
    let front : take (length p.digits) line ≡ p.digits = take_at p.digits p.behind_digits (length p.digits) refl in
    let back : drop (length p.digits) line ≡ p.behind_digits = drop_at p.digits p.behind_digits (length p.digits) refl in
    let some : nat_le 1 (length p.digits) ≡ true = le-leb 1 (length p.digits) are.some_digit in
    let few : nat_le (length p.digits) 5 ≡ true = le-leb (length p.digits) 5 are.few_digits in
    sym (rw (count, some, few, back, are.behind_digits, front) refl)

-- ---- the heading

fits_split : (form bytes more rest : List ℕ) → length form ≡ length bytes → fits (form ++ more) (bytes ++ rest) ≡ (fits form bytes && fits more rest)
unfolding fits
fits_split [] [] more rest same = refl
fits_split [] (byte ∷ bytes) more rest same = absurd (omega arith)
fits_split (symbol ∷ form) [] more rest same = absurd (omega arith)
fits_split (symbol ∷ form) (byte ∷ bytes) more rest same =
    elim (cases_Bool (stands_for symbol byte)) [
      | inl is ↦ rw is (fits_split form bytes more rest (omega arith))
      | inr other ↦ rw other refl
    ]

-- no blanks are an indicator
no_indicator : (blanks : List ℕ) → list_all is_blank blanks ≡ true → fits (32 ∷ 66 ∷ 66 ∷ 66 ∷ []) (take 4 blanks) ≡ false
unfolding fits
no_indicator [] are = refl
no_indicator (a ∷ []) are = and_false (a == 32)
no_indicator (a ∷ b ∷ blanks) are =
    let first = and_parts (is_blank a) (is_blank b && list_all is_blank blanks) are in
    let second = and_parts (is_blank b) (list_all is_blank blanks) first.1 in
    let other : is_letter b ≡ false = blank_no_letter b second.0 in
    rw other (and_false (a == 32))

take_more_of : (xs ys : List ℕ) (n m : ℕ) → length xs ≡ n → take (n + m) (xs ++ ys) ≡ xs ++ take m ys
take_more_of [] ys n m len = ap (λ k. take (k + m) ys) (sym len) ∙ ap (λ k. take k ys) (zero-add m)
take_more_of (x ∷ xs) ys n m len =
    let count : n + m ≡ suc (length xs + m) = omega arith in
    ap (λ k. take k (x ∷ (xs ++ ys))) count ∙ ap (λ (r : List ℕ). x ∷ r) (take_more_of xs ys (length xs) m refl)

pub heading_line_is : (heading blanks : List ℕ) → is_heading heading ≡ true → list_all is_blank blanks ≡ true → heading_in (heading ++ blanks) ≡ Some heading
unfolding heading_in
heading_line_is heading blanks is are = elim (cases_Bool (fits short_form heading)) [
  | inl short ↦
      let len : length heading ≡ 18 = fits_length short_form heading short in
      let front : take 18 (heading ++ blanks) ≡ heading = take_at heading blanks 18 len in
      let back : drop 18 (heading ++ blanks) ≡ blanks = drop_at heading blanks 18 len in
      let longer : take 22 (heading ++ blanks) ≡ heading ++ take 4 blanks = take_more_of heading blanks 18 4 len in
      let split : fits long_form (heading ++ take 4 blanks) ≡ (fits short_form heading && fits (32 ∷ 66 ∷ 66 ∷ 66 ∷ []) (take 4 blanks)) =
      fits_split short_form heading (32 ∷ 66 ∷ 66 ∷ 66 ∷ []) (take 4 blanks) (sym len) in
      let other : fits long_form (take 22 (heading ++ blanks)) ≡ false = rw longer (split ∙ rw (short, no_indicator blanks are) refl) in
      rw (other, front, back, short, are) refl
  | inr other ↦
      let long : fits long_form heading ≡ true = rw other at is in
      let len : length heading ≡ 22 = fits_length long_form heading long in
      let front : take 22 (heading ++ blanks) ≡ heading = take_at heading blanks 22 len in
      let back : drop 22 (heading ++ blanks) ≡ blanks = drop_at heading blanks 22 len in
      rw (front, back, long, are) refl
]

-- ---- the text

pub text_closed : (kind : Kind) (text : List ℕ) → is_text_of kind text ≡ true → is_closed_text kind (text ++ closing) ≡ true
unfolding is_closed_text
text_closed kind text none =
    let len : length (text ++ closing) - 4 ≡ length text = (let all = length-append text closing in omega arith) in
    let front : take (length text) (text ++ closing) ≡ text = take_at text closing (length text) refl in
    let back : drop (length text) (text ++ closing) ≡ closing = drop_at text closing (length text) refl in
    rw (len, front, back, none) refl

-- ---- all of it

pub spelled : (kind : Kind) (p : Parts) → AreParts kind p → bulletin_of kind (spelling p) ≡ Some (record { seqno = number_of p.digits; heading = p.heading })
spelled kind p are =
    let first = p.digits ++ p.behind_digits in
    let second = p.heading ++ p.behind_heading in
    let first_none = line_without p.digits p.behind_digits (digits_without 13 return_is p.digits are.digits) (blanks_without 13 return_is p.behind_digits are.behind_digits) in
    let second_none = line_without p.heading p.behind_heading (heading_without 13 return_is p.heading are.heading) (blanks_without 13 return_is p.behind_heading are.behind_heading) in
    let rest = first ++ (end_of_line ++ heading_spelling p) in
    begun kind (spelling p) rest refl
    ∙ numbered kind rest first (heading_spelling p) (number_of p.digits) (rest_is first (heading_spelling p) first_none) (line_is first (heading_spelling p) first_none) (number_is kind p are)
    ∙ closed kind (heading_spelling p) second (text_spelling p) p.heading (number_of p.digits) (rest_is second (text_spelling p) second_none) (line_is second (text_spelling p) second_none)
    (heading_line_is p.heading p.behind_heading are.heading are.behind_heading) (text_closed kind p.text are.text)

pub bulletin_read : (kind : Kind) (bytes : List ℕ) (seqno : ℕ) (heading : List ℕ) → IsBulletin kind bytes seqno heading → bulletin_of kind bytes ≡ Some (record { seqno = seqno; heading = heading })
bulletin_read kind bytes seqno heading is =
    ap (bulletin_of kind) is.bytes_are ∙ spelled kind is.parts is.are ∙ rw (is.seqno_is, is.heading_is) refl

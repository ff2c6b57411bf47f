-- A written bulletin is found as itself.
use Rattle.std.proofs.Common.{◌≡◌, ℕ, ◌+◌, ◌/◌, ◌%◌, ◌^◌, ◌<◌, ◌≤◌, ◌==◌, Bool, true, false, not, List, [], ◌∷◌, ◌++◌, length, Option, Some, None, refl, sym, ap, ◌∙◌, append_assoc, arith, inl, inr}
use Rattle.std.specs.Prelude.{nat_le, nat_lt, if◌then◌else◌}
use Rattle.std.specs.List.{list_all}
use Rattle.std.proofs.lemmas.Bool.{cases_Bool, le-leb, ltb-false, ltb-true}
use Rattle.std.proofs.lemmas.List.{append-nil, length-append}
use Rattle.std.proofs.lemmas.List.Folds.{list_all-append}
use Rattle.ldm_wmo.specs.declared.fault.WriteFault.{WriteFault}
use Rattle.ldm_wmo.specs.declared.fault.WriteFault.TheVariants.{Seqno, Heading, Text, Long}
use Rattle.ldm_wmo.specs.declared.stage.TheConstants.{LARGEST_BULLETIN}
use Rattle.ldm_wmo.specs.declared.write.TheConstants.{LARGEST_SEQNO}
use Rattle.ldm_wmo.specs.Headings.{is_digit, is_heading}
use Rattle.ldm_wmo.specs.Lines.{end_of_line, number_from, number_of}
use Rattle.ldm_wmo.specs.declared.kind.Kind.TheVariants.{Alphanumeric}
use Rattle.ldm_wmo.specs.Bulletins.{bulletin_of, has_no_mark, is_mark, starting}
use Rattle.ldm_wmo.specs.Items.{Found, Bulletin, found_as, found_at}
use Rattle.ldm_wmo.specs.Scanning.{outside, place}
use Rattle.ldm_wmo.specs.Spelling.{AreParts, heading_spelling, text_spelling}
use Rattle.ldm_wmo.specs.Streams.{items_in}
use Rattle.ldm_wmo.specs.Writing.{digit, digits_of, fault_of, parts_of, written, written_so}
use Rattle.ldm_wmo.proofs.Candidates.{closed_run, items_behind}
use Rattle.ldm_wmo.proofs.Spelled.{and_both, and_parts, digits_without, end_is, heading_without, spelled, start_is}

-- ---- the digits

pub record DigitsAre (n : ℕ) (digits : List ℕ) : Type 0 where
  pub some : 0 < length digits
  pub few : length digits ≤ 5
  pub are : list_all is_digit digits ≡ true
  pub number : number_of digits ≡ n

digit_is : (unit n : ℕ) → is_digit (digit unit n) ≡ true
digit_is unit n =
    let small : n / unit % 10 < 10 = omega arith in
    and_both (nat_le 48 (digit unit n)) (nat_le (digit unit n) 57) (le-leb 48 (digit unit n) (omega arith)) (le-leb (digit unit n) 57 (omega arith))

three : (n : ℕ) → n < 1000 → DigitsAre n (digit 100 n ∷ digit 10 n ∷ digit 1 n ∷ [])
unfolding number_from
three n lt = record {
  some = omega arith;
  few = omega arith;
  are = rw (digit_is 100 n, digit_is 10 n, digit_is 1 n) refl;
  number = omega arith;
}

four : (n : ℕ) → n < 10000 → DigitsAre n (digit 1000 n ∷ digit 100 n ∷ digit 10 n ∷ digit 1 n ∷ [])
unfolding number_from
four n lt = record {
  some = omega arith;
  few = omega arith;
  are = rw (digit_is 1000 n, digit_is 100 n, digit_is 10 n, digit_is 1 n) refl;
  number = omega arith;
}

five : (n : ℕ) → n < 100000 → DigitsAre n (digit 10000 n ∷ digit 1000 n ∷ digit 100 n ∷ digit 10 n ∷ digit 1 n ∷ [])
unfolding number_from
five n lt = record {
  some = omega arith;
  few = omega arith;
  are = rw (digit_is 10000 n, digit_is 1000 n, digit_is 100 n, digit_is 10 n, digit_is 1 n) refl;
  number = omega arith;
}

pub digits_are : (n : ℕ) → n ≤ 99999 → DigitsAre n (digits_of n)
digits_are n small = elim (cases_Bool (nat_lt n 1000)) [
  | inl lt ↦ rw lt (three n (ltb-true n 1000 lt))
  | inr not_three ↦ elim (cases_Bool (nat_lt n 10000)) [
    | inl lt ↦ rw (not_three, lt) (four n (ltb-true n 10000 lt))
    | inr not_four ↦ rw (not_three, not_four) (five n (omega arith))
  ]
]

-- ---- no fault

none_from : (b : Bool) (fault : WriteFault) (other : Option WriteFault) → (if b then Some fault else other) ≡ None → (b ≡ false) × (other ≡ None)
none_from true fault other is = absurd cc
none_from false fault other is = (refl, is)

not_not : (b : Bool) → not b ≡ false → b ≡ true
not_not true h = refl
not_not false h = absurd cc

pub record IsSound (seqno : ℕ) (heading text : List ℕ) : Type 0 where
  pub small : seqno ≤ LARGEST_SEQNO
  pub heading_is : is_heading heading ≡ true
  pub text_is : has_no_mark text ≡ true
  pub short : length (written seqno heading text) ≤ LARGEST_BULLETIN

pub sound : (seqno : ℕ) (heading text : List ℕ) → fault_of seqno heading text ≡ None → IsSound seqno heading text
sound seqno heading text is =
    let a = none_from (nat_lt LARGEST_SEQNO seqno) Seqno _ is in
    let b = none_from (not (is_heading heading)) Heading _ a.1 in
    let c = none_from (not (has_no_mark text)) Text _ b.1 in
    let d = none_from (nat_lt LARGEST_BULLETIN (length (written seqno heading text))) Long None c.1 in
    record {
      small = ltb-false LARGEST_SEQNO seqno a.0;
      heading_is = not_not (is_heading heading) b.0;
      text_is = not_not (has_no_mark text) c.0;
      short = ltb-false LARGEST_BULLETIN (length (written seqno heading text)) d.0;
    }

-- ---- no marks but the first and the last byte

is_not : (b : Bool) → not b ≡ true → b ≡ true → ⊥
is_not true h is = cc
is_not false h is = cc

no_mark_byte : (b : ℕ) → not (b == 1) ≡ true → not (b == 3) ≡ true → not (is_mark b) ≡ true
no_mark_byte b one three_is = elim (cases_Bool (b == 1)) [
  | inl is ↦ absurd (is_not (b == 1) one is)
  | inr isnt ↦ rw isnt three_is
]

no_marks : (xs : List ℕ) → list_all (λ b. not (b == 1)) xs ≡ true → list_all (λ b. not (b == 3)) xs ≡ true → has_no_mark xs ≡ true
no_marks [] one three_is = refl
no_marks (x ∷ xs) one three_is =
    let a = and_parts (not (x == 1)) (list_all (λ b. not (b == 1)) xs) one in
    let b = and_parts (not (x == 3)) (list_all (λ b. not (b == 3)) xs) three_is in
    and_both (not (is_mark x)) (has_no_mark xs) (no_mark_byte x a.0 b.0) (no_marks xs a.1 b.1)

pub joined_none : (a b : List ℕ) → has_no_mark a ≡ true → has_no_mark b ≡ true → has_no_mark (a ++ b) ≡ true
joined_none a b a_none b_none = list_all-append (λ (x : ℕ). not (is_mark x)) a b ∙ and_both (has_no_mark a) (has_no_mark b) a_none b_none

-- what stands between the first byte and the last
abbrev pub text_body : List ℕ → List ℕ
text_body text = text ++ end_of_line

abbrev pub heading_body : List ℕ → List ℕ → List ℕ
heading_body heading text = (heading ++ []) ++ (end_of_line ++ text_body text)

abbrev pub body : List ℕ → List ℕ → List ℕ → List ℕ
body digits heading text = end_of_line ++ ((digits ++ []) ++ (end_of_line ++ heading_body heading text))

body_is : (digits heading text : List ℕ) → 1 ∷ (body digits heading text ++ 3 ∷ []) ≡ written_so digits heading text
body_is digits heading text =
    let last : text_body text ++ 3 ∷ [] ≡ text_spelling (parts_of digits heading text) = append_assoc text end_of_line (3 ∷ []) in
    let second : heading_body heading text ++ 3 ∷ [] ≡ heading_spelling (parts_of digits heading text) =
    append_assoc (heading ++ []) (end_of_line ++ text_body text) (3 ∷ []) ∙ ap (λ (x : List ℕ). (heading ++ []) ++ (end_of_line ++ x)) last in
    let first : ((digits ++ []) ++ (end_of_line ++ heading_body heading text)) ++ 3 ∷ [] ≡ (digits ++ []) ++ (end_of_line ++ heading_spelling (parts_of digits heading text)) =
    append_assoc (digits ++ []) (end_of_line ++ heading_body heading text) (3 ∷ []) ∙ ap (λ (x : List ℕ). (digits ++ []) ++ (end_of_line ++ x)) second in
    ap (λ (x : List ℕ). starting ++ x) first

body_none : (digits heading text : List ℕ) → list_all is_digit digits ≡ true → is_heading heading ≡ true → has_no_mark text ≡ true → has_no_mark (body digits heading text) ≡ true
body_none digits heading text digits_are_so heading_is text_none =
    let number : has_no_mark (digits ++ []) ≡ true =
    ap has_no_mark (append-nil digits) ∙ no_marks digits (digits_without 1 start_is digits digits_are_so) (digits_without 3 end_is digits digits_are_so) in
    let there : has_no_mark (heading ++ []) ≡ true =
    ap has_no_mark (append-nil heading) ∙ no_marks heading (heading_without 1 start_is heading heading_is) (heading_without 3 end_is heading heading_is) in
    let last = joined_none text end_of_line text_none refl in
    let second = joined_none (heading ++ []) (end_of_line ++ text_body text) there last in
    joined_none (digits ++ []) (end_of_line ++ heading_body heading text) number second

-- ---- the item

bulletin_is : (seqno : ℕ) (heading text : List ℕ) → IsSound seqno heading text → bulletin_of Alphanumeric (written seqno heading text) ≡ Some (record { seqno = seqno; heading = heading })
bulletin_is seqno heading text is =
    let digits = digits_are seqno is.small in
    let are : AreParts Alphanumeric (parts_of (digits_of seqno) heading text) = record {
      some_digit = digits.some;
      few_digits = digits.few;
      digits = digits.are;
      behind_digits = refl;
      heading = is.heading_is;
      behind_heading = refl;
      text = is.text_is;
    } in
    spelled Alphanumeric (parts_of (digits_of seqno) heading text) are ∙ rw digits.number refl

pub written_found : (at seqno : ℕ) (heading text rest : List ℕ) → at < 2 ^ 64 → fault_of seqno heading text ≡ None
    → items_in (outside at) (written seqno heading text ++ rest)
    ≡ Bulletin at seqno heading (written seqno heading text) ∷ items_in (outside (place (at + length (written seqno heading text)))) rest
written_found at seqno heading text rest small no_fault =
    let is = sound seqno heading text no_fault in
    let digits = digits_are seqno is.small in
    let inner = body (digits_of seqno) heading text in
    let whole : 1 ∷ (inner ++ 3 ∷ []) ≡ written seqno heading text = body_is (digits_of seqno) heading text in
    let none = body_none (digits_of seqno) heading text digits.are is.heading_is is.text_is in
    let inner_len = length-append inner (3 ∷ []) in
    let whole_len : length (1 ∷ (inner ++ 3 ∷ [])) ≡ 2 + length inner = omega (arith, inner_len) in
    let count : length (written seqno heading text) ≡ 2 + length inner = sym (ap length whole) ∙ whole_len in
    let short = is.short in
    let goes = closed_run at inner rest small none (omega (arith, count, short)) in
    let found = items_behind at (place (at + (2 + length inner))) (1 ∷ (inner ++ 3 ∷ [])) rest goes in
    let item : found_at at (written seqno heading text) ≡ Bulletin at seqno heading (written seqno heading text) =
    ap (found_as at (written seqno heading text)) (bulletin_is seqno heading text is) in
    ap (λ (x : List ℕ). items_in (outside at) (x ++ rest)) (sym whole) ∙ found
    ∙ ap (λ (x : List ℕ). found_at at x ∷ items_in (outside (place (at + (2 + length inner)))) rest) whole
    ∙ ap (λ n. found_at at (written seqno heading text) ∷ items_in (outside (place (at + n))) rest) (sym count)
    ∙ ap (λ (x : Found). x ∷ items_in (outside (place (at + length (written seqno heading text)))) rest) item

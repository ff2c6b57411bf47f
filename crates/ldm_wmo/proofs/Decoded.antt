-- What is read as a bulletin is spelled as one.
use Rattle.std.proofs.Common.{◌≡◌, ℕ, suc, ◌-◌, ◌<◌, ◌≤◌, ◌&&◌, ◌||◌, Bool, true, false, List, [], ◌∷◌, ◌++◌, length, take, drop, Option, Some, None, refl, sym, ap, ◌∙◌, arith, inl, inr}
use Rattle.std.specs.Prelude.{nat_eq, nat_le, if◌then◌else◌}
use Rattle.std.specs.List.{list_all, prefix_len}
use Rattle.std.specs.Option.{option_and_then}
use Rattle.std.specs.Str.{bytes_eq}
use Rattle.std.proofs.lemmas.Bool.{cases_Bool, eqb-true, leb-true}
use Rattle.std.proofs.lemmas.List.{length-take-le, take-append-drop}
use Rattle.std.proofs.lemmas.List.Sums.{prefix_len-le-length}
use Rattle.ldm_text.specs.Blanks.{is_blank}
use Rattle.ldm_wmo.specs.declared.kind.Kind.{Kind}
use Rattle.ldm_wmo.specs.Headings.{fits, is_digit, is_heading, long_form, short_form}
use Rattle.ldm_wmo.specs.Lines.{begins_so, behind, end_of_line, heading_in, is_numbered, line_length, line_of, number_in, number_of, rest_of}
use Rattle.ldm_wmo.specs.Bulletins.{Reading, begun_bulletin, bulletin_of, closing, is_closed_text, is_text_of, starting, with_number}
use Rattle.ldm_wmo.specs.Spelling.{IsBulletin, Parts, heading_spelling, text_spelling}
use Rattle.ldm_wmo.proofs.Spelled.{and_parts}

pub some_is : {X : Type 0} (x y : X) → Some x ≡ Some y → x ≡ y
some_is x y is = cc

-- what a step that gave something stood on
record Step (A B : Type 0) (f : A → Option B) (o : Option A) (y : B) : Type 0 where
  from : A
  is : o ≡ Some from
  to : f from ≡ Some y

step_of : {A B : Type 0} (f : A → Option B) (o : Option A) (y : B) → option_and_then f o ≡ Some y → Step A B f o y
step_of f None y is = absurd cc
step_of f (Some x) y is = record { from = x; is = refl; to = is }

-- a test that gave something
pub if_some : {X : Type 0} (b : Bool) (x y : X) → (if b then Some x else None) ≡ Some y → (b ≡ true) × (x ≡ y)
if_some true x y is = (refl, some_is x y is)
if_some false x y is = absurd cc

pub bytes_are : (xs ys : List ℕ) → bytes_eq xs ys ≡ true → xs ≡ ys
bytes_are [] [] is = refl
bytes_are [] (y ∷ ys) is = absurd cc
bytes_are (x ∷ xs) [] is = absurd cc
bytes_are (x ∷ xs) (y ∷ ys) is =
    let parts = and_parts (nat_eq x y) (bytes_eq xs ys) is in
    ap (λ k. k ∷ xs) (eqb-true x y parts.0) ∙ ap (λ (r : List ℕ). y ∷ r) (bytes_are xs ys parts.1)

behind_is : (front bytes rest : List ℕ) → behind front bytes ≡ Some rest → bytes ≡ front ++ rest
behind_is front bytes rest is =
    let parts = if_some (bytes_eq (take (length front) bytes) front) (drop (length front) bytes) rest is in
    sym (take-append-drop (length front) bytes) ∙ ap (λ (x : List ℕ). x ++ drop (length front) bytes) (bytes_are (take (length front) bytes) front parts.0)
    ∙ ap (λ (x : List ℕ). front ++ x) parts.1

line_then : (bytes rest : List ℕ) → rest_of bytes ≡ Some rest → bytes ≡ line_of bytes ++ (end_of_line ++ rest)
line_then bytes rest is =
    sym (take-append-drop (line_length bytes) bytes) ∙ ap (λ (x : List ℕ). line_of bytes ++ x) (behind_is end_of_line (drop (line_length bytes) bytes) rest is)

prefix_all : (p : ℕ → Bool) (xs : List ℕ) → list_all p (take (prefix_len p xs) xs) ≡ true
prefix_all p [] = refl
prefix_all p (x ∷ xs) = elim (cases_Bool (p x)) [
  | inl is ↦
      let more : prefix_len p (x ∷ xs) ≡ suc (prefix_len p xs) = rw is (omega arith) in
      ap (λ n. list_all p (take n (x ∷ xs))) more ∙ rw is (prefix_all p xs)
  | inr other ↦
      let none : prefix_len p (x ∷ xs) ≡ 0 = rw other refl in
      ap (λ n. list_all p (take n (x ∷ xs))) none
]

-- a line of a number
record HasNumber (line : List ℕ) (n : ℕ) : Type 0 where
  digits : List ℕ
  blanks : List ℕ
  line_is : line ≡ digits ++ blanks
  some : 0 < length digits
  few : length digits ≤ 5
  are : list_all is_digit digits ≡ true
  blank : list_all is_blank blanks ≡ true
  number : n ≡ number_of digits

has_number : (line : List ℕ) (n : ℕ) → number_in line ≡ Some n → HasNumber line n
unfolding number_in
has_number line n is =
    let count = prefix_len is_digit line in
    let parts = if_some (is_numbered count line) (number_of (take count line)) n is in
    let some = and_parts (nat_le 1 count && nat_le count 5) (list_all is_blank (drop count line)) parts.0 in
    let bounds = and_parts (nat_le 1 count) (nat_le count 5) some.0 in
    let low = leb-true 1 count bounds.0 in
    let high = leb-true count 5 bounds.1 in
    let len : length (take count line) ≡ count = length-take-le count line (prefix_len-le-length is_digit line) in
    record {
      digits = take count line;
      blanks = drop count line;
      line_is = sym (take-append-drop count line);
      some = omega (arith, len, low);
      few = omega (arith, len, high);
      are = prefix_all is_digit line;
      blank = some.1;
      number = sym parts.1;
    }

-- a line of a heading
record HasHeading (line heading : List ℕ) : Type 0 where
  blanks : List ℕ
  line_is : line ≡ heading ++ blanks
  heading_is : is_heading heading ≡ true
  blank : list_all is_blank blanks ≡ true

of_form : (form line heading : List ℕ) (n : ℕ) → begins_so form n line ≡ true → take n line ≡ heading → ((bytes : List ℕ) → fits form bytes ≡ true → is_heading bytes ≡ true)
    → HasHeading line heading
of_form form line heading n begins is any =
    let parts = and_parts (fits form (take n line)) (list_all is_blank (drop n line)) begins in
    record {
      blanks = drop n line;
      line_is = sym (take-append-drop n line) ∙ ap (λ (x : List ℕ). x ++ drop n line) is;
      heading_is = ap is_heading (sym is) ∙ any (take n line) parts.0;
      blank = parts.1;
    }

or_second : (a b : Bool) → b ≡ true → (a || b) ≡ true
or_second true b is = refl
or_second false b is = is

has_heading : (line heading : List ℕ) → heading_in line ≡ Some heading → HasHeading line heading
unfolding heading_in
has_heading line heading is = elim (cases_Bool (begins_so long_form 22 line)) [
  | inl long ↦ of_form long_form line heading 22 long (some_is (take 22 line) heading (rw long at is)) (λ bytes fit. or_second (fits short_form bytes) (fits long_form bytes) fit)
  | inr other ↦
      let parts = if_some (begins_so short_form 18 line) (take 18 line) heading (rw other at is) in
      of_form short_form line heading 18 parts.0 parts.1 (λ bytes fit. rw fit refl)
]

-- a closed text
record HasText (kind : Kind) (bytes : List ℕ) : Type 0 where
  text : List ℕ
  bytes_is : bytes ≡ text ++ closing
  none : is_text_of kind text ≡ true

has_text : (kind : Kind) (bytes : List ℕ) → is_closed_text kind bytes ≡ true → HasText kind bytes
unfolding is_closed_text
has_text kind bytes is =
    let count = length bytes - 4 in
    let parts = and_parts (bytes_eq (drop count bytes) closing) (is_text_of kind (take count bytes)) is in
    record {
      text = take count bytes;
      bytes_is = sym (take-append-drop count bytes) ∙ ap (λ (x : List ℕ). take count bytes ++ x) (bytes_are (drop count bytes) closing parts.0);
      none = parts.1;
    }

pub bulletin_spelled : (kind : Kind) (bytes : List ℕ) (seqno : ℕ) (heading : List ℕ) → bulletin_of kind bytes ≡ Some (record { seqno = seqno; heading = heading }) → IsBulletin kind bytes seqno heading
unfolding bulletin_of
bulletin_spelled kind bytes seqno heading is =
    let read : Reading = record { seqno = seqno; heading = heading } in
    let a = step_of (begun_bulletin kind) (behind starting bytes) read is in
    let b = step_of (λ rest. option_and_then (λ n. with_number kind rest n) (number_in (line_of a.from))) (rest_of a.from) read a.to in
    let c = step_of (λ n. with_number kind b.from n) (number_in (line_of a.from)) read b.to in
    let d = step_of (λ rest. option_and_then (λ h. if is_closed_text kind rest then Some (record { seqno = c.from; heading = h }) else None) (heading_in (line_of b.from))) (rest_of b.from) read c.to in
    let e = step_of (λ h. if is_closed_text kind d.from then Some (record { seqno = c.from; heading = h }) else None) (heading_in (line_of b.from)) read d.to in
    let made : Reading = record { seqno = c.from; heading = e.from } in
    let f = if_some (is_closed_text kind d.from) made read e.to in
    let number = has_number (line_of a.from) c.from c.is in
    let there = has_heading (line_of b.from) e.from e.is in
    let text = has_text kind d.from f.0 in
    let p : Parts = record { digits = number.digits; behind_digits = number.blanks; heading = e.from; behind_heading = there.blanks; text = text.text } in
    let body_is : d.from ≡ text_spelling p = text.bytes_is in
    let second_is : b.from ≡ heading_spelling p =
    line_then b.from d.from d.is ∙ ap (λ (x : List ℕ). x ++ (end_of_line ++ d.from)) there.line_is ∙ ap (λ (x : List ℕ). (e.from ++ there.blanks) ++ (end_of_line ++ x)) body_is in
    let first_is : a.from ≡ (number.digits ++ number.blanks) ++ (end_of_line ++ heading_spelling p) =
    line_then a.from b.from b.is ∙ ap (λ (x : List ℕ). x ++ (end_of_line ++ b.from)) number.line_is ∙ ap (λ (x : List ℕ). (number.digits ++ number.blanks) ++ (end_of_line ++ x)) second_is in
    record {
      parts = p;
      are = record {
        some_digit = number.some;
        few_digits = number.few;
        digits = number.are;
        behind_digits = number.blank;
        heading = there.heading_is;
        behind_heading = there.blank;
        text = text.none;
      };
      bytes_are = behind_is starting bytes a.from a.is ∙ ap (λ (x : List ℕ). starting ++ x) first_is;
      seqno_is = sym (ap (λ (r : Reading). r.seqno) f.1) ∙ number.number;
      heading_is = sym (ap (λ (r : Reading). r.heading) f.1);
    }

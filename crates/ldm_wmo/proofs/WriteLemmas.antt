-- What is written, and what is not.
use Rattle.std.proofs.Common.{◌≡◌, ℕ, ◌+◌, ◌-◌, ◌<◌, ◌≤◌, ◌||◌, Bool, true, false, not, List, [], ◌∷◌, ◌++◌, length, Option, Some, None, refl, sym, ap, ◌∙◌, arith, inl, inr}
use Rattle.std.specs.Prelude.{nat_lt}
use Rattle.std.proofs.lemmas.Bool.{both_ways, cases_Bool, cases_eq, le-ltb}
use Rattle.std.proofs.lemmas.List.{append-nil, length-append}
use Rattle.ldm_wmo.specs.declared.fault.WriteFault.TheVariants.{Seqno, Heading, Text, Long, OutOfMemory}
use Rattle.ldm_wmo.specs.declared.stage.TheConstants.{LARGEST_BULLETIN}
use Rattle.ldm_wmo.specs.declared.write.TheConstants.{LARGEST_SEQNO}
use Rattle.ldm_wmo.specs.Headings.{fits, is_heading, long_form, short_form}
use Rattle.ldm_wmo.specs.Bulletins.{closing, has_no_mark}
use Rattle.ldm_wmo.specs.Lines.{end_of_line}
use Rattle.ldm_wmo.specs.Spelling.{heading_spelling, text_spelling}
use Rattle.ldm_wmo.specs.Writing.{digits_of, fault_of, parts_of, written, written_so}
use Rattle.ldm_wmo.proofs.Forms.{other_lengths}

pub fits_length : (form bytes : List ℕ) → fits form bytes ≡ true → length bytes ≡ length form
fits_length form bytes fit = elim (cases_eq (length form) (length bytes)) [
  | inl same ↦ sym same
  | inr other ↦ absurd (both_ways (fits form bytes) (other_lengths form bytes other) fit)
]

-- a heading has 18 or 22 bytes
pub heading_length : (heading : List ℕ) → is_heading heading ≡ true → length heading ≤ 22
heading_length heading is = elim (cases_Bool (fits short_form heading)) [
  | inl short ↦ let len = fits_length short_form heading short in omega arith
  | inr other ↦
      let long : fits long_form heading ≡ true = rw other at is in
      let len = fits_length long_form heading long in omega arith
]

pub written_length : (digits heading text : List ℕ) → length (written_so digits heading text) ≡ 14 + length digits + length heading + length text
written_length digits heading text =
    let p = parts_of digits heading text in
    let all : length ((digits ++ []) ++ (end_of_line ++ heading_spelling p)) ≡ length (digits ++ []) + (3 + length (heading_spelling p)) =
    length-append (digits ++ []) (end_of_line ++ heading_spelling p) ∙ omega arith in
    let number : length (digits ++ []) ≡ length digits + 0 = length-append digits [] in
    let second : length (heading_spelling p) ≡ length (heading ++ []) + (3 + length (text_spelling p)) =
    length-append (heading ++ []) (end_of_line ++ text_spelling p) ∙ omega arith in
    let there : length (heading ++ []) ≡ length heading + 0 = length-append heading [] in
    let third : length (text_spelling p) ≡ length text + 4 = length-append text closing in
    let whole : length (written_so digits heading text) ≡ 4 + length ((digits ++ []) ++ (end_of_line ++ heading_spelling p)) = omega arith in
    omega (arith, whole, all, number, second, there, third)

pub is_written : (seqno : ℕ) (heading text : List ℕ) → seqno ≤ LARGEST_SEQNO → is_heading heading ≡ true → has_no_mark text ≡ true
    → length (written seqno heading text) ≤ LARGEST_BULLETIN → fault_of seqno heading text ≡ None
is_written seqno heading text small is none short =
    let number : nat_lt LARGEST_SEQNO seqno ≡ false = le-ltb LARGEST_SEQNO seqno small in
    let room : nat_lt LARGEST_BULLETIN (length (written seqno heading text)) ≡ false = le-ltb LARGEST_BULLETIN (length (written seqno heading text)) short in
    rw (number, is, none, room) refl

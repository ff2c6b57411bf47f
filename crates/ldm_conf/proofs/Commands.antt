-- The parts of a command, one after another.
use Rattle.std.proofs.Common.{◌≡◌, ◌∙◌, ℕ, ◌+◌, ◌<◌, ◌≤◌, ◌==◌, inl, inr, Bool, true, false, not, List, [], ◌∷◌, ◌++◌, length, take, drop, get_or, filter, map, refl, sym, ap, subst, arith, append-nil}
use Rattle.std.proofs.lemmas.Bool.{eqb-true, cases_lt, ne_eqb, not_from_false, or_cases}
use Rattle.std.proofs.lemmas.Str.{IsUtf8-drop, IsCharBoundary-start, IsCharBoundary-end, IsCharBoundary-before_ascii, IsCharBoundary-after_ascii, IsCharBoundary-from_rest}
use Rattle.std.specs.List.{list_all, position_or_len, prefix_len, slice_split}
use Rattle.std.specs.Str.{IsCharBoundary, IsUtf8}
use Rattle.ldm_text.specs.Blanks.{begins_in_blank, is_blank}
use Rattle.ldm_text.proofs.CallerLemmas.{passes, stops, is_here, is_behind}
use Rattle.ldm_conf.specs.Commands.{parts_of}

abbrev has_bytes : List ℕ → Bool
has_bytes part = not (length part == 0)

-- a blank in front of a command is no part of it
blank_first : (byte : ℕ) (bytes : List ℕ) → is_blank byte ≡ true → parts_of (byte ∷ bytes) ≡ parts_of bytes
unfolding parts_of
blank_first byte bytes is = rw is refl

pub skip : (text : List ℕ) → parts_of (drop (prefix_len is_blank text) text) ≡ parts_of text
skip [] = refl
skip (byte ∷ bytes) =
    elim (is_blank byte) as (λ b. is_blank byte ≡ b → parts_of (drop (prefix_len is_blank (byte ∷ bytes)) (byte ∷ bytes)) ≡ parts_of (byte ∷ bytes)) [
      | true ↦ λ is. rw (passes is_blank byte bytes is) (skip bytes ∙ sym (blank_first byte bytes is))
      | false ↦ λ is. rw (stops is_blank byte bytes is) refl
    ] refl

-- the first of the runs between blanks, and what the others leave
record Front (text : List ℕ) : Type 0 where
  others : List (List ℕ)
  is : slice_split is_blank text ≡ take (position_or_len is_blank text) text ∷ others
  left : filter has_bytes others ≡ parts_of (drop (position_or_len is_blank text) text)

front_of : (text : List ℕ) → Front text
unfolding parts_of
front_of [] = record { others = []; is = refl; left = refl }
front_of (byte ∷ bytes) =
    elim (is_blank byte) as (λ b. is_blank byte ≡ b → Front (byte ∷ bytes)) [
      | true ↦ λ is. record {
        others = slice_split is_blank bytes;
        is = rw (is_here is_blank byte bytes is) (rw is refl);
        left = rw (is_here is_blank byte bytes is) (rw is refl);
      }
      | false ↦ λ is. let later = front_of bytes in record {
        others = later.others;
        is = rw (is_behind is_blank byte bytes is) (rw (is, later.is) refl);
        left = rw (is_behind is_blank byte bytes is) later.left;
      }
    ] refl

has_one : (byte : ℕ) (bytes : List ℕ) → has_bytes (byte ∷ bytes) ≡ true
has_one byte bytes = not_from_false (length (byte ∷ bytes) == 0) (ne_eqb (length (byte ∷ bytes)) 0 (λ none. absurd (omega arith)))

-- a text that begins with no blank begins with a part
pub first_part : (text : List ℕ) → 0 < length text → begins_in_blank text ≡ false →
    parts_of text ≡ take (position_or_len is_blank text) text ∷ parts_of (drop (position_or_len is_blank text) text)
unfolding parts_of
first_part [] some part = absurd (omega arith)
first_part (byte ∷ bytes) some part =
    let front = front_of (byte ∷ bytes) in
    let long : has_bytes (take (position_or_len is_blank (byte ∷ bytes)) (byte ∷ bytes)) ≡ true =
    rw (is_behind is_blank byte bytes part) (has_one byte (take (position_or_len is_blank bytes) bytes)) in
    rw (front.is, long) (ap (λ parts. take (position_or_len is_blank (byte ∷ bytes)) (byte ∷ bytes) ∷ parts) front.left)

-- a text with a byte that is no blank has a part
pub has_part : (text : List ℕ) → list_all is_blank text ≡ false → 0 < length (parts_of text)
has_part [] h = absurd cc
has_part (byte ∷ bytes) h =
    elim (is_blank byte) as (λ b. is_blank byte ≡ b → 0 < length (parts_of (byte ∷ bytes))) [
      | true ↦ λ is. let later : list_all is_blank bytes ≡ false = rw is at h in rw (blank_first byte bytes is) (has_part bytes later)
      | false ↦ λ is. rw (first_part (byte ∷ bytes) (omega arith) is) (omega arith)
    ] refl

pub some_mapped : {A B : Type 0} (f : A → B) (xs : List A) (ys : List B) → map f xs ≡ ys → 0 < length ys → 0 < length xs
some_mapped f [] ys is some = let none : 0 ≡ length ys = ap length is in omega arith
some_mapped f (x ∷ xs) ys is some = omega arith

pub shorter : (text : List ℕ) → 0 < length text → begins_in_blank text ≡ false → 0 < position_or_len is_blank text
shorter [] some part = absurd (omega arith)
shorter (byte ∷ bytes) some part = omega (arith, is_behind is_blank byte bytes part)

-- where nothing is left, all parts are read
pub all_read : (parts : List (List ℕ)) (rest : List ℕ) (all : List (List ℕ)) → (length rest == 0) ≡ true → parts ++ parts_of rest ≡ all → parts ≡ all
unfolding parts_of
all_read parts [] all none h = sym (append-nil parts) ∙ h
all_read parts (byte ∷ bytes) all none h = absurd (let zero : length (byte ∷ bytes) ≡ 0 = eqb-true (length (byte ∷ bytes)) 0 none in omega arith)

-- a blank is one byte of ASCII
ascii : (byte : ℕ) → is_blank byte ≡ true → byte < 128
ascii byte h = elim (or_cases (byte == 32) (byte == 9) h) as (λ s. byte < 128) [
  | inl space ↦ let same : byte ≡ 32 = eqb-true byte 32 space in omega arith
  | inr tab ↦ let same : byte ≡ 9 = eqb-true byte 9 tab in omega arith
]

-- so a text may be cut behind the blanks that it begins with
pub cut_behind_blanks : (text : List ℕ) → IsUtf8 text → IsCharBoundary text (prefix_len is_blank text)
cut_behind_blanks [] utf8 = IsCharBoundary-start [] utf8
cut_behind_blanks (byte ∷ bytes) utf8 =
    elim (is_blank byte) as (λ b. is_blank byte ≡ b → IsCharBoundary (byte ∷ bytes) (prefix_len is_blank (byte ∷ bytes))) [
      | true ↦ λ is.
          let behind : IsUtf8 bytes = IsUtf8-drop (byte ∷ bytes) 1 utf8 (IsCharBoundary-after_ascii (byte ∷ bytes) 0 utf8 (omega arith) (ascii byte is)) in
          let cut : IsCharBoundary (byte ∷ bytes) (1 + prefix_len is_blank bytes) = IsCharBoundary-from_rest (byte ∷ bytes) 1 (prefix_len is_blank bytes) (omega arith) (cut_behind_blanks bytes behind) in
          let same : prefix_len is_blank (byte ∷ bytes) ≡ 1 + prefix_len is_blank bytes = omega (arith, passes is_blank byte bytes is) in
          subst (λ place. IsCharBoundary (byte ∷ bytes) place) (sym same) cut
      | false ↦ λ is. rw (stops is_blank byte bytes is) (IsCharBoundary-start (byte ∷ bytes) utf8)
    ] refl

blank_there : (text : List ℕ) → position_or_len is_blank text < length text → is_blank (get_or text (position_or_len is_blank text) 0) ≡ true
blank_there [] = λ within. absurd (omega arith)
blank_there (byte ∷ bytes) =
    elim (is_blank byte) as (λ b. is_blank byte ≡ b → position_or_len is_blank (byte ∷ bytes) < length (byte ∷ bytes) → is_blank (get_or (byte ∷ bytes) (position_or_len is_blank (byte ∷ bytes)) 0) ≡ true) [
      | true ↦ λ is. rw (is_here is_blank byte bytes is) (λ _. is)
      | false ↦ λ is. rw (is_behind is_blank byte bytes is) (λ within. blank_there bytes (omega arith))
    ] refl

-- and in front of the first blank
pub cut_before_blank : (text : List ℕ) → position_or_len is_blank text ≤ length text → IsCharBoundary text (position_or_len is_blank text)
cut_before_blank text inside = elim (cases_lt (position_or_len is_blank text) (length text)) as (λ s. IsCharBoundary text (position_or_len is_blank text)) [
  | inl below ↦ IsCharBoundary-before_ascii text (position_or_len is_blank text) below (ascii (get_or text (position_or_len is_blank text) 0) (blank_there text below))
  | inr beyond ↦
      let all : position_or_len is_blank text ≡ length text = omega arith in
      rw all (IsCharBoundary-end text)
]

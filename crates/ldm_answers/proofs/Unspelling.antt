-- Texts that fields spell.
use Rattle.std.proofs.Common.{◌≡◌, ℕ, ◌+◌, ◌<◌, ◌≤◌, Bool, true, false, cond, List, [], ◌∷◌, ◌++◌, length, get_or, take, drop, Option, Some, None, Result, Ok, Err, refl, sym, ap, subst, ◌∙◌, arith}
use Rattle.std.proofs.lemmas.Bool.{eq-eqb, ne_eqb, lt-leb, le-leb, cond-false}
use Rattle.std.proofs.lemmas.List.{append_assoc, append-nil, drop_more, drop-drop, get_or-drop, length-drop, length-append, drop_all}
use Rattle.std.specs.List.{list_any}
use Rattle.std.specs.Prelude.{◌==◌, ◌&&◌, not, nat_le, bytes_eq, MatchOption, slice_index, unwrap_or, ◌/◌, ◌%◌}
use Rattle.std.specs.Result.{result_ok}
use Rattle.hex.specs.Hex.{decode_sized, encode_upper, encode_with, upper_digits}
use Rattle.hex.specs.declared.error.FromHexError.{FromHexError}
use Rattle.hex.proofs.HexLemmas.{decode_of-ok, decode_sized-ok, decode_sized-twice}
use Rattle.ldm_answers.specs.Texts.{is_plain, spelled_byte, with_byte, unspelled, spelled, if_text}
use Rattle.ldm_answers.specs.TextReads.{IsUnspelled}

pub escaped : (byte : ℕ) → encode_upper (byte ∷ []) ≡ slice_index upper_digits (byte / 16) ∷ slice_index upper_digits (byte % 16) ∷ []
unfolding encode_with
escaped byte = refl

-- ---- the byte at the front

pub unspelled-plain : (byte : ℕ) (bytes : List ℕ) → (byte == 37) ≡ false → unspelled (byte ∷ bytes) ≡ with_byte (Some (byte ∷ [])) (unspelled bytes)
unspelled-plain byte [] plain = ap (λ (b : Bool). cond b None (Some (byte ∷ []))) plain
unspelled-plain byte (next ∷ []) plain = ap (λ (b : Bool). cond b None (with_byte (Some (byte ∷ [])) (unspelled (next ∷ [])))) plain
unspelled-plain byte (high ∷ low ∷ rest) plain =
    ap (λ (b : Bool). cond b (with_byte (result_ok (decode_sized (high ∷ low ∷ []) 1)) (unspelled rest)) (with_byte (Some (byte ∷ [])) (unspelled (high ∷ low ∷ rest)))) plain

unspelled-short : (s : List ℕ) → 0 < length s → length s < 3 → get_or s 0 0 ≡ 37 → unspelled s ≡ None
unspelled-short [] some short percent = absurd (omega arith)
unspelled-short (byte ∷ []) some short percent = ap (λ (b : Bool). cond b None (Some (byte ∷ []))) (eq-eqb byte 37 percent)
unspelled-short (byte ∷ next ∷ []) some short percent = ap (λ (b : Bool). cond b None (with_byte (Some (byte ∷ [])) (unspelled (next ∷ [])))) (eq-eqb byte 37 percent)
unspelled-short (byte ∷ high ∷ low ∷ rest) some short percent = absurd (omega arith)

unspelled-escape : (s : List ℕ) → 3 ≤ length s → get_or s 0 0 ≡ 37 → unspelled s ≡ with_byte (result_ok (decode_sized (take 2 (drop 1 s)) 1)) (unspelled (drop 3 s))
unspelled-escape [] long percent = absurd (omega arith)
unspelled-escape (byte ∷ []) long percent = absurd (omega arith)
unspelled-escape (byte ∷ next ∷ []) long percent = absurd (omega arith)
unspelled-escape (byte ∷ high ∷ low ∷ rest) long percent =
    ap (λ (b : Bool). cond b (with_byte (result_ok (decode_sized (high ∷ low ∷ []) 1)) (unspelled rest)) (with_byte (Some (byte ∷ [])) (unspelled (high ∷ low ∷ rest)))) (eq-eqb byte 37 percent)

-- ---- the byte at a place

pub plain_at : (field : List ℕ) (at : ℕ) → at < length field → (get_or field at 0 ≡ 37 → ⊥)
    → unspelled (drop at field) ≡ with_byte (Some (get_or field at 0 ∷ [])) (unspelled (drop (at + 1) field))
plain_at field at within plain = ap unspelled (drop_more field at 0 within) ∙ unspelled-plain (get_or field at 0) (drop (at + 1) field) (ne_eqb (get_or field at 0) 37 plain)

first_of : (field : List ℕ) (at : ℕ) → get_or field at 0 ≡ 37 → get_or (drop at field) 0 0 ≡ 37
first_of field at percent = get_or-drop at field 0 0 ∙ ap (λ (k : ℕ). get_or field k 0) (let e : at + 0 ≡ at = omega arith in e) ∙ percent

pub short_at : (field : List ℕ) (at : ℕ) → at < length field → length field < at + 3 → get_or field at 0 ≡ 37 → unspelled (drop at field) ≡ None
short_at field at within short percent =
    let size = length-drop at field in
    unspelled-short (drop at field) (omega arith) (omega arith) (first_of field at percent)

pub escape_at : (field : List ℕ) (at : ℕ) → at + 3 ≤ length field → get_or field at 0 ≡ 37
    → unspelled (drop at field) ≡ with_byte (result_ok (decode_sized (take 2 (drop (at + 1) field)) 1)) (unspelled (drop (at + 3) field))
escape_at field at within percent =
    let size = length-drop at field in
    unspelled-escape (drop at field) (omega arith) (first_of field at percent)
    ∙ ap (λ (l : List ℕ). with_byte (result_ok (decode_sized (take 2 l) 1)) (unspelled (drop 3 (drop at field)))) (drop-drop 1 at field)
    ∙ ap (λ (l : List ℕ). with_byte (result_ok (decode_sized (take 2 (drop (at + 1) field)) 1)) (unspelled l)) (drop-drop 3 at field)

-- ---- all bytes

with_two : (xs : List ℕ) (y : ℕ) (r : Option (List ℕ)) → with_byte (Some xs) (with_byte (Some (y ∷ [])) r) ≡ with_byte (Some (xs ++ y ∷ [])) r
with_two xs y None = refl
with_two xs y (Some rest) = ap (λ (l : List ℕ). Some l) (sym (append_assoc xs (y ∷ []) rest))

-- what was read so far, and what is left
pub one_more : (field text : List ℕ) (at byte next : ℕ) → with_byte (Some text) (unspelled (drop at field)) ≡ unspelled field
    → unspelled (drop at field) ≡ with_byte (Some (byte ∷ [])) (unspelled (drop next field))
    → with_byte (Some (text ++ byte ∷ [])) (unspelled (drop next field)) ≡ unspelled field
one_more field text at byte next so_far is = sym (with_two text byte (unspelled (drop next field))) ∙ ap (with_byte (Some text)) (sym is) ∙ so_far

pub none_more : (most : ℕ) (field text : List ℕ) (at : ℕ) → with_byte (Some text) (unspelled (drop at field)) ≡ unspelled field → unspelled (drop at field) ≡ None
    → IsUnspelled most (unspelled field) None
none_more most field text at so_far none =
    let is : None ≡ unspelled field = ap (with_byte (Some text)) (sym none) ∙ so_far in
    let P : Option (List ℕ) → Type 0 = λ o. MatchOption o (Unit {0}) (λ text. most < length text) in
    subst P is tt

above : (most : ℕ) (text : List ℕ) (r : Option (List ℕ)) → most < length text → MatchOption (with_byte (Some text) r) (Unit {0}) (λ text. most < length text)
above most text None large = tt
above most text (Some rest) large = omega (arith, length-append text rest)

pub too_many : (most : ℕ) (field text : List ℕ) (next : ℕ) → with_byte (Some text) (unspelled (drop next field)) ≡ unspelled field → most < length text → IsUnspelled most (unspelled field) None
too_many most field text next is large =
    let P : Option (List ℕ) → Type 0 = λ o. MatchOption o (Unit {0}) (λ text. most < length text) in
    subst P is (above most text (unspelled (drop next field)) large)

pub all_read : (field text : List ℕ) (at : ℕ) → with_byte (Some text) (unspelled (drop at field)) ≡ unspelled field → length field ≤ at → unspelled field ≡ Some text
all_read field text at so_far end = sym so_far ∙ ap (λ (l : List ℕ). with_byte (Some text) (unspelled l)) (drop_all at field end) ∙ ap (λ (l : List ℕ). Some l) (append-nil text)

-- ---- the text

abbrev is_text : ℕ → List ℕ → List ℕ → Bool
is_text most field text = bytes_eq (spelled text) field && nat_le (length text) most && not (list_any (λ byte. byte == 0) text)

pub if_text-unread : (most : ℕ) (field : List ℕ) (meant : Option (List ℕ)) → IsUnspelled most meant None → if_text most field meant ≡ None
if_text-unread most field None h = refl
if_text-unread most field (Some text) h =
    cond-false (is_text most field text) (Some text) None (by_parts (bytes_eq (spelled text) field) (nat_le (length text) most) (not (list_any (λ byte. byte == 0) text)) (lt-leb (length text) most h))
  where
    by_parts : (x y z : Bool) → y ≡ false → (x && y && z) ≡ false
    by_parts true true z e = cc e
    by_parts true false z e = refl
    by_parts false y z e = refl

pub if_text-other : (most : ℕ) (field text : List ℕ) → bytes_eq (spelled text) field ≡ false → if_text most field (Some text) ≡ None
if_text-other most field text other = ap (λ (b : Bool). cond (b && nat_le (length text) most && not (list_any (λ byte. byte == 0) text)) (Some text) None) other

pub if_text-nul : (most : ℕ) (field text : List ℕ) → list_any (λ byte. byte == 0) text ≡ true → if_text most field (Some text) ≡ None
if_text-nul most field text nul =
    cond-false (is_text most field text) (Some text) None (by_last (bytes_eq (spelled text) field) (nat_le (length text) most) (list_any (λ byte. byte == 0) text) nul)
  where
    by_last : (x y z : Bool) → z ≡ true → (x && y && not z) ≡ false
    by_last true true true e = refl
    by_last true true false e = cc e
    by_last true false z e = refl
    by_last false y z e = refl

pub if_text-is : (most : ℕ) (field text : List ℕ) → bytes_eq (spelled text) field ≡ true → length text ≤ most → list_any (λ byte. byte == 0) text ≡ false
    → if_text most field (Some text) ≡ Some text
if_text-is most field text same short free =
    by_all (bytes_eq (spelled text) field) (nat_le (length text) most) (list_any (λ byte. byte == 0) text) same (le-leb (length text) most short) free
  where
    by_all : (x y z : Bool) → x ≡ true → y ≡ true → z ≡ false → cond (x && y && not z) (Some text) None ≡ Some text
    by_all true true false e f g = refl
    by_all true true true e f g = cc g
    by_all true false z e f g = cc f
    by_all false y z e f g = cc e

-- ---- a byte by its digits

one_byte : (digits bytes : List ℕ) → decode_sized digits 1 ≡ Ok bytes → bytes ≡ get_or bytes 0 0 ∷ []
one_byte digits bytes h =
    let len = decode_sized-ok digits 1 bytes h in
    let twice = (decode_of-ok digits bytes (sym (decode_sized-twice digits 1 len) ∙ h)).2 in
    alone bytes (omega arith)
  where
    alone : (bytes : List ℕ) → length bytes ≡ 1 → bytes ≡ get_or bytes 0 0 ∷ []
    alone [] e = absurd (omega arith)
    alone (byte ∷ []) e = refl
    alone (byte ∷ next ∷ more) e = absurd (omega arith)

pub escape_found : (field : List ℕ) (at : ℕ) (bytes : List ℕ) → at + 3 ≤ length field → get_or field at 0 ≡ 37 → decode_sized (take 2 (drop (at + 1) field)) 1 ≡ Ok bytes
    → unspelled (drop at field) ≡ with_byte (Some (get_or bytes 0 0 ∷ [])) (unspelled (drop (at + 3) field))
escape_found field at bytes within percent read =
    escape_at field at within percent
    ∙ ap (λ (r : Result (List ℕ) FromHexError). with_byte (result_ok r) (unspelled (drop (at + 3) field))) read
    ∙ ap (λ (l : List ℕ). with_byte (Some l) (unspelled (drop (at + 3) field))) (one_byte (take 2 (drop (at + 1) field)) bytes read)

pub spelled_escape : (byte high low : ℕ) → is_plain byte ≡ false → high ≡ slice_index upper_digits (byte / 16) → low ≡ slice_index upper_digits (byte % 16)
    → 37 ∷ high ∷ low ∷ [] ≡ spelled_byte byte
spelled_escape byte high low plain high_is low_is =
    ap (λ (h : ℕ). 37 ∷ h ∷ low ∷ []) high_is ∙ ap (λ (l : ℕ). 37 ∷ slice_index upper_digits (byte / 16) ∷ l ∷ []) low_is
    ∙ ap (λ (l : List ℕ). 37 ∷ l) (sym (escaped byte)) ∙ sym (cond-false (is_plain byte) (byte ∷ []) (37 ∷ encode_upper (byte ∷ [])) plain)

pub ok_of : (r : Result (List ℕ) FromHexError) (bytes : List ℕ) → result_ok r ≡ Some bytes → r ≡ Ok bytes
ok_of (Ok xs) bytes e = let same : xs ≡ bytes = ap (λ (o : Option (List ℕ)). unwrap_or o []) e in ap (λ (l : List ℕ). Ok l) same
ok_of (Err fault) bytes e = cc e

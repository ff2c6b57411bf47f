-- A field at which reading stops is the first at which no spelling goes on, and has the fault that is answered.
use Rattle.std.proofs.Common.{◌≡◌, ℕ, ◌⊎◌, inl, inr, eqb-true, eq-eqb, ◌+◌, ◌-◌, ◌*◌, ◌/◌, ◌%◌, ◌^◌, ◌<◌, ◌≤◌, Bool, true, false, cond, ltb, eqb, List, [], ◌++◌, length, get_or, take, drop, Option, Some, None, Result, Ok, Err, refl, sym, ap, subst, ◌∙◌, append_assoc, arith}
use Rattle.std.specs.Prelude.{position, replicate}
use Rattle.std.specs.Int.{w32}
use Rattle.std.proofs.lemmas.Bool.{ltb-true, ltb-false}
use Rattle.std.proofs.lemmas.List.{length-append, length-take, length-drop, take-append-drop, get_or-take}
use Rattle.std.proofs.lemmas.List.Quantifiers.{position-Some}
use Rattle.ldm_types.specs.declared.limits.TheConstants.{GREATEST_INSTANT, LONGEST_IDENT, LONGEST_ORIGIN}
use Rattle.ldm_types.specs.Info.{Metadata, pad4}
use Rattle.ldm_xdr.specs.declared.fault.XdrFault.{XdrFault}
use Rattle.ldm_xdr.specs.declared.fault.XdrFault.TheVariants.{Short, TooLong, Padding, Micros, Nul}
use Rattle.ldm_xdr.specs.Fields.{◌>>=◌, number_in, padded_in, fixed_in, unless_found}
use Rattle.ldm_xdr.specs.Spelling.{Fits, unsigned, opaque, spelling}
use Rattle.ldm_xdr.specs.Reading.{cut_short, badly_padded, unless_nul, counted_text, micros_in, text_in, metadata_in, metadata_at_front, with_len}
use Rattle.ldm_xdr.specs.Faults.{Field, Seconds, Microseconds, Signature, Origin, Feed, Seqno, Ident, Size, field, before, GoesOn, limit_of, EndsIn, EndsInText, IsCounted, HasNul, HasPadding, HasNumber, IsFaultOf, IsFirstFault}
use Rattle.ldm_xdr.proofs.Lengths.{length_unsigned}
use Rattle.ldm_xdr.proofs.Places.{none_at, none_in_both, none_in_first, none_in_second}
use Rattle.ldm_xdr.proofs.FieldsFound.{IsBytes, ok_is, Takes, unsigned_found, signature_found}
use Rattle.ldm_xdr.proofs.FieldsAgain.{unsigned_again, signature_again}
use Rattle.ldm_xdr.proofs.MetadataFields.{read_is, not_cut, IsText, micros_found, micros_again, text_found, text_again}

abbrev faulty : {A : Type 0} → XdrFault → Result A XdrFault
faulty x = Err x

fault_is : {A : Type 0} (x y : XdrFault) → faulty {A = A} x ≡ faulty {A = A} y → x ≡ y
fault_is x y e = cc

-- a step that failed, or the one behind it
bind_err : {A B : Type 0} (r : Result A XdrFault) (f : A → Result B XdrFault) (y : XdrFault) → (r >>= f) ≡ Err y → (r ≡ Err y) ⊎ ((x : A) × (r ≡ Ok x) × (f x ≡ Err y))
bind_err (Ok x) f y e = inr (x, refl, e)
bind_err {A} {B} (Err d) f y e = inl (ap (λ z. faulty {A = A} z) (fault_is {A = B} d y e))

-- ---- the bytes behind the same fields

-- what is behind two spellings of a field at the front of the same bytes
apart : {A : Type 0} (r : List ℕ → Result (A × List ℕ) ℕ) (p q x y : List ℕ) (a b : A) → r (p ++ x) ≡ Ok (a, x) → r (q ++ y) ≡ Ok (b, y) → p ++ x ≡ q ++ y → x ≡ y
apart {A} r p q x y a b ra rb e =
    let one : A × List ℕ = (a, x) in
    let other : A × List ℕ = (b, y) in
    ap (λ (z : A × List ℕ). z.1) (ok_is one other (sym ra ∙ ap r e ∙ rb))

apart_text : (r : List ℕ → Result (List ℕ × List ℕ) XdrFault) (p q x y a b : List ℕ) → r (p ++ x) ≡ Ok (a, x) → r (q ++ y) ≡ Ok (b, y) → p ++ x ≡ q ++ y → x ≡ y
apart_text r p q x y a b ra rb e =
    let one : List ℕ × List ℕ = (a, x) in
    let other : List ℕ × List ℕ = (b, y) in
    ap (λ (z : List ℕ × List ℕ). z.1) (read_is one other (sym ra ∙ ap r e ∙ rb))

pub origin_text : (info : Metadata) → Fits info → IsText LONGEST_ORIGIN info.origin
origin_text info fits = record { short = fits.texts.origin_short; no_nul = none_in_first _ info.origin info.ident fits.texts.no_nul }

pub ident_text : (info : Metadata) → Fits info → IsText LONGEST_IDENT info.ident
ident_text info fits = record { short = fits.texts.ident_short; no_nul = none_in_second _ info.origin info.ident fits.texts.no_nul }

pub seconds_fit : (info : Metadata) → Fits info → info.arrival / 1000000 < 2 ^ 32
seconds_fit info fits = omega (arith, fits.arrival)

pub micros_fit : (info : Metadata) → info.arrival % 1000000 < 2 ^ 32
micros_fit info = omega arith

numbers : (n m : ℕ) (x y : List ℕ) → n < 2 ^ 32 → m < 2 ^ 32 → unsigned n ++ x ≡ unsigned m ++ y → x ≡ y
numbers n m x y fn fm e = apart (number_in w32) (unsigned n) (unsigned m) x y n m (unsigned_again n x fn) (unsigned_again m y fm) e

module _ (a b : Metadata) (fa : Fits a) (fb : Fits b) where
  past : (which : Field) (x y : List ℕ) → field which a ++ x ≡ field which b ++ y → x ≡ y
  past Seconds x y e = numbers (a.arrival / 1000000) (b.arrival / 1000000) x y (seconds_fit a fa) (seconds_fit b fb) e
  past Microseconds x y e = numbers (a.arrival % 1000000) (b.arrival % 1000000) x y (micros_fit a) (micros_fit b) e
  past Signature x y e = apart (fixed_in 16) a.signature b.signature x y a.signature b.signature (signature_again a.signature x fa.signature) (signature_again b.signature y fb.signature) e
  past Origin x y e = apart_text (text_in 0 LONGEST_ORIGIN) (opaque a.origin) (opaque b.origin) x y a.origin b.origin
      (text_again 0 LONGEST_ORIGIN a.origin x (omega arith) (origin_text a fa)) (text_again 0 LONGEST_ORIGIN b.origin y (omega arith) (origin_text b fb)) e
  past Feed x y e = numbers a.feed b.feed x y fa.feed fb.feed e
  past Seqno x y e = numbers a.seqno b.seqno x y fa.seqno fb.seqno e
  past Ident x y e = apart_text (text_in 0 LONGEST_IDENT) (opaque a.ident) (opaque b.ident) x y a.ident b.ident
      (text_again 0 LONGEST_IDENT a.ident x (omega arith) (ident_text a fa)) (text_again 0 LONGEST_IDENT b.ident y (omega arith) (ident_text b fb)) e
  past Size x y e = numbers a.size b.size x y fa.size fb.size e

  -- one field more in front
  more : (which : Field) (x y : List ℕ) → ((v w : List ℕ) → before which a ++ v ≡ before which b ++ w → v ≡ w)
      → before which a ++ field which a ++ x ≡ before which b ++ field which b ++ y → x ≡ y
  more which x y same e =
      past which x y
      (same (field which a ++ x) (field which b ++ y) (sym (append_assoc (before which a) (field which a) x) ∙ e ∙ append_assoc (before which b) (field which b) y))

  same1 : (x y : List ℕ) → before Microseconds a ++ x ≡ before Microseconds b ++ y → x ≡ y
  same1 x y e = past Seconds x y e

  same2 : (x y : List ℕ) → before Signature a ++ x ≡ before Signature b ++ y → x ≡ y
  same2 x y e = more Microseconds x y same1 e

  same3 : (x y : List ℕ) → before Origin a ++ x ≡ before Origin b ++ y → x ≡ y
  same3 x y e = more Signature x y same2 e

  same4 : (x y : List ℕ) → before Feed a ++ x ≡ before Feed b ++ y → x ≡ y
  same4 x y e = more Origin x y same3 e

  same5 : (x y : List ℕ) → before Seqno a ++ x ≡ before Seqno b ++ y → x ≡ y
  same5 x y e = more Feed x y same4 e

  same6 : (x y : List ℕ) → before Ident a ++ x ≡ before Ident b ++ y → x ≡ y
  same6 x y e = more Seqno x y same5 e

  same7 : (x y : List ℕ) → before Size a ++ x ≡ before Size b ++ y → x ≡ y
  same7 x y e = more Ident x y same6 e

  same : (which : Field) (x y : List ℕ) → before which a ++ x ≡ before which b ++ y → x ≡ y
  same Seconds x y e = e
  same Microseconds x y e = same1 x y e
  same Signature x y e = same2 x y e
  same Origin x y e = same3 x y e
  same Feed x y e = same4 x y e
  same Seqno x y e = same5 x y e
  same Ident x y e = same6 x y e
  same Size x y e = same7 x y e

-- ---- what was read so far

-- the fields in front of one are those of some metadata
record Front (which : Field) (bytes left : List ℕ) : Type 0 where
  pub info : Metadata
  pub fits : Fits info
  pub begins : bytes ≡ before which info ++ left
  pub left_fits : IsBytes left

abbrev blank : Metadata
blank = record { arrival = 0; signature = replicate 16 0; origin = []; feed = 0; seqno = 0; ident = []; size = 0 }

-- metadata whose fields fit
fit : (info : Metadata) → info.arrival ≤ GREATEST_INSTANT → length info.signature ≡ 16 → IsText LONGEST_ORIGIN info.origin → info.feed < 2 ^ 32 → info.seqno < 2 ^ 32 → IsText LONGEST_IDENT info.ident
    → info.size < 2 ^ 32 → Fits info
fit info arrival signature origin feed seqno ident size = record {
  arrival = arrival;
  signature = signature;
  feed = feed;
  seqno = seqno;
  size = size;
  texts = record { origin_short = origin.short; ident_short = ident.short; no_nul = none_in_both _ info.origin info.ident origin.no_nul ident.no_nul };
}

blank_fits : Fits blank
blank_fits = record {
  arrival = omega arith;
  signature = refl;
  feed = omega arith;
  seqno = omega arith;
  size = omega arith;
  texts = record { origin_short = omega arith; ident_short = omega arith; no_nul = refl };
}

-- one field more
longer : (a b bytes left rest : List ℕ) → bytes ≡ a ++ left → left ≡ b ++ rest → bytes ≡ a ++ b ++ rest
longer a b bytes left rest e f = e ∙ ap (λ (x : List ℕ). a ++ x) f ∙ sym (append_assoc a b rest)

module _ (bytes left : List ℕ) where
  to_micros : (x : ℕ × List ℕ) → Front Seconds bytes left → number_in w32 left ≡ Ok x → Front Microseconds bytes x.1
  to_micros x front e =
      let found = unsigned_found left x front.left_fits e in record {
        info = record blank { arrival = x.0 * 1000000 };
        fits = fit (record blank { arrival = x.0 * 1000000 }) (omega (arith, found.1)) refl (origin_text blank blank_fits) (omega arith) (omega arith) (ident_text blank blank_fits) (omega arith);
        begins = front.begins ∙ found.0.parts ∙ ap (λ n. unsigned n ++ x.1) (omega arith);
        left_fits = found.0.rest_fits;
      }

  to_signature : (whole : ℕ) (x : ℕ × List ℕ) → Front Microseconds bytes left → micros_in whole left ≡ Ok x → Front Signature bytes x.1
  to_signature whole x front e =
      let found = micros_found whole left x front.left_fits e in
      let seconds = front.info.arrival / 1000000 in
      let small : seconds < 2 ^ 32 = seconds_fit front.info front.fits in record {
        info = record front.info { arrival = seconds * 1000000 + x.0 };
        fits = fit (record front.info { arrival = seconds * 1000000 + x.0 })
            (omega (arith, small, found.1)) front.fits.signature (origin_text front.info front.fits) front.fits.feed front.fits.seqno (ident_text front.info front.fits) front.fits.size;
        begins =
            longer (unsigned seconds) (unsigned x.0) bytes left x.1 front.begins found.0.parts
            ∙ ap (λ n. unsigned n ++ unsigned x.0 ++ x.1) (omega (arith, found.1))
            ∙ ap (λ n. unsigned ((seconds * 1000000 + x.0) / 1000000) ++ unsigned n ++ x.1) (omega (arith, found.1));
        left_fits = found.0.rest_fits;
      }

  to_origin : (x : List ℕ × List ℕ) → Front Signature bytes left → fixed_in 16 left ≡ Ok x → Front Origin bytes x.1
  to_origin x front e =
      let found = signature_found left x front.left_fits e in record {
        info = record front.info { signature = x.0 };
        fits = fit (record front.info { signature = x.0 })
            front.fits.arrival found.1 (origin_text front.info front.fits) front.fits.feed front.fits.seqno (ident_text front.info front.fits) front.fits.size;
        begins = longer (before Signature front.info) x.0 bytes left x.1 front.begins found.0.parts;
        left_fits = found.0.rest_fits;
      }

  to_feed : (whole : ℕ) (x : List ℕ × List ℕ) → Front Origin bytes left → text_in whole LONGEST_ORIGIN left ≡ Ok x → Front Feed bytes x.1
  to_feed whole x front e =
      let found = text_found whole LONGEST_ORIGIN left x front.left_fits e in record {
        info = record front.info { origin = x.0 };
        fits = fit (record front.info { origin = x.0 })
            front.fits.arrival front.fits.signature found.1 front.fits.feed front.fits.seqno (ident_text front.info front.fits) front.fits.size;
        begins = longer (before Origin front.info) (opaque x.0) bytes left x.1 front.begins found.0.parts;
        left_fits = found.0.rest_fits;
      }

  to_seqno : (x : ℕ × List ℕ) → Front Feed bytes left → number_in w32 left ≡ Ok x → Front Seqno bytes x.1
  to_seqno x front e =
      let found = unsigned_found left x front.left_fits e in record {
        info = record front.info { feed = x.0 };
        fits = fit (record front.info { feed = x.0 })
            front.fits.arrival front.fits.signature (origin_text front.info front.fits) found.1 front.fits.seqno (ident_text front.info front.fits) front.fits.size;
        begins = longer (before Feed front.info) (unsigned x.0) bytes left x.1 front.begins found.0.parts;
        left_fits = found.0.rest_fits;
      }

  to_ident : (x : ℕ × List ℕ) → Front Seqno bytes left → number_in w32 left ≡ Ok x → Front Ident bytes x.1
  to_ident x front e =
      let found = unsigned_found left x front.left_fits e in record {
        info = record front.info { seqno = x.0 };
        fits = fit (record front.info { seqno = x.0 })
            front.fits.arrival front.fits.signature (origin_text front.info front.fits) front.fits.feed found.1 (ident_text front.info front.fits) front.fits.size;
        begins = longer (before Seqno front.info) (unsigned x.0) bytes left x.1 front.begins found.0.parts;
        left_fits = found.0.rest_fits;
      }

  to_size : (whole : ℕ) (x : List ℕ × List ℕ) → Front Ident bytes left → text_in whole LONGEST_IDENT left ≡ Ok x → Front Size bytes x.1
  to_size whole x front e =
      let found = text_found whole LONGEST_IDENT left x front.left_fits e in record {
        info = record front.info { ident = x.0 };
        fits = fit (record front.info { ident = x.0 })
            front.fits.arrival front.fits.signature (origin_text front.info front.fits) front.fits.feed front.fits.seqno found.1 front.fits.size;
        begins = longer (before Ident front.info) (opaque x.0) bytes left x.1 front.begins found.0.parts;
        left_fits = found.0.rest_fits;
      }

  -- a spelling that goes on spells the field there
  goes_left : (which : Field) (front : Front which bytes left) → GoesOn which bytes → (info : Metadata) × Fits info × ((rest : List ℕ) × (left ≡ field which info ++ rest))
  goes_left which front on =
      let info = on.0 in
      let rest = on.2.0 in (
        info,
        on.1,
        (
          rest,
          same front.info info front.fits on.1 which left (field which info ++ rest) (sym front.begins ∙ on.2.1 ∙ append_assoc (before which info) (field which info) rest),
        ),
      )

  -- the place of the field
  place_at : (which : Field) (front : Front which bytes left) → length bytes - length left ≡ length (before which front.info)
  place_at which front = omega (arith, ap length front.begins, length-append (before which front.info) left)

  first_fault : (which : Field) (front : Front which bytes left) (fault : XdrFault) → (GoesOn which bytes → ⊥) → IsFaultOf which (length (before which front.info)) left fault → IsFirstFault bytes fault
  first_fault which front fault stops is = record { which = which; info = front.info; left = left; fits = front.fits; begins = front.begins; stops = stops; is = is }

-- ---- numbers

cut_guard : {A : Type 0} (whole l : ℕ) (b : Bool) (x : A) (fault : XdrFault) → cut_short whole (cond b (Err l) (Ok x)) ≡ Err fault → (b ≡ true) × (Short (whole - l) ≡ fault)
cut_guard {A} whole l true x fault e = (refl, fault_is {A = A} (Short (whole - l)) fault e)
cut_guard whole l false x fault e = absurd cc

number_short : (whole : ℕ) (left : List ℕ) (fault : XdrFault) → cut_short whole (number_in w32 left) ≡ Err fault → (length left < 4) × (Short (whole - length left) ≡ fault)
unfolding number_in
number_short whole left fault e =
    let g = cut_guard whole (length left) (ltb (length left) 4) _ fault e in (ltb-true (length left) 4 g.0, g.1)

-- a field that was read is not one that could not be
not_both : {A E : Type 0} (r : Result A E) (x : A) (bad : E) → r ≡ Ok x → r ≡ Err bad → ⊥
not_both r x bad ok err = cc

-- where a number of four bytes would have to stand
cut_again : (whole n : ℕ) (left rest : List ℕ) (fault : XdrFault) → n < 2 ^ 32 → left ≡ unsigned n ++ rest → cut_short whole (number_in w32 left) ≡ Err fault → ⊥
cut_again whole n left rest fault small is e =
    not_both (cut_short whole (number_in w32 left)) (n, rest) fault (ap (λ l. cut_short whole (number_in w32 l)) is ∙ ap (cut_short whole) (unsigned_again n rest small)) e

-- ---- the other fields

guard_err : {A : Type 0} (b : Bool) (bad fault : XdrFault) (r : Result A XdrFault) → cond b (Err bad) r ≡ Err fault → ((b ≡ true) × (bad ≡ fault)) ⊎ ((b ≡ false) × (r ≡ Err fault))
guard_err {A} true bad fault r e = inl (refl, fault_is {A = A} bad fault e)
guard_err false bad fault r e = inr (refl, e)

guard_late : {A : Type 0} (b : Bool) (bad fault : XdrFault) (x : A) → cond b (Ok x) (Err bad) ≡ Err fault → (b ≡ false) × (bad ≡ fault)
guard_late true bad fault x e = absurd cc
guard_late {A} false bad fault x e = (refl, fault_is {A = A} bad fault e)

signature_short : (whole : ℕ) (left : List ℕ) (fault : XdrFault) → cut_short whole (fixed_in 16 left) ≡ Err fault → (length left < 16) × (Short (whole - length left) ≡ fault)
unfolding padded_in
signature_short whole left fault e =
    let x : List ℕ × List ℕ = (take 16 left, drop 16 left) in
    let g = cut_guard whole (length left) (ltb (length left) 16) x fault e in (ltb-true (length left) 16 g.0, g.1)

-- the microseconds end too early, or are too many
micros_bad : (whole : ℕ) (left : List ℕ) (fault : XdrFault) → IsBytes left → micros_in whole left ≡ Err fault
    → ((length left < 4) × (Short (whole - length left) ≡ fault)) ⊎ (HasNumber 1000000 left × (Micros (whole - length left) ≡ fault))
unfolding micros_in
micros_bad whole left fault fits e =
    elim (bind_err (cut_short whole (number_in w32 left)) (λ micros. cond (ltb micros.0 1000000) (Ok micros) (Err (Micros (whole - length left)))) fault e) [
      | inl short ↦ inl (number_short whole left fault short)
      | inr read ↦
          let x = read.0 in
          let g = guard_late (ltb x.0 1000000) (Micros (whole - length left)) fault x read.2 in
          let found = unsigned_found left x fits (not_cut whole (number_in w32 left) x read.1) in inr ((x.0, (x.1, found.0.parts, ltb-false x.0 1000000 g.0, found.1)), g.1)
    ]

-- ---- texts

nul_err : {A : Type 0} (whole l : ℕ) (found : Option ℕ) (r : Result A XdrFault) (fault : XdrFault) → unless_nul whole l found r ≡ Err fault
    → ((i : ℕ) × (found ≡ Some i) × (Nul (whole - (l - i)) ≡ fault)) ⊎ ((found ≡ None) × (r ≡ Err fault))
nul_err whole l None r fault e = inr (refl, e)
nul_err {A} whole l (Some i) r fault e = inl (i, refl, fault_is {A = A} (Nul (whole - (l - i))) fault e)

padding_err : {A : Type 0} (whole : ℕ) (r : Result A ℕ) (fault : XdrFault) → badly_padded whole r ≡ Err fault → (l : ℕ) × (r ≡ Err l) × (Padding (whole - l) ≡ fault)
padding_err whole (Ok x) fault e = absurd cc
padding_err {A} whole (Err l) fault e = (l, refl, fault_is {A = A} (Padding (whole - l)) fault e)

abbrev lost : {A : Type 0} → ℕ → Result A ℕ
lost l = Err l

lost_is : {A : Type 0} (x y : ℕ) → lost {A = A} x ≡ lost {A = A} y → x ≡ y
lost_is x y e = cc

found_err : (found : Option ℕ) (padding : ℕ) (bytes left : List ℕ) (l : ℕ) → unless_found found padding bytes left ≡ Err l → (i : ℕ) × (found ≡ Some i) × (padding - i ≡ l)
found_err None padding bytes left l e = absurd cc
found_err (Some i) padding bytes left l e = (i, refl, lost_is {A = List ℕ × List ℕ} (padding - i) l e)

-- where the bytes are there, a byte of the padding is not zero
padded_err : (field count : ℕ) (left : List ℕ) (l : ℕ) → pad4 count ≤ length left → padded_in field count left ≡ Err l
    → (i : ℕ) × (position (λ byte. ltb 0 byte) (take (pad4 count - count) (drop count left)) ≡ Some i) × (length left - count - i ≡ l)
unfolding padded_in
padded_err field count left l long e =
    elim (ltb (length left) (pad4 count)) as (λ b. ltb (length left) (pad4 count) ≡ b → cond b (Err field) (unless_found (position (λ byte. ltb 0 byte) (take (pad4 count - count) (drop count left))) (length left - count) (take count left) (drop (pad4 count) left)) ≡ Err l
    → (i : ℕ) × (position (λ byte. ltb 0 byte) (take (pad4 count - count) (drop count left)) ≡ Some i) × (length left - count - i ≡ l)) [
      | true ↦ λ b h. absurd (omega (arith, long, ltb-true (length left) (pad4 count) b))
      | false ↦ λ b h. found_err (position (λ byte. ltb 0 byte) (take (pad4 count - count) (drop count left))) (length left - count) (take count left) (drop (pad4 count) left) l h
    ] refl e

both_tests : (b : Bool) → b ≡ true → b ≡ false → ⊥
both_tests b passes fails = cc

-- what a fault of a text says
abbrev pub TextFault : ℕ → ℕ → List ℕ → XdrFault → Type 0
TextFault limit at left (Short place) = (place ≡ at) × EndsInText limit left
TextFault limit at left (TooLong place) = (place ≡ at) × HasNumber (limit + 1) left
TextFault limit at left (Padding place) = HasPadding limit at left place
TextFault limit at left (Micros place) = ⊥
TextFault limit at left (Nul place) = HasNul limit at left place

module _ (whole limit : ℕ) (left : List ℕ) (n : ℕ) (behind : List ℕ) (inside : length left ≤ whole) (parts : left ≡ unsigned n ++ behind) where
  left_len : length left ≡ 4 + length behind
  left_len = ap length parts ∙ length-append (unsigned n) behind ∙ omega (arith, length_unsigned n)

  counted : n ≤ limit → pad4 n ≤ length behind → IsCounted limit left (take n behind) (drop n behind) × (length (take n behind) ≡ n)
  counted short long =
      let len : length (take n behind) ≡ n = omega (arith, length-take n behind, long) in (
        record {
          parts = parts ∙ ap (λ k. unsigned k ++ behind) (sym len) ∙ ap (λ (x : List ℕ). unsigned (length (take n behind)) ++ x) (sym (take-append-drop n behind))
              ∙ sym (append_assoc (unsigned (length (take n behind))) (take n behind) (drop n behind));
          short = omega (arith, len, short);
          whole = omega (arith, len, long, length-drop n behind);
        },
        len,
      )

  has_nul : n ≤ limit → pad4 n ≤ length behind → (i : ℕ) → position (λ byte. eqb byte 0) (take n behind) ≡ Some i → HasNul limit (whole - length left) left (whole - (length behind - i))
  has_nul short long i found =
      let c = counted short long in
      let at = position-Some (λ byte. eqb byte 0) (take n behind) i 0 found in record {
        text = take n behind;
        behind = drop n behind;
        counted = c.0;
        index = i;
        within = at.0;
        zero = eqb-true (get_or (take n behind) i 0) 0 at.1;
        first = λ k lt e. both_tests (eqb (get_or (take n behind) k 0) 0) (eq-eqb (get_or (take n behind) k 0) 0 e) (at.2 k lt);
        place_is = omega (arith, left_len, inside, at.0, c.1, long);
      }

  has_padding : n ≤ limit → pad4 n ≤ length behind → position (λ byte. eqb byte 0) (take n behind) ≡ None → (i : ℕ)
      → position (λ byte. ltb 0 byte) (take (pad4 n - n) (drop n behind)) ≡ Some i → HasPadding limit (whole - length left) left (whole - (length behind - n - i))
  has_padding short long clean i found =
      let c = counted short long in
      let at = position-Some (λ byte. ltb 0 byte) (take (pad4 n - n) (drop n behind)) i 0 found in
      let room : i < pad4 n - n = omega (arith, at.0, length-take (pad4 n - n) (drop n behind)) in record {
        text = take n behind;
        behind = drop n behind;
        counted = c.0;
        no_nul = λ k lt e. both_tests (eqb (get_or (take n behind) k 0) 0) (eq-eqb (get_or (take n behind) k 0) 0 e) (none_at (λ byte. eqb byte 0) (take n behind) clean k lt);
        index = i;
        within = omega (arith, room, c.1);
        other = λ e. absurd (omega (arith, e, ltb-true 0 _ at.1, get_or-take (pad4 n - n) (drop n behind) i 0 room));
        first = λ k lt. omega (arith, ltb-false 0 _ (at.2 k lt), get_or-take (pad4 n - n) (drop n behind) k 0 (omega (arith, lt, room)));
        place_is = omega (arith, left_len, inside, room, c.1, long);
      }

short_fault : (which : Field) (at place : ℕ) (left : List ℕ) (fault : XdrFault) → place ≡ at → EndsIn which left → Short place ≡ fault → IsFaultOf which at left fault
short_fault which at place left fault is ends e = subst (λ (f : XdrFault). IsFaultOf which at left f) e (is, ends)

text_bad : (whole limit : ℕ) (left : List ℕ) (fault : XdrFault) → IsBytes left → length left ≤ whole → text_in whole limit left ≡ Err fault → TextFault limit (whole - length left) left fault
unfolding text_in
text_bad whole limit left fault fits inside e =
    elim (bind_err (cut_short whole (number_in w32 left)) (λ count. counted_text whole limit (length left) count.0 count.1) fault e) [
      | inl cut ↦ let short = number_short whole left fault cut in subst (λ (f : XdrFault). TextFault limit (whole - length left) left f) short.1 (refl, inl short.0)
      | inr read ↦ in_text read.0 (unsigned_found left read.0 fits (not_cut whole (number_in w32 left) read.0 read.1)) read.2
    ] where
      at_padding : (x : ℕ × List ℕ) → left ≡ unsigned x.0 ++ x.1 → x.0 ≤ limit → pad4 x.0 ≤ length x.1 → position (λ byte. eqb byte 0) (take x.0 x.1) ≡ None
          → badly_padded whole (padded_in (length left) x.0 x.1) ≡ Err fault → TextFault limit (whole - length left) left fault
      at_padding x parts short long clean h =
          let p = padding_err whole (padded_in (length left) x.0 x.1) fault h in
          let at = padded_err (length left) x.0 x.1 p.0 long p.1 in
          subst (λ (f : XdrFault). TextFault limit (whole - length left) left f) (ap (λ l. Padding (whole - l)) at.2 ∙ p.2)
          (has_padding whole limit left x.0 x.1 inside parts short long clean at.0 at.1)

      at_nul : (x : ℕ × List ℕ) → left ≡ unsigned x.0 ++ x.1 → x.0 ≤ limit → pad4 x.0 ≤ length x.1
          → unless_nul whole (length x.1) (position (λ byte. eqb byte 0) (take x.0 x.1)) (badly_padded whole (padded_in (length left) x.0 x.1)) ≡ Err fault → TextFault limit (whole - length left) left fault
      at_nul x parts short long h =
          elim (nul_err whole (length x.1) (position (λ byte. eqb byte 0) (take x.0 x.1)) (badly_padded whole (padded_in (length left) x.0 x.1)) fault h) [
            | inl nul ↦ subst (λ (f : XdrFault). TextFault limit (whole - length left) left f) nul.2 (has_nul whole limit left x.0 x.1 inside parts short long nul.0 nul.1)
            | inr clean ↦ at_padding x parts short long clean.0 clean.1
          ]

      at_length : (x : ℕ × List ℕ) → left ≡ unsigned x.0 ++ x.1 → x.0 ≤ limit
          → cond (ltb (length x.1) (pad4 x.0)) (Err (Short (whole - length left))) (unless_nul whole (length x.1) (position (λ byte. eqb byte 0) (take x.0 x.1)) (badly_padded whole (padded_in (length left) x.0 x.1))) ≡ Err fault → TextFault limit (whole - length left) left fault
      at_length x parts short h =
          elim (guard_err (ltb (length x.1) (pad4 x.0)) (Short (whole - length left)) fault (unless_nul whole (length x.1) (position (λ byte. eqb byte 0) (take x.0 x.1)) (badly_padded whole (padded_in (length left) x.0 x.1))) h) [
            | inl cut ↦ subst (λ (f : XdrFault). TextFault limit (whole - length left) left f) cut.1 (refl, inr (x.0, (x.1, parts, short, ltb-true (length x.1) (pad4 x.0) cut.0)))
            | inr on ↦ at_nul x parts short (ltb-false (length x.1) (pad4 x.0) on.0) on.1
          ]

      in_text : (x : ℕ × List ℕ) → Takes left (unsigned x.0) x.1 × (x.0 < 2 ^ 32) → counted_text whole limit (length left) x.0 x.1 ≡ Err fault → TextFault limit (whole - length left) left fault
      in_text x found h =
          elim (guard_err (ltb limit x.0) (TooLong (whole - length left)) fault (cond (ltb (length x.1) (pad4 x.0)) (Err (Short (whole - length left)))
          (unless_nul whole (length x.1) (position (λ byte. eqb byte 0) (take x.0 x.1)) (badly_padded whole (padded_in (length left) x.0 x.1)))) h) [
            | inl long ↦ subst (λ (f : XdrFault). TextFault limit (whole - length left) left f) long.1 (refl, (x.0, (x.1, found.0.parts, omega (arith, ltb-true limit x.0 long.0), found.1)))
            | inr on ↦ at_length x found.0.parts (ltb-false limit x.0 on.0) on.1
          ]

text_fault_of : (which : Field) (limit at : ℕ) (left : List ℕ) (fault : XdrFault) → limit_of which ≡ Some limit → (EndsInText limit left → EndsIn which left) → TextFault limit at left fault → IsFaultOf which at left fault
text_fault_of which limit at left (Short place) is ends h = (h.0, ends h.1)
text_fault_of which limit at left (TooLong place) is ends h = (h.0, (limit, is, h.1))
text_fault_of which limit at left (Padding place) is ends h = (limit, is, h)
text_fault_of which limit at left (Micros place) is ends h = absurd h
text_fault_of which limit at left (Nul place) is ends h = (limit, is, h)

-- ---- the first fault

module _ (bytes left : List ℕ) where
  short_at : (which : Field) (front : Front which bytes left) (fault : XdrFault) → (GoesOn which bytes → ⊥) → EndsIn which left → Short (length bytes - length left) ≡ fault → IsFirstFault bytes fault
  short_at which front fault stops ends e =
      first_fault bytes left which front fault stops (short_fault which (length (before which front.info)) (length bytes - length left) left fault (place_at bytes left which front) ends e)

  -- a number ends too early
  number_at : (which : Field) (front : Front which bytes left) (fault : XdrFault) → ((info : Metadata) → Fits info → (n : ℕ) × (n < 2 ^ 32) × (field which info ≡ unsigned n))
      → (length left < 4 → EndsIn which left) → cut_short (length bytes) (number_in w32 left) ≡ Err fault → IsFirstFault bytes fault
  number_at which front fault number ends e =
      let short = number_short (length bytes) left fault e in
      short_at which front fault (λ on.
      let there = goes_left bytes left which front on in
      let n = number there.0 there.1 in
      cut_again (length bytes) n.0 left there.2.0 fault n.1 (there.2.1 ∙ ap (λ (x : List ℕ). x ++ there.2.0) n.2) e) (ends short.0) short.1

  micros_at : (front : Front Microseconds bytes left) (fault : XdrFault) → micros_in (length bytes) left ≡ Err fault → IsFirstFault bytes fault
  micros_at front fault e =
      let stops : GoesOn Microseconds bytes → ⊥ = λ on.
      let there = goes_left bytes left Microseconds front on in
      let n = there.0.arrival % 1000000 in
      not_both (micros_in (length bytes) left) (n, there.2.0) fault (ap (micros_in (length bytes)) there.2.1 ∙ micros_again (length bytes) n there.2.0 (omega arith)) e in
      elim (micros_bad (length bytes) left fault front.left_fits e) [
        | inl short ↦ short_at Microseconds front fault stops short.0 short.1
        | inr many ↦
            first_fault bytes left Microseconds front fault stops
            (subst (λ (f : XdrFault). IsFaultOf Microseconds (length (before Microseconds front.info)) left f) many.1 (place_at bytes left Microseconds front, refl, many.0))
      ]

  signature_at : (front : Front Signature bytes left) (fault : XdrFault) → cut_short (length bytes) (fixed_in 16 left) ≡ Err fault → IsFirstFault bytes fault
  signature_at front fault e =
      let short = signature_short (length bytes) left fault e in
      short_at Signature front fault (λ on.
      let there = goes_left bytes left Signature front on in
      not_both (cut_short (length bytes) (fixed_in 16 left)) (there.0.signature, there.2.0) fault
      (ap (λ l. cut_short (length bytes) (fixed_in 16 l)) there.2.1 ∙ ap (cut_short (length bytes)) (signature_again there.0.signature there.2.0 there.1.signature)) e) short.0 short.1

  text_at : (which : Field) (limit : ℕ) (front : Front which bytes left) (fault : XdrFault) → limit_of which ≡ Some limit → (EndsInText limit left → EndsIn which left)
      → ((info : Metadata) → Fits info → (text : List ℕ) × IsText limit text × (field which info ≡ opaque text)) → limit < 2 ^ 32
      → text_in (length bytes) limit left ≡ Err fault → IsFirstFault bytes fault
  text_at which limit front fault is ends text small e =
      let stops : GoesOn which bytes → ⊥ = λ on.
      let there = goes_left bytes left which front on in
      let t = text there.0 there.1 in
      not_both (text_in (length bytes) limit left) (t.0, there.2.0) fault
      (ap (text_in (length bytes) limit) (there.2.1 ∙ ap (λ (x : List ℕ). x ++ there.2.0) t.2) ∙ text_again (length bytes) limit t.0 there.2.0 small t.1) e in
      let inside : length left ≤ length bytes = omega (arith, ap length front.begins, length-append (before which front.info) left) in
      let bad = text_bad (length bytes) limit left fault front.left_fits inside e in
      first_fault bytes left which front fault stops
      (text_fault_of which limit (length (before which front.info)) left fault is ends (subst (λ at. TextFault limit at left fault) (place_at bytes left which front) bad))

at_start : (bytes : List ℕ) → IsBytes bytes → Front Seconds bytes bytes
at_start bytes fits = record { info = blank; fits = blank_fits; begins = refl; left_fits = fits }

metadata_fault : (bytes : List ℕ) (fault : XdrFault) → IsBytes bytes → metadata_in (length bytes) bytes ≡ Err fault → IsFirstFault bytes fault
unfolding metadata_in
metadata_fault bytes fault fits e =
    let w = length bytes in
    let f0 = at_start bytes fits in
    elim (bind_err (cut_short w (number_in w32 bytes)) _ fault e) [
      | inl bad ↦ number_at bytes bytes Seconds f0 fault (λ info ok. (info.arrival / 1000000, seconds_fit info ok, refl)) (λ h. h) bad
      | inr a ↦
          let f1 = to_micros bytes bytes a.0 f0 (not_cut w (number_in w32 bytes) a.0 a.1) in
          elim (bind_err (micros_in w a.0.1) _ fault a.2) [
            | inl bad ↦ micros_at bytes a.0.1 f1 fault bad
            | inr b ↦
                let f2 = to_signature bytes a.0.1 w b.0 f1 b.1 in
                elim (bind_err (cut_short w (fixed_in 16 b.0.1)) _ fault b.2) [
                  | inl bad ↦ signature_at bytes b.0.1 f2 fault bad
                  | inr c ↦
                      let f3 = to_origin bytes b.0.1 c.0 f2 (not_cut w (fixed_in 16 b.0.1) c.0 c.1) in
                      elim (bind_err (text_in w LONGEST_ORIGIN c.0.1) _ fault c.2) [
                        | inl bad ↦ text_at bytes c.0.1 Origin LONGEST_ORIGIN f3 fault refl (λ h. h) (λ info ok. (info.origin, origin_text info ok, refl)) (omega arith) bad
                        | inr d ↦
                            let f4 = to_feed bytes c.0.1 w d.0 f3 d.1 in
                            elim (bind_err (cut_short w (number_in w32 d.0.1)) _ fault d.2) [
                              | inl bad ↦ number_at bytes d.0.1 Feed f4 fault (λ info ok. (info.feed, ok.feed, refl)) (λ h. h) bad
                              | inr g ↦
                                  let f5 = to_seqno bytes d.0.1 g.0 f4 (not_cut w (number_in w32 d.0.1) g.0 g.1) in
                                  elim (bind_err (cut_short w (number_in w32 g.0.1)) _ fault g.2) [
                                    | inl bad ↦ number_at bytes g.0.1 Seqno f5 fault (λ info ok. (info.seqno, ok.seqno, refl)) (λ h. h) bad
                                    | inr h ↦
                                        let f6 = to_ident bytes g.0.1 h.0 f5 (not_cut w (number_in w32 g.0.1) h.0 h.1) in
                                        elim (bind_err (text_in w LONGEST_IDENT h.0.1) _ fault h.2) [
                                          | inl bad ↦ text_at bytes h.0.1 Ident LONGEST_IDENT f6 fault refl (λ k. k) (λ info ok. (info.ident, ident_text info ok, refl)) (omega arith) bad
                                          | inr i ↦
                                              let f7 = to_size bytes h.0.1 w i.0 f6 i.1 in
                                              elim (bind_err (cut_short w (number_in w32 i.0.1)) _ fault i.2) [
                                                | inl bad ↦ number_at bytes i.0.1 Size f7 fault (λ info ok. (info.size, ok.size, refl)) (λ k. k) bad
                                                | inr j ↦ absurd cc
                                              ]
                                        ]
                                  ]
                            ]
                      ]
                ]
          ]
    ]

len_err : (whole : ℕ) (r : Result (Metadata × List ℕ) XdrFault) (fault : XdrFault) → with_len whole r ≡ Err fault → r ≡ Err fault
len_err whole (Ok x) fault e = absurd cc
len_err whole (Err bad) fault e = ap (λ f. faulty {A = Metadata × List ℕ} f) (fault_is {A = Metadata × ℕ} bad fault e)

pub first_fault_found : (bytes : List ℕ) (fault : XdrFault) → IsBytes bytes → metadata_at_front bytes ≡ Err fault → IsFirstFault bytes fault
unfolding metadata_at_front
first_fault_found bytes fault fits e = metadata_fault bytes fault fits (len_err (length bytes) (metadata_in (length bytes) bytes) fault e)

pub spelling_is : (info : Metadata) → spelling info ≡ before Size info ++ field Size info
unfolding spelling
spelling_is info = refl

-- Where no spelling goes on with a field, and what stands there has a fault, that fault is answered.
use Rattle.std.proofs.Common.{◌≡◌, ◌≢◌, ℕ, inl, inr, ◌+◌, ◌-◌, ◌/◌, ◌%◌, ◌^◌, ◌<◌, ◌≤◌, Bool, true, false, ltb, eqb, List, ◌++◌, length, get_or, take, drop, Option, Some, None, Ok, Err, refl, sym, ap, subst, ◌∙◌, append_assoc, arith, eq-eqb}
use Rattle.std.specs.Prelude.{position}
use Rattle.std.specs.List.{position_or_len}
use Rattle.std.specs.Int.{w32}
use Rattle.std.proofs.lemmas.Bool.{lt-ltb, le-ltb, cond-true, cond-false, eqb-true, false_from_ne_true}
use Rattle.std.proofs.lemmas.List.{length-append, length-take, take_at, drop_at, get_or-take}
use Rattle.std.proofs.lemmas.List.Sums.{position_or_len_is}
use Rattle.ldm_types.specs.declared.limits.TheConstants.{LONGEST_IDENT, LONGEST_ORIGIN}
use Rattle.ldm_types.specs.Info.{Metadata, pad4}
use Rattle.ldm_xdr.specs.declared.fault.XdrFault.{XdrFault}
use Rattle.ldm_xdr.specs.declared.fault.XdrFault.TheVariants.{Short, TooLong, Padding, Micros, Nul}
use Rattle.ldm_xdr.specs.Fields.{number_in, padded_in, fixed_in}
use Rattle.ldm_xdr.specs.Spelling.{Fits, unsigned, opaque}
use Rattle.ldm_xdr.specs.Reading.{cut_short, micros_in, text_in, metadata_in, metadata_at_front}
use Rattle.ldm_xdr.specs.Faults.{Field, Seconds, Microseconds, Signature, Origin, Feed, Seqno, Ident, Size, before, limit_of, EndsIn, EndsInText, byte_at, HasNul, HasPadding, HasNumber, IsFaultOf, IsFirstFault}
use Rattle.ldm_xdr.proofs.Lengths.{length_unsigned}
use Rattle.ldm_xdr.proofs.FieldsAgain.{unsigned_again, signature_again}
use Rattle.ldm_xdr.proofs.MetadataFields.{micros_again, text_again}
use Rattle.ldm_xdr.proofs.Faulty.{TextFault, origin_text, ident_text, seconds_fit}

-- ---- one field

number_cut : (whole : ℕ) (left : List ℕ) → length left < 4 → cut_short whole (number_in w32 left) ≡ Err (Short (whole - length left))
unfolding number_in
number_cut whole left short = rw (lt-ltb (length left) 4 short) refl

number_read : (n : ℕ) (left behind : List ℕ) → n < 2 ^ 32 → left ≡ unsigned n ++ behind → number_in w32 left ≡ Ok (n, behind)
number_read n left behind small is = ap (number_in w32) is ∙ unsigned_again n behind small

signature_cut : (whole : ℕ) (left : List ℕ) → length left < 16 → cut_short whole (fixed_in 16 left) ≡ Err (Short (whole - length left))
unfolding padded_in
signature_cut whole left short = rw (lt-ltb (length left) 16 short) refl

micros_cut : (whole : ℕ) (left : List ℕ) → length left < 4 → micros_in whole left ≡ Err (Short (whole - length left))
unfolding micros_in
micros_cut whole left short = rw (number_cut whole left short) refl

micros_many : (whole : ℕ) (left : List ℕ) → HasNumber 1000000 left → micros_in whole left ≡ Err (Micros (whole - length left))
unfolding micros_in
micros_many whole left many = rw (number_read many.0 left many.1.0 many.1.3 many.1.1, le-ltb many.0 1000000 many.1.2) refl

-- the first place at which a test holds
first_at : (test : ℕ → Bool) (bytes : List ℕ) (i : ℕ) → i < length bytes → test (get_or bytes i 0) ≡ true → ((k : ℕ) → k < i → test (get_or bytes k 0) ≡ false) → position test bytes ≡ Some i
first_at test bytes i within here earlier =
    let is : position_or_len test bytes ≡ i = position_or_len_is test bytes i 0 (omega (arith, within)) earlier (λ _. here) in
    cond-true (ltb (position_or_len test bytes) (length bytes)) (Some (position_or_len test bytes)) None (lt-ltb _ _ (omega (arith, is, within))) ∙ ap (λ n. Some n) is

-- ---- texts

module _ (whole limit : ℕ) (left : List ℕ) (inside : length left ≤ whole) (small : limit < 2 ^ 32) where
  -- a text whose length is within the limit
  module _ (n : ℕ) (behind : List ℕ) (parts : left ≡ unsigned n ++ behind) (short : n ≤ limit) where
    behind_len : length left ≡ 4 + length behind
    behind_len = ap length parts ∙ length-append (unsigned n) behind ∙ omega (arith, length_unsigned n)

    text_cut : length behind < pad4 n → text_in whole limit left ≡ Err (Short (whole - length left))
    unfolding text_in
    text_cut cut = rw (number_read n left behind (omega (arith, short, small)) parts, le-ltb limit n short, lt-ltb (length behind) (pad4 n) cut) refl

    text_nul : pad4 n ≤ length behind → (i : ℕ) → position (λ byte. eqb byte 0) (take n behind) ≡ Some i → text_in whole limit left ≡ Err (Nul (whole - (length behind - i)))
    unfolding text_in
    text_nul long i at = rw (number_read n left behind (omega (arith, short, small)) parts, le-ltb limit n short, le-ltb (length behind) (pad4 n) long, at) refl

    text_padding : pad4 n ≤ length behind → position (λ byte. eqb byte 0) (take n behind) ≡ None → (i : ℕ)
        → position (λ byte. ltb 0 byte) (take (pad4 n - n) (drop n behind)) ≡ Some i → text_in whole limit left ≡ Err (Padding (whole - (length behind - n - i)))
    unfolding text_in padded_in
    text_padding long clean i at =
        rw (number_read n left behind (omega (arith, short, small)) parts, le-ltb limit n short, le-ltb (length behind) (pad4 n) long, clean, at) refl

  text_long : HasNumber (limit + 1) left → text_in whole limit left ≡ Err (TooLong (whole - length left))
  unfolding text_in
  text_long many = rw (number_read many.0 left many.1.0 many.1.3 many.1.1, lt-ltb limit many.0 (omega (arith, many.1.2))) refl

  no_length : length left < 4 → text_in whole limit left ≡ Err (Short (whole - length left))
  unfolding text_in
  no_length short = rw (number_cut whole left short) refl

  clean_text : (text : List ℕ) → ((k : ℕ) → k < length text → byte_at text k ≢ 0) → position (λ byte. eqb byte 0) text ≡ None
  clean_text text none =
      let is : position_or_len (λ byte. eqb byte 0) text ≡ length text =
      position_or_len_is (λ byte. eqb byte 0) text (length text) 0 (omega arith) (λ k lt. false_from_ne_true (eqb (get_or text k 0) 0) (λ e. none k lt (eqb-true (get_or text k 0) 0 e))) (λ lt. absurd (omega (arith, lt))) in
      cond-false (ltb (position_or_len (λ byte. eqb byte 0) text) (length text)) (Some (position_or_len (λ byte. eqb byte 0) text)) None (le-ltb _ _ (omega (arith, is)))

  nul_refused : (place : ℕ) → HasNul limit (whole - length left) left place → text_in whole limit left ≡ Err (Nul place)
  nul_refused place h =
      let n = length h.text in
      let rest = h.text ++ h.behind in
      let parts : left ≡ unsigned n ++ rest = h.counted.parts ∙ append_assoc (unsigned n) h.text h.behind in
      let len = length-append h.text h.behind in
      let text_is : take n rest ≡ h.text = take_at h.text h.behind n refl in
      let at : position (λ byte. eqb byte 0) (take n rest) ≡ Some h.index =
      ap (position (λ byte. eqb byte 0)) text_is
      ∙ first_at (λ byte. eqb byte 0) h.text h.index h.within (eq-eqb (get_or h.text h.index 0) 0 h.zero) (λ k lt. false_from_ne_true (eqb (get_or h.text k 0) 0) (λ e. h.first k lt (eqb-true (get_or h.text k 0) 0 e))) in
      text_nul n rest parts h.counted.short (omega (arith, h.counted.whole, len)) h.index at
      ∙ ap (λ p. Err (Nul p)) (omega (arith, h.place_is, behind_len n rest parts h.counted.short, len, inside, h.within))

  padding_refused : (place : ℕ) → HasPadding limit (whole - length left) left place → text_in whole limit left ≡ Err (Padding place)
  padding_refused place h =
      let n = length h.text in
      let rest = h.text ++ h.behind in
      let parts : left ≡ unsigned n ++ rest = h.counted.parts ∙ append_assoc (unsigned n) h.text h.behind in
      let len = length-append h.text h.behind in
      let text_is : take n rest ≡ h.text = take_at h.text h.behind n refl in
      let behind_is : drop n rest ≡ h.behind = drop_at h.text h.behind n refl in
      let room : h.index < pad4 n - n = omega (arith, h.within) in
      let zeros = take (pad4 n - n) h.behind in
      let clean : position (λ byte. eqb byte 0) (take n rest) ≡ None = ap (position (λ byte. eqb byte 0)) text_is ∙ clean_text h.text h.no_nul in
      let at : position (λ byte. ltb 0 byte) (take (pad4 n - n) (drop n rest)) ≡ Some h.index =
      ap (λ (xs : List ℕ). position (λ byte. ltb 0 byte) (take (pad4 n - n) xs)) behind_is
      ∙ first_at (λ byte. ltb 0 byte) zeros h.index (omega (arith, length-take (pad4 n - n) h.behind, room, h.counted.whole))
      (lt-ltb 0 (get_or zeros h.index 0) (not_zero (get_or zeros h.index 0) (λ e. h.other (sym (get_or-take (pad4 n - n) h.behind h.index 0 room) ∙ e))))
      (λ k lt. le-ltb 0 (get_or zeros k 0) (omega (arith, get_or-take (pad4 n - n) h.behind k 0 (omega (arith, lt, room)), h.first k lt))) in
      text_padding n rest parts h.counted.short (omega (arith, h.counted.whole, len)) clean h.index at
      ∙ ap (λ p. Err (Padding p)) (omega (arith, h.place_is, behind_len n rest parts h.counted.short, len, inside, h.within, h.counted.whole)) where
        not_zero : (n : ℕ) → n ≢ 0 → 0 < n
        not_zero n some = omega (arith, some)

  text_refused : (fault : XdrFault) → TextFault limit (whole - length left) left fault → text_in whole limit left ≡ Err fault
  text_refused (Short place) h =
      elim h.1 [
        | inl cut ↦ no_length cut ∙ ap (λ p. Err (Short p)) (sym h.0)
        | inr counted ↦ text_cut counted.0 counted.1.0 counted.1.1 counted.1.2 counted.1.3 ∙ ap (λ p. Err (Short p)) (sym h.0)
      ]
  text_refused (TooLong place) h = text_long h.1 ∙ ap (λ p. Err (TooLong p)) (sym h.0)
  text_refused (Padding place) h = padding_refused place h
  text_refused (Micros place) h = absurd h
  text_refused (Nul place) h = nul_refused place h

-- ---- a field by its fault

no_limit : (o : Option ℕ) (limit : ℕ) → o ≡ None → o ≡ Some limit → ⊥
no_limit o limit none some = cc

one_limit : (o : Option ℕ) (a b : ℕ) → o ≡ Some a → o ≡ Some b → a ≡ b
one_limit o a b first second = cc

module _ (whole at : ℕ) (left : List ℕ) (at_is : whole - length left ≡ at) where
  number_refused : (which : Field) (fault : XdrFault) → limit_of which ≡ None → (which ≡ Microseconds → ⊥) → (EndsIn which left → length left < 4) → IsFaultOf which at left fault
      → cut_short whole (number_in w32 left) ≡ Err fault
  number_refused which (Short place) none other short h = number_cut whole left (short h.1) ∙ ap (λ p. Err (Short p)) (at_is ∙ sym h.0)
  number_refused which (TooLong place) none other short h = absurd (no_limit (limit_of which) h.1.0 none h.1.1)
  number_refused which (Padding place) none other short h = absurd (no_limit (limit_of which) h.0 none h.1)
  number_refused which (Micros place) none other short h = absurd (other h.1)
  number_refused which (Nul place) none other short h = absurd (no_limit (limit_of which) h.0 none h.1)

  micros_refused : (fault : XdrFault) → IsFaultOf Microseconds at left fault → micros_in whole left ≡ Err fault
  micros_refused (Short place) h = micros_cut whole left h.1 ∙ ap (λ p. Err (Short p)) (at_is ∙ sym h.0)
  micros_refused (TooLong place) h = absurd (no_limit None h.1.0 refl h.1.1)
  micros_refused (Padding place) h = absurd (no_limit None h.0 refl h.1)
  micros_refused (Micros place) h = micros_many whole left h.2 ∙ ap (λ p. Err (Micros p)) (at_is ∙ sym h.0)
  micros_refused (Nul place) h = absurd (no_limit None h.0 refl h.1)

  signature_refused : (fault : XdrFault) → IsFaultOf Signature at left fault → cut_short whole (fixed_in 16 left) ≡ Err fault
  signature_refused (Short place) h = signature_cut whole left h.1 ∙ ap (λ p. Err (Short p)) (at_is ∙ sym h.0)
  signature_refused (TooLong place) h = absurd (no_limit None h.1.0 refl h.1.1)
  signature_refused (Padding place) h = absurd (no_limit None h.0 refl h.1)
  signature_refused (Micros place) h = absurd (not_micros h.1) where
    not_micros : Signature ≡ Microseconds → ⊥
    not_micros e = cc
  signature_refused (Nul place) h = absurd (no_limit None h.0 refl h.1)

  text_told : (which : Field) (limit : ℕ) (fault : XdrFault) → limit_of which ≡ Some limit → (which ≡ Microseconds → ⊥) → (EndsIn which left → EndsInText limit left) → IsFaultOf which at left fault
      → TextFault limit at left fault
  text_told which limit (Short place) is other ends h = (h.0, ends h.1)
  text_told which limit (TooLong place) is other ends h = (h.0, subst (λ l. HasNumber (l + 1) left) (one_limit (limit_of which) h.1.0 limit h.1.1 is) h.1.2)
  text_told which limit (Padding place) is other ends h = subst (λ l. HasPadding l at left place) (one_limit (limit_of which) h.0 limit h.1 is) h.2
  text_told which limit (Micros place) is other ends h = absurd (other h.1)
  text_told which limit (Nul place) is other ends h = subst (λ l. HasNul l at left place) (one_limit (limit_of which) h.0 limit h.1 is) h.2

  text_refused_at : (which : Field) (limit : ℕ) (fault : XdrFault) → length left ≤ whole → limit < 2 ^ 32 → limit_of which ≡ Some limit → (which ≡ Microseconds → ⊥)
      → (EndsIn which left → EndsInText limit left) → IsFaultOf which at left fault → text_in whole limit left ≡ Err fault
  text_refused_at which limit fault inside small is other ends h =
      text_refused whole limit left inside small fault (subst (λ a. TextFault limit a left fault) (sym at_is) (text_told which limit fault is other ends h))

-- ---- the metadata

two : (a b rest : List ℕ) → a ++ b ++ rest ≡ a ++ (b ++ rest)
two a b rest = append_assoc a b rest

three : (a b c rest : List ℕ) → a ++ b ++ c ++ rest ≡ a ++ (b ++ (c ++ rest))
three a b c rest = simp append_assoc

four : (a b c d rest : List ℕ) → a ++ b ++ c ++ d ++ rest ≡ a ++ (b ++ (c ++ (d ++ rest)))
four a b c d rest = simp append_assoc

five : (a b c d e rest : List ℕ) → a ++ b ++ c ++ d ++ e ++ rest ≡ a ++ (b ++ (c ++ (d ++ (e ++ rest))))
five a b c d e rest = simp append_assoc

six : (a b c d e f rest : List ℕ) → a ++ b ++ c ++ d ++ e ++ f ++ rest ≡ a ++ (b ++ (c ++ (d ++ (e ++ (f ++ rest)))))
six a b c d e f rest = simp append_assoc

seven : (a b c d e f g rest : List ℕ) → a ++ b ++ c ++ d ++ e ++ f ++ g ++ rest ≡ a ++ (b ++ (c ++ (d ++ (e ++ (f ++ (g ++ rest))))))
seven a b c d e f g rest = simp append_assoc

module _ (whole : ℕ) (info : Metadata) (fits : Fits info) (left : List ℕ) (fault : XdrFault) where
  abbrev s : List ℕ
  s = unsigned (info.arrival / 1000000)

  abbrev m : List ℕ
  m = unsigned (info.arrival % 1000000)

  f1 : (rest : List ℕ) → number_in w32 (s ++ rest) ≡ Ok (info.arrival / 1000000, rest)
  f1 rest = unsigned_again (info.arrival / 1000000) rest (seconds_fit info fits)

  f2 : (rest : List ℕ) → micros_in whole (m ++ rest) ≡ Ok (info.arrival % 1000000, rest)
  f2 rest = micros_again whole (info.arrival % 1000000) rest (omega arith)

  f3 : (rest : List ℕ) → fixed_in 16 (info.signature ++ rest) ≡ Ok (info.signature, rest)
  f3 rest = signature_again info.signature rest fits.signature

  f4 : (rest : List ℕ) → text_in whole LONGEST_ORIGIN (opaque info.origin ++ rest) ≡ Ok (info.origin, rest)
  f4 rest = text_again whole LONGEST_ORIGIN info.origin rest (omega arith) (origin_text info fits)

  f5 : (rest : List ℕ) → number_in w32 (unsigned info.feed ++ rest) ≡ Ok (info.feed, rest)
  f5 rest = unsigned_again info.feed rest fits.feed

  f6 : (rest : List ℕ) → number_in w32 (unsigned info.seqno ++ rest) ≡ Ok (info.seqno, rest)
  f6 rest = unsigned_again info.seqno rest fits.seqno

  f7 : (rest : List ℕ) → text_in whole LONGEST_IDENT (opaque info.ident ++ rest) ≡ Ok (info.ident, rest)
  f7 rest = text_again whole LONGEST_IDENT info.ident rest (omega arith) (ident_text info fits)

  bad0 : cut_short whole (number_in w32 left) ≡ Err fault → metadata_in whole left ≡ Err fault
  unfolding metadata_in
  bad0 bad = rw bad refl

  bad1 : micros_in whole left ≡ Err fault → metadata_in whole (s ++ left) ≡ Err fault
  unfolding metadata_in
  bad1 bad = rw (f1 left, bad) refl

  bad2 : cut_short whole (fixed_in 16 left) ≡ Err fault → metadata_in whole (s ++ (m ++ left)) ≡ Err fault
  unfolding metadata_in
  bad2 bad = rw (f1 (m ++ left), f2 left, bad) refl

  bad3 : text_in whole LONGEST_ORIGIN left ≡ Err fault → metadata_in whole (s ++ (m ++ (info.signature ++ left))) ≡ Err fault
  unfolding metadata_in
  bad3 bad = rw (f1 (m ++ (info.signature ++ left)), f2 (info.signature ++ left), f3 left, bad) refl

  bad4 : cut_short whole (number_in w32 left) ≡ Err fault → metadata_in whole (s ++ (m ++ (info.signature ++ (opaque info.origin ++ left)))) ≡ Err fault
  unfolding metadata_in
  bad4 bad =
      let a = opaque info.origin ++ left in
      let b = info.signature ++ a in
      let c = m ++ b in
      rw (f1 c, f2 b, f3 a, f4 left, bad) refl

  bad5 : cut_short whole (number_in w32 left) ≡ Err fault → metadata_in whole (s ++ (m ++ (info.signature ++ (opaque info.origin ++ (unsigned info.feed ++ left))))) ≡ Err fault
  unfolding metadata_in
  bad5 bad =
      let z = unsigned info.feed ++ left in
      let a = opaque info.origin ++ z in
      let b = info.signature ++ a in
      let c = m ++ b in
      rw (f1 c, f2 b, f3 a, f4 z, f5 left, bad) refl

  bad6 : text_in whole LONGEST_IDENT left ≡ Err fault
      → metadata_in whole (s ++ (m ++ (info.signature ++ (opaque info.origin ++ (unsigned info.feed ++ (unsigned info.seqno ++ left)))))) ≡ Err fault
  unfolding metadata_in
  bad6 bad =
      let y = unsigned info.seqno ++ left in
      let z = unsigned info.feed ++ y in
      let a = opaque info.origin ++ z in
      let b = info.signature ++ a in
      let c = m ++ b in
      rw (f1 c, f2 b, f3 a, f4 z, f5 y, f6 left, bad) refl

  bad7 : cut_short whole (number_in w32 left) ≡ Err fault
      → metadata_in whole (s ++ (m ++ (info.signature ++ (opaque info.origin ++ (unsigned info.feed ++ (unsigned info.seqno ++ (opaque info.ident ++ left))))))) ≡ Err fault
  unfolding metadata_in
  bad7 bad =
      let x = opaque info.ident ++ left in
      let y = unsigned info.seqno ++ x in
      let z = unsigned info.feed ++ y in
      let a = opaque info.origin ++ z in
      let b = info.signature ++ a in
      let c = m ++ b in
      rw (f1 c, f2 b, f3 a, f4 z, f5 y, f6 x, f7 left, bad) refl

module _ (bytes left : List ℕ) (fault : XdrFault) (info : Metadata) (fits : Fits info) where
  at_field : (which : Field) → bytes ≡ before which info ++ left → length bytes - length left ≡ length (before which info) → length left ≤ length bytes
      → IsFaultOf which (length (before which info)) left fault → metadata_in (length bytes) bytes ≡ Err fault
  at_field Seconds e at_is inside h =
      ap (metadata_in (length bytes)) e
      ∙ bad0 (length bytes) info fits left fault (number_refused (length bytes) 0 left at_is Seconds fault refl (λ same. cc) (λ k. k) h)
  at_field Microseconds e at_is inside h =
      ap (metadata_in (length bytes)) e
      ∙ bad1 (length bytes) info fits left fault (micros_refused (length bytes) (length (before Microseconds info)) left at_is fault h)
  at_field Signature e at_is inside h =
      ap (metadata_in (length bytes)) (e ∙ two (unsigned (info.arrival / 1000000)) (unsigned (info.arrival % 1000000)) left)
      ∙ bad2 (length bytes) info fits left fault (signature_refused (length bytes) (length (before Signature info)) left at_is fault h)
  at_field Origin e at_is inside h =
      ap (metadata_in (length bytes)) (e ∙ three (unsigned (info.arrival / 1000000)) (unsigned (info.arrival % 1000000)) info.signature left)
      ∙ bad3 (length bytes) info fits left fault
      (text_refused_at (length bytes) (length (before Origin info)) left at_is Origin LONGEST_ORIGIN fault inside (omega arith) refl (λ same. cc) (λ k. k) h)
  at_field Feed e at_is inside h =
      ap (metadata_in (length bytes)) (e ∙ four (unsigned (info.arrival / 1000000)) (unsigned (info.arrival % 1000000)) info.signature (opaque info.origin) left)
      ∙ bad4 (length bytes) info fits left fault (number_refused (length bytes) (length (before Feed info)) left at_is Feed fault refl (λ same. cc) (λ k. k) h)
  at_field Seqno e at_is inside h =
      ap (metadata_in (length bytes)) (e ∙ five (unsigned (info.arrival / 1000000)) (unsigned (info.arrival % 1000000)) info.signature (opaque info.origin) (unsigned info.feed) left)
      ∙ bad5 (length bytes) info fits left fault (number_refused (length bytes) (length (before Seqno info)) left at_is Seqno fault refl (λ same. cc) (λ k. k) h)
  at_field Ident e at_is inside h =
      ap (metadata_in (length bytes)) (e ∙ six (unsigned (info.arrival / 1000000)) (unsigned (info.arrival % 1000000)) info.signature (opaque info.origin) (unsigned info.feed) (unsigned info.seqno) left)
      ∙ bad6 (length bytes) info fits left fault
      (text_refused_at (length bytes) (length (before Ident info)) left at_is Ident LONGEST_IDENT fault inside (omega arith) refl (λ same. cc) (λ k. k) h)
  at_field Size e at_is inside h =
      ap (metadata_in (length bytes)) (e ∙ seven (unsigned (info.arrival / 1000000)) (unsigned (info.arrival % 1000000)) info.signature (opaque info.origin) (unsigned info.feed) (unsigned info.seqno) (opaque info.ident) left)
      ∙ bad7 (length bytes) info fits left fault (number_refused (length bytes) (length (before Size info)) left at_is Size fault refl (λ same. cc) (λ k. k) h)

pub first_fault_answered : (bytes : List ℕ) (fault : XdrFault) → IsFirstFault bytes fault → metadata_at_front bytes ≡ Err fault
unfolding metadata_at_front
first_fault_answered bytes fault first =
    let len : length bytes ≡ length (before first.which first.info) + length first.left = ap length first.begins ∙ length-append (before first.which first.info) first.left in
    rw (at_field bytes first.left fault first.info first.fits first.which first.begins (omega (arith, len)) (omega (arith, len)) first.is) refl

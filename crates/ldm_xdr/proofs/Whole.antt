-- The laws of the whole: what is read is spelled so, what is spelled so is read, and no spelling begins another.
use Rattle.std.proofs.Common.{◌≡◌, ℕ, ◌+◌, ◌-◌, ◌*◌, ◌/◌, ◌%◌, ◌^◌, ◌<◌, ◌≤◌, List, [], ◌++◌, length, drop, Result, Ok, Err, refl, sym, ap, subst, ◌∙◌, append_assoc, arith}
use Rattle.std.specs.Prelude.{IfOk}
use Rattle.std.specs.Int.{w32}
use Rattle.std.proofs.lemmas.List.{append-nil, drop_at, length-append}
use Rattle.std.proofs.lemmas.List.Elements.{All-append}
use Rattle.ldm_types.specs.declared.limits.TheConstants.{LONGEST_IDENT, LONGEST_ORIGIN}
use Rattle.ldm_types.specs.Info.{Metadata, AreBytes, metadata_len}
use Rattle.ldm_xdr.specs.declared.fault.XdrFault.{XdrFault}
use Rattle.ldm_xdr.specs.Fields.{number_in, fixed_in}
use Rattle.ldm_xdr.specs.Spelling.{unsigned, opaque, spelling, Fits}
use Rattle.ldm_xdr.specs.Reading.{cut_short, micros_in, text_in, metadata_in, with_len, metadata_at_front, told_by_left, info_in}
use Rattle.ldm_xdr.proofs.Places.{none_in_both, none_in_first, none_in_second}
use Rattle.ldm_xdr.proofs.Lengths.{length_unsigned, length_opaque}
use Rattle.ldm_xdr.proofs.FieldsFound.{IsBytes, front_fits, below_256, bind_ok, ok_is, Takes, both_taken, unsigned_found, signature_found}
use Rattle.ldm_xdr.proofs.FieldsAgain.{unsigned_again, signature_again}
use Rattle.ldm_xdr.proofs.MetadataFields.{read, read_is, not_cut, IsText, micros_found, micros_again, text_found, text_again}
use Rattle.ldm_xdr.proofs.Written.{IsWritten}

regroup : (a b c d e f g h rest : List ℕ) → (a ++ b ++ c ++ d ++ e ++ f ++ g ++ h) ++ rest ≡ a ++ (b ++ (c ++ (d ++ (e ++ (f ++ (g ++ (h ++ rest)))))))
regroup a b c d e f g h rest = simp append_assoc

pub length-spelling : (info : Metadata) → length info.signature ≡ 16 → length (spelling info) ≡ metadata_len info
unfolding spelling
length-spelling info len = simp (length-append, length_unsigned, length_opaque) (omega arith)

-- ---- what is spelled is read

pub metadata_again : (whole : ℕ) (info : Metadata) (rest : List ℕ) → Fits info → metadata_in whole (spelling info ++ rest) ≡ Ok (info, rest)
unfolding spelling metadata_in
metadata_again whole info rest fits =
    let seconds = info.arrival / 1000000 in
    let micros = info.arrival % 1000000 in
    let origin : IsText LONGEST_ORIGIN info.origin = record { short = fits.texts.origin_short; no_nul = none_in_first _ info.origin info.ident fits.texts.no_nul } in
    let ident : IsText LONGEST_IDENT info.ident = record { short = fits.texts.ident_short; no_nul = none_in_second _ info.origin info.ident fits.texts.no_nul } in
    let after_ident = unsigned info.size ++ rest in
    let after_seqno = opaque info.ident ++ after_ident in
    let after_feed = unsigned info.seqno ++ after_seqno in
    let after_origin = unsigned info.feed ++ after_feed in
    let after_signature = opaque info.origin ++ after_origin in
    let after_micros = info.signature ++ after_signature in
    let after_seconds = unsigned micros ++ after_micros in
    let parts = regroup (unsigned seconds) (unsigned micros) info.signature (opaque info.origin) (unsigned info.feed) (unsigned info.seqno) (opaque info.ident) (unsigned info.size) rest in
    let f1 = unsigned_again seconds after_seconds (omega (arith, fits.arrival)) in
    let f2 = micros_again whole micros after_micros (omega arith) in
    let f3 = signature_again info.signature after_signature fits.signature in
    let f4 = text_again whole LONGEST_ORIGIN info.origin after_origin (omega arith) origin in
    let f5 = unsigned_again info.feed after_feed fits.feed in
    let f6 = unsigned_again info.seqno after_seqno fits.seqno in
    let f7 = text_again whole LONGEST_IDENT info.ident after_ident (omega arith) ident in
    let f8 = unsigned_again info.size rest fits.size in
    let arrival : seconds * 1000000 + micros ≡ info.arrival = omega arith in
    ap (metadata_in whole) parts ∙ rw (f1, f2, f3, f4, f5, f6, f7, f8, arrival) refl

pub front_again : (bytes : List ℕ) (info : Metadata) (rest : List ℕ) → Fits info → bytes ≡ spelling info ++ rest → metadata_at_front bytes ≡ Ok (info, metadata_len info)
unfolding metadata_at_front
front_again bytes info rest fits e =
    let all = spelling info ++ rest in
    let len : length all - length rest ≡ metadata_len info = omega (arith, length-append (spelling info) rest, length-spelling info fits.signature) in
    ap metadata_at_front e ∙ rw (metadata_again (length all) info rest fits) (ap (λ (n : ℕ). read (info, n)) len)

pub info_again : (info : Metadata) (rest : List ℕ) → Fits info → info_in (spelling info ++ rest) ≡ Ok (info, rest)
unfolding info_in
info_again info rest fits = rw (metadata_again (length (spelling info ++ rest)) info rest fits) refl

-- ---- what is read is spelled

-- what was read from the front, and what is behind it
pub record IsTaken (bytes : List ℕ) (info : Metadata) (rest : List ℕ) : Type 0 where
  pub fits : Fits info
  pub are_bytes : AreBytes (info.signature ++ info.origin ++ info.ident)
  pub takes : Takes bytes (spelling info) rest

taken_fields : (bytes : List ℕ) (a b : ℕ × List ℕ) (c d : List ℕ × List ℕ) (e f : ℕ × List ℕ) (g : List ℕ × List ℕ) (h : ℕ × List ℕ)
    → Takes bytes (unsigned a.0) a.1 × (a.0 < 2 ^ 32) → Takes a.1 (unsigned b.0) b.1 × (b.0 < 1000000) → Takes b.1 c.0 c.1 × (length c.0 ≡ 16)
    → Takes c.1 (opaque d.0) d.1 × IsText LONGEST_ORIGIN d.0 × IsBytes d.0 → Takes d.1 (unsigned e.0) e.1 × (e.0 < 2 ^ 32) → Takes e.1 (unsigned f.0) f.1 × (f.0 < 2 ^ 32)
    → Takes f.1 (opaque g.0) g.1 × IsText LONGEST_IDENT g.0 × IsBytes g.0 → Takes g.1 (unsigned h.0) h.1 × (h.0 < 2 ^ 32)
    → IsBytes c.0 → IsTaken bytes (record { arrival = a.0 * 1000000 + b.0; signature = c.0; origin = d.0; feed = e.0; seqno = f.0; ident = g.0; size = h.0 }) h.1
unfolding spelling
taken_fields bytes a b c d e f g h f1 f2 f3 f4 f5 f6 f7 f8 signature_fits =
    let arrival = a.0 * 1000000 + b.0 in
    let seconds : a.0 ≡ arrival / 1000000 = omega (arith, f2.1) in
    let micros : b.0 ≡ arrival % 1000000 = omega (arith, f2.1) in
    let s = unsigned (arrival / 1000000) in
    let m = unsigned (arrival % 1000000) in
    let t1 : Takes bytes s a.1 = subst (λ n. Takes bytes (unsigned n) a.1) seconds f1.0 in
    let t2 : Takes a.1 m b.1 = subst (λ n. Takes a.1 (unsigned n) b.1) micros f2.0 in
    let p2 = both_taken bytes s a.1 m b.1 t1 t2 in
    let p3 = both_taken bytes (s ++ m) b.1 c.0 c.1 p2 f3.0 in
    let p4 = both_taken bytes (s ++ m ++ c.0) c.1 (opaque d.0) d.1 p3 f4.0 in
    let p5 = both_taken bytes (s ++ m ++ c.0 ++ opaque d.0) d.1 (unsigned e.0) e.1 p4 f5.0 in
    let p6 = both_taken bytes (s ++ m ++ c.0 ++ opaque d.0 ++ unsigned e.0) e.1 (unsigned f.0) f.1 p5 f6.0 in
    let p7 = both_taken bytes (s ++ m ++ c.0 ++ opaque d.0 ++ unsigned e.0 ++ unsigned f.0) f.1 (opaque g.0) g.1 p6 f7.0 in
    let p8 = both_taken bytes (s ++ m ++ c.0 ++ opaque d.0 ++ unsigned e.0 ++ unsigned f.0 ++ opaque g.0) g.1 (unsigned h.0) h.1 p7 f8.0 in
    record {
      fits = record {
        arrival = omega (arith, f1.1, f2.1);
        signature = f3.1;
        feed = f5.1;
        seqno = f6.1;
        size = f8.1;
        texts = record { origin_short = f4.1.short; ident_short = f7.1.short; no_nul = none_in_both _ d.0 g.0 f4.1.no_nul f7.1.no_nul };
      };
      are_bytes = All-append (λ byte. byte < 256) (c.0 ++ d.0) g.0 (All-append (λ byte. byte < 256) c.0 d.0 (below_256 c.0 signature_fits) (below_256 d.0 f4.2)) (below_256 g.0 f7.2);
      takes = p8;
    }

pub metadata_found : (whole : ℕ) (bytes : List ℕ) (x : Metadata × List ℕ) → IsBytes bytes → metadata_in whole bytes ≡ Ok x → IsTaken bytes x.0 x.1
unfolding metadata_in
metadata_found whole bytes x fits e =
    let e1 = bind_ok (cut_short whole (number_in w32 bytes)) _ x e in
    let e2 = bind_ok (micros_in whole e1.0.1) _ x e1.2 in
    let e3 = bind_ok (cut_short whole (fixed_in 16 e2.0.1)) _ x e2.2 in
    let e4 = bind_ok (text_in whole LONGEST_ORIGIN e3.0.1) _ x e3.2 in
    let e5 = bind_ok (cut_short whole (number_in w32 e4.0.1)) _ x e4.2 in
    let e6 = bind_ok (cut_short whole (number_in w32 e5.0.1)) _ x e5.2 in
    let e7 = bind_ok (text_in whole LONGEST_IDENT e6.0.1) _ x e6.2 in
    let e8 = bind_ok (cut_short whole (number_in w32 e7.0.1)) _ x e7.2 in
    let f1 = unsigned_found bytes e1.0 fits (not_cut whole (number_in w32 bytes) e1.0 e1.1) in
    let f2 = micros_found whole e1.0.1 e2.0 f1.0.rest_fits e2.1 in
    let f3 = signature_found e2.0.1 e3.0 f2.0.rest_fits (not_cut whole (fixed_in 16 e2.0.1) e3.0 e3.1) in
    let f4 = text_found whole LONGEST_ORIGIN e3.0.1 e4.0 f3.0.rest_fits e4.1 in
    let f5 = unsigned_found e4.0.1 e5.0 f4.0.rest_fits (not_cut whole (number_in w32 e4.0.1) e5.0 e5.1) in
    let f6 = unsigned_found e5.0.1 e6.0 f5.0.rest_fits (not_cut whole (number_in w32 e5.0.1) e6.0 e6.1) in
    let f7 = text_found whole LONGEST_IDENT e6.0.1 e7.0 f6.0.rest_fits e7.1 in
    let f8 = unsigned_found e7.0.1 e8.0 f7.0.rest_fits (not_cut whole (number_in w32 e7.0.1) e8.0 e8.1) in
    let made : Metadata × List ℕ = (
      record { arrival = e1.0.0 * 1000000 + e2.0.0; signature = e3.0.0; origin = e4.0.0; feed = e5.0.0; seqno = e6.0.0; ident = e7.0.0; size = e8.0.0 },
      e8.0.1,
    ) in
    subst (λ (y : Metadata × List ℕ). IsTaken bytes y.0 y.1) (read_is made x e8.2)
    (taken_fields bytes e1.0 e2.0 e3.0 e4.0 e5.0 e6.0 e7.0 e8.0 f1 f2 f3 f4 f5 f6 f7 f8 (front_fits e2.0.1 e3.0.0 e3.0.1 f2.0.rest_fits f3.0.parts))

info_from : (bytes : List ℕ) (r : Result (Metadata × List ℕ) XdrFault) (x : Metadata × List ℕ) → IsBytes bytes → metadata_in (length bytes) bytes ≡ r
    → told_by_left (length bytes) r ≡ Ok x → IsTaken bytes x.0 x.1
info_from bytes (Ok found) x fits is e = subst (λ (y : Metadata × List ℕ). IsTaken bytes y.0 y.1) (ok_is found x e) (metadata_found (length bytes) bytes found fits is)
info_from bytes (Err fault) x fits is e = absurd cc

pub info_found : (bytes : List ℕ) (x : Metadata × List ℕ) → IsBytes bytes → info_in bytes ≡ Ok x → IsTaken bytes x.0 x.1
unfolding info_in
info_found bytes x fits e = info_from bytes (metadata_in (length bytes) bytes) x fits refl e

-- what was read from the front, and how many bytes it takes
pub record IsFound (bytes : List ℕ) (info : Metadata) (len : ℕ) : Type 0 where
  pub fits : Fits info
  pub are_bytes : AreBytes (info.signature ++ info.origin ++ info.ident)
  pub begins : bytes ≡ spelling info ++ drop len bytes
  pub len_is : len ≡ metadata_len info
  pub within : len ≤ length bytes

found_from : (bytes : List ℕ) (r : Result (Metadata × List ℕ) XdrFault) (x : Metadata × ℕ) → IsBytes bytes → metadata_in (length bytes) bytes ≡ r
    → with_len (length bytes) r ≡ Ok x → IsFound bytes x.0 x.1
found_from bytes (Ok found) x fits is e =
    let taken = metadata_found (length bytes) bytes found fits is in
    let parts : bytes ≡ spelling found.0 ++ found.1 = taken.takes.parts in
    let n = length bytes - length found.1 in
    let spelled = length-spelling found.0 taken.fits.signature in
    let whole : length bytes ≡ length (spelling found.0) + length found.1 = ap length parts ∙ length-append (spelling found.0) found.1 in
    let n_is : n ≡ metadata_len found.0 = omega (arith, spelled, whole) in
    let behind : drop n bytes ≡ found.1 = ap (drop n) parts ∙ drop_at (spelling found.0) found.1 n (spelled ∙ sym n_is) in
    subst (λ (y : Metadata × ℕ). IsFound bytes y.0 y.1) (read_is (found.0, n) x e) (record {
      fits = taken.fits;
      are_bytes = taken.are_bytes;
      begins = parts ∙ ap (λ (y : List ℕ). spelling found.0 ++ y) (sym behind);
      len_is = n_is;
      within = omega (arith, whole);
    })
found_from bytes (Err fault) x fits is e = absurd cc

front_found : (bytes : List ℕ) (x : Metadata × ℕ) → IsBytes bytes → metadata_at_front bytes ≡ Ok x → IsFound bytes x.0 x.1
unfolding metadata_at_front
front_found bytes x fits e = found_from bytes (metadata_in (length bytes) bytes) x fits refl e

pub was_found : (bytes : List ℕ) (r : Result (Metadata × ℕ) XdrFault) → IsBytes bytes → r ≡ metadata_at_front bytes → IfOk r (λ x. IsFound bytes x.0 x.1)
was_found bytes (Ok x) fits e = front_found bytes x fits (sym e)
was_found bytes (Err fault) fits e = tt

-- ---- spellings

-- no two spellings begin the same bytes
pub spelled_once : (a b : Metadata) (x y : List ℕ) → Fits a → Fits b → spelling a ++ x ≡ spelling b ++ y → (a ≡ b) × (x ≡ y)
spelled_once a b x y fits_a fits_b e =
    let as_a = metadata_again 0 a x fits_a in
    let as_b : metadata_in 0 (spelling a ++ x) ≡ Ok (b, y) = ap (metadata_in 0) e ∙ metadata_again 0 b y fits_b in
    let one : Metadata × List ℕ = (a, x) in
    let other : Metadata × List ℕ = (b, y) in
    let same : one ≡ other = read_is one other (sym as_a ∙ as_b) in
    (ap (λ (p : Metadata × List ℕ). p.0) same, ap (λ (p : Metadata × List ℕ). p.1) same)

pub no_longer : (a b : Metadata) (rest : List ℕ) → Fits a → Fits b → spelling b ≡ spelling a ++ rest → rest ≡ []
no_longer a b rest fits_a fits_b e = (spelled_once a b rest [] fits_a fits_b (sym e ∙ sym (append-nil (spelling b)))).1

-- eight fields that were written are the spelling of the metadata that have them
pub as_spelled : (info : Metadata) (old now : List ℕ) (arrival : ℕ) (signature origin : List ℕ) (feed seqno : ℕ) (ident : List ℕ) (size : ℕ)
    → arrival ≡ info.arrival → signature ≡ info.signature → origin ≡ info.origin → feed ≡ info.feed → seqno ≡ info.seqno → ident ≡ info.ident → size ≡ info.size → length signature ≡ 16
    → IsWritten old (unsigned (arrival / 1000000) ++ unsigned (arrival % 1000000)
    ++ signature ++ opaque origin ++ unsigned feed ++ unsigned seqno ++ opaque ident ++ unsigned size) now → now ≡ spelling info ++ drop (metadata_len info) old
unfolding spelling
as_spelled info old now arrival signature origin feed seqno ident size e1 e2 e3 e4 e5 e6 e7 len written =
    let made : Metadata = record { arrival = arrival; signature = signature; origin = origin; feed = feed; seqno = seqno; ident = ident; size = size } in
    let same : made ≡ info = rw (e1, e2, e3, e4, e5, e6, e7) refl in
    subst (λ (m : Metadata). now ≡ spelling m ++ drop (metadata_len m) old) same (written.is ∙ ap (λ k. spelling made ++ drop k old) (length-spelling made len))

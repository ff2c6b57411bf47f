-- Fields that were written are read again, whatever follows them.
use Rattle.std.proofs.Common.{◌≡◌, ℕ, ◌-◌, ◌^◌, ◌<◌, ◌≤◌, false, ltb, List, ◌++◌, length, take, drop, None, Ok, refl, sym, ap, ◌∙◌, append_assoc, arith, eq-eqb}
use Rattle.std.specs.Prelude.{position, replicate}
use Rattle.std.specs.Int.{Width, w32, w64, byte_len, from_be_bytes, to_be_bytes}
use Rattle.std.proofs.lemmas.Bool.{le-ltb}
use Rattle.std.proofs.lemmas.List.{append-nil, take_at, drop_at, length-append, length-replicate}
use Rattle.std.proofs.lemmas.Nat.{from_be_bytes-to_be_bytes_4, from_be_bytes-to_be_bytes_8}
use Rattle.ldm_types.specs.Info.{pad4}
use Rattle.ldm_xdr.specs.Fields.{number_in, up_to_in, exactly_in, padded_in, fixed_in, opaque_in}
use Rattle.ldm_xdr.specs.Spelling.{number, unsigned, padded, opaque}
use Rattle.ldm_xdr.proofs.Lengths.{length_padded}
use Rattle.ldm_xdr.proofs.Places.{none_in_zeros}

number_again : (w : Width) (n : ℕ) (rest : List ℕ) → length (to_be_bytes w n) ≡ byte_len w → from_be_bytes w (to_be_bytes w n) ≡ n
    → number_in w (number w n ++ rest) ≡ Ok (n, rest)
unfolding number_in number
number_again w n rest len back =
    let long : ltb (length (to_be_bytes w n ++ rest)) (byte_len w) ≡ false = le-ltb _ _ (omega (arith, length-append (to_be_bytes w n) rest)) in
    rw (long, take_at (to_be_bytes w n) rest (byte_len w) len, drop_at (to_be_bytes w n) rest (byte_len w) len, back) refl

pub unsigned_again : (n : ℕ) (rest : List ℕ) → n < 2 ^ 32 → number_in w32 (number w32 n ++ rest) ≡ Ok (n, rest)
unsigned_again n rest lt = number_again w32 n rest refl (from_be_bytes-to_be_bytes_4 n lt)

pub hyper_again : (n : ℕ) (rest : List ℕ) → n < 2 ^ 64 → number_in w64 (number w64 n ++ rest) ≡ Ok (n, rest)
hyper_again n rest lt = number_again w64 n rest refl (from_be_bytes-to_be_bytes_8 n lt)

pub up_to_again : (most n : ℕ) (rest : List ℕ) → n < 2 ^ 32 → n ≤ most → up_to_in most (unsigned n ++ rest) ≡ Ok (n, rest)
unfolding up_to_in
up_to_again most n rest lt le = rw (unsigned_again n rest lt, le-ltb most n le) refl

pub exactly_again : (n : ℕ) (rest : List ℕ) → n < 2 ^ 32 → exactly_in n (unsigned n ++ rest) ≡ Ok (n, rest)
unfolding exactly_in
exactly_again n rest lt = rw (unsigned_again n rest lt, eq-eqb n n refl) refl

-- bytes with their padding, whose field began anywhere
pub padded_again : (field count : ℕ) (bytes rest : List ℕ) → length bytes ≡ count → padded_in field count (padded bytes ++ rest) ≡ Ok (bytes, rest)
unfolding padded_in
padded_again field count bytes rest count_is =
    let zeros : List ℕ = replicate (pad4 (length bytes) - length bytes) 0 in
    let zeros_len : length zeros ≡ pad4 count - count = length-replicate {A = ℕ} (pad4 (length bytes) - length bytes) 0 ∙ omega (arith, count_is) in
    let whole : length (padded bytes) ≡ pad4 count = length_padded bytes ∙ ap pad4 count_is in
    let long : ltb (length (padded bytes ++ rest)) (pad4 count) ≡ false = le-ltb _ _ (omega (arith, length-append (padded bytes) rest, whole)) in
    let regrouped : padded bytes ++ rest ≡ bytes ++ (zeros ++ rest) = append_assoc bytes zeros rest in
    let front : take count (padded bytes ++ rest) ≡ bytes = ap (take count) regrouped ∙ take_at bytes (zeros ++ rest) count count_is in
    let behind : drop count (padded bytes ++ rest) ≡ zeros ++ rest = ap (drop count) regrouped ∙ drop_at bytes (zeros ++ rest) count count_is in
    let padding : take (pad4 count - count) (drop count (padded bytes ++ rest)) ≡ zeros = ap (take (pad4 count - count)) behind ∙ take_at zeros rest (pad4 count - count) zeros_len in
    let clean : position (λ byte. ltb 0 byte) (take (pad4 count - count) (drop count (padded bytes ++ rest))) ≡ None =
    ap (position (λ byte. ltb 0 byte)) padding ∙ none_in_zeros (pad4 (length bytes) - length bytes) in
    rw (long, clean, front, drop_at (padded bytes) rest (pad4 count) whole) refl

pub opaque_again : (most : ℕ) (bytes rest : List ℕ) → length bytes ≤ most → most < 2 ^ 32 → opaque_in most (opaque bytes ++ rest) ≡ Ok (bytes, rest)
unfolding opaque_in opaque
opaque_again most bytes rest le small =
    let regrouped : opaque bytes ++ rest ≡ unsigned (length bytes) ++ (padded bytes ++ rest) = append_assoc (unsigned (length bytes)) (padded bytes) rest in
    ap (opaque_in most) regrouped
    ∙ rw (up_to_again most (length bytes) (padded bytes ++ rest) (omega arith) le) (padded_again _ (length bytes) bytes rest refl)

-- a fixed opaque of 16 bytes has no padding
pub signature_again : (signature rest : List ℕ) → length signature ≡ 16 → fixed_in 16 (signature ++ rest) ≡ Ok (signature, rest)
signature_again signature rest len =
    let bare : padded signature ≡ signature = ap (λ n. signature ++ replicate (pad4 n - n) 0) len ∙ append-nil signature in
    ap (λ (x : List ℕ). padded_in (length (signature ++ rest)) 16 (x ++ rest)) (sym bare) ∙ padded_again (length (signature ++ rest)) 16 signature rest len

-- Fields that are read stand there as they are spelled.
use Rattle.std.proofs.Common.{◌≡◌, ℕ, ◌+◌, ◌-◌, ◌^◌, ◌<◌, ◌≤◌, Bool, false, true, cond, ltb, List, ◌++◌, length, get_or, take, drop, Option, Some, None, Result, Ok, Err, refl, sym, ap, subst, ◌∙◌, append_assoc, arith, inl, inr}
use Rattle.std.specs.Prelude.{All, position, replicate}
use Rattle.std.specs.Int.{Width, w32, w64, byte_len, from_be_bytes, to_be_bytes}
use Rattle.std.proofs.lemmas.Bool.{cases_lt, ltb-false}
use Rattle.std.proofs.lemmas.List.{append-nil, take_at, take-append-drop, drop-drop, length-take, length-drop, get_or-drop, get_or-take, get_or_past}
use Rattle.std.proofs.lemmas.List.Elements.{All-get_or, All-from_get_or}
use Rattle.std.proofs.lemmas.Nat.{be_bytes_4, be_bytes_8}
use Rattle.ldm_types.specs.Info.{pad4}
use Rattle.ldm_xdr.specs.Fields.{◌>>=◌, number_in, up_to_in, unless_found, padded_in, fixed_in, opaque_in}
use Rattle.ldm_xdr.specs.Spelling.{number, unsigned, hyper, padded, opaque}
use Rattle.ldm_xdr.proofs.Places.{zeros}

abbrev pub IsBytes : List ℕ → Type 0
IsBytes bytes = (i : ℕ) → get_or bytes i 0 < 256

pub bytes_fit : (bytes : List ℕ) → All (λ byte. byte < 256) bytes → IsBytes bytes
bytes_fit bytes all i =
    elim (cases_lt i (length bytes)) [
      | inl lt ↦ All-get_or (λ byte. byte < 256) bytes i 0 lt all
      | inr le ↦ rw (get_or_past bytes i 0 le) (omega arith)
    ]

pub IsBytes-drop : (n : ℕ) (bytes : List ℕ) → IsBytes bytes → IsBytes (drop n bytes)
IsBytes-drop n bytes h i = rw get_or-drop (h (n + i))

pub IsBytes-take : (n : ℕ) (bytes : List ℕ) → IsBytes bytes → IsBytes (take n bytes)
IsBytes-take n bytes h i =
    elim (cases_lt i n) [
      | inl lt ↦ rw (get_or-take n bytes i 0 lt) (h i)
      | inr le ↦ rw (get_or_past (take n bytes) i 0 (omega (arith, length-take n bytes))) (omega arith)
    ]

-- bytes in front of others
pub front_fits : (bytes front rest : List ℕ) → IsBytes bytes → bytes ≡ front ++ rest → IsBytes front
front_fits bytes front rest fits parts =
    subst (λ (x : List ℕ). IsBytes x) (ap (take (length front)) parts ∙ take_at front rest (length front) refl) (IsBytes-take (length front) bytes fits)

pub below_256 : (bytes : List ℕ) → IsBytes bytes → All (λ byte. byte < 256) bytes
below_256 bytes fits = All-from_get_or (λ byte. byte < 256) bytes 0 (λ i _. fits i)

-- the value of a step that did not fail
pub bind_ok : {A B E : Type 0} (r : Result A E) (f : A → Result B E) (y : B) → (r >>= f) ≡ Ok y → (x : A) × (r ≡ Ok x) × (f x ≡ Ok y)
bind_ok (Ok x) f y e = (x, refl, e)
bind_ok (Err d) f y e = absurd cc

-- a test that did not fail
pub guard_ok : {A E : Type 0} (b : Bool) (bad : E) (x y : A) → cond b (Err bad) (Ok x) ≡ Ok y → (b ≡ false) × (x ≡ y)
guard_ok true bad x y e = absurd cc
guard_ok false bad x y e = (refl, cc)

abbrev pub done : {A : Type 0} → A → Result A ℕ
done x = Ok x

abbrev pub failed : {A : Type 0} → ℕ → Result A ℕ
failed bad = Err bad

pub ok_is : {A : Type 0} (x y : A) → done x ≡ done y → x ≡ y
ok_is x y e = cc

-- what was taken from the front
pub record Takes (bytes text rest : List ℕ) : Type 0 where
  pub parts : bytes ≡ text ++ rest
  pub rest_fits : IsBytes rest

pub both_taken : (a x b y c : List ℕ) → Takes a x b → Takes b y c → Takes a (x ++ y) c
both_taken a x b y c p q = record { parts = p.parts ∙ ap (λ (t : List ℕ). x ++ t) q.parts ∙ sym (append_assoc x y c); rest_fits = q.rest_fits }

pub taken_as : (a x y b : List ℕ) → x ≡ y → Takes a x b → Takes a y b
taken_as a x y b same taken = subst (λ (t : List ℕ). Takes a t b) same taken

-- ---- numbers

number_found : (w : Width) (limit : ℕ) (bytes : List ℕ) (x : ℕ × List ℕ) → IsBytes bytes
    → ((front : List ℕ) → length front ≡ byte_len w → IsBytes front → (to_be_bytes w (from_be_bytes w front) ≡ front) × (from_be_bytes w front < limit))
    → number_in w bytes ≡ Ok x → Takes bytes (number w x.0) x.1 × (x.0 < limit)
unfolding number_in number
number_found w limit bytes x fits back e =
    let n = byte_len w in
    let made : ℕ × List ℕ = (from_be_bytes w (take n bytes), drop n bytes) in
    let g = guard_ok (ltb (length bytes) n) (length bytes) made x e in
    let long : n ≤ length bytes = ltb-false _ _ g.0 in
    let b = back (take n bytes) (omega (arith, length-take n bytes)) (IsBytes-take n bytes fits) in
    let parts : bytes ≡ to_be_bytes w (from_be_bytes w (take n bytes)) ++ drop n bytes =
    sym (take-append-drop n bytes) ∙ ap (λ (t : List ℕ). t ++ drop n bytes) (sym b.0) in
    subst (λ (y : ℕ × List ℕ). Takes bytes (to_be_bytes w y.0) y.1 × (y.0 < limit)) g.1 (record { parts = parts; rest_fits = IsBytes-drop n bytes fits }, b.1)

pub unsigned_found : (bytes : List ℕ) (x : ℕ × List ℕ) → IsBytes bytes → number_in w32 bytes ≡ Ok x → Takes bytes (unsigned x.0) x.1 × (x.0 < 2 ^ 32)
unsigned_found bytes x fits e =
    number_found w32 (2 ^ 32) bytes x fits (λ front len f. (be_bytes_4 front _ len f refl, omega (arith, f 0, f 1, f 2, f 3))) e

pub hyper_found : (bytes : List ℕ) (x : ℕ × List ℕ) → IsBytes bytes → number_in w64 bytes ≡ Ok x → Takes bytes (hyper x.0) x.1 × (x.0 < 2 ^ 64)
hyper_found bytes x fits e =
    number_found w64 (2 ^ 64) bytes x fits (λ front len f. (be_bytes_8 front _ len f refl, omega (arith, f 0, f 1, f 2, f 3, f 4, f 5, f 6, f 7))) e

pub up_to_found : (most : ℕ) (bytes : List ℕ) (x : ℕ × List ℕ) → IsBytes bytes → up_to_in most bytes ≡ Ok x → Takes bytes (unsigned x.0) x.1 × (x.0 ≤ most)
unfolding up_to_in
up_to_found most bytes x fits e =
    let b = bind_ok (number_in w32 bytes) (λ n. cond (ltb most n.0) (Err (length bytes)) (Ok n)) x e in
    let g = guard_ok (ltb most b.0.0) (length bytes) b.0 x b.2 in
    let le : b.0.0 ≤ most = ltb-false _ _ g.0 in
    subst (λ (y : ℕ × List ℕ). Takes bytes (unsigned y.0) y.1 × (y.0 ≤ most)) g.1 ((unsigned_found bytes b.0 fits b.1).0, le)

-- ---- bytes

none_found : (found : Option ℕ) (padding : ℕ) (bytes left : List ℕ) (x : List ℕ × List ℕ) → unless_found found padding bytes left ≡ Ok x → (found ≡ None) × ((bytes, left) ≡ x)
none_found None padding bytes left x e = (refl, cc)
none_found (Some i) padding bytes left x e = absurd cc

pub guard_then : {A E : Type 0} (b : Bool) (bad : E) (r : Result A E) (y : A) → cond b (Err bad) r ≡ Ok y → (b ≡ false) × (r ≡ Ok y)
guard_then true bad r y e = absurd cc
guard_then false bad r y e = (refl, e)

pub padded_found : (field count : ℕ) (bytes : List ℕ) (x : List ℕ × List ℕ) → IsBytes bytes → padded_in field count bytes ≡ Ok x → Takes bytes (padded x.0) x.1 × (length x.0 ≡ count)
unfolding padded_in
padded_found field count bytes x fits e =
    let whole = pad4 count in
    let behind = drop count bytes in
    let g = guard_then (ltb (length bytes) whole) field _ x e in
    let long : whole ≤ length bytes = ltb-false _ _ g.0 in
    let more : count ≤ whole = omega arith in
    let clean = none_found (position (λ byte. ltb 0 byte) (take (whole - count) behind)) (length bytes - count) (take count bytes) (drop whole bytes) x g.1 in
    let len : length (take count bytes) ≡ count = omega (arith, length-take count bytes) in
    let padding_len : length (take (whole - count) behind) ≡ whole - count = omega (arith, length-take (whole - count) behind, length-drop count bytes) in
    let padding : take (whole - count) behind ≡ replicate (whole - count) 0 = zeros (take (whole - count) behind) clean.0 ∙ ap (λ n. replicate n 0) padding_len in
    let rest : drop (whole - count) behind ≡ drop whole bytes = drop-drop (whole - count) count bytes ∙ ap (λ n. drop n bytes) (omega arith) in
    let second : Takes behind (replicate (whole - count) 0) (drop whole bytes) = record {
      parts = sym (take-append-drop (whole - count) behind) ∙ ap (λ (t : List ℕ). t ++ drop (whole - count) behind) padding ∙ ap (λ (t : List ℕ). replicate (whole - count) 0 ++ t) rest;
      rest_fits = IsBytes-drop whole bytes fits;
    } in
    let first : Takes bytes (take count bytes) behind = record { parts = sym (take-append-drop count bytes); rest_fits = IsBytes-drop count bytes fits } in
    let both = both_taken bytes (take count bytes) behind (replicate (whole - count) 0) (drop whole bytes) first second in
    let spelled : take count bytes ++ replicate (whole - count) 0 ≡ padded (take count bytes) = ap (λ n. take count bytes ++ replicate (pad4 n - n) 0) (sym len) in
    subst (λ (y : List ℕ × List ℕ). Takes bytes (padded y.0) y.1 × (length y.0 ≡ count)) clean.1 (taken_as bytes _ (padded (take count bytes)) (drop whole bytes) spelled both, len)

pub opaque_found : (most : ℕ) (bytes : List ℕ) (x : List ℕ × List ℕ) → IsBytes bytes → opaque_in most bytes ≡ Ok x → Takes bytes (opaque x.0) x.1 × (length x.0 ≤ most)
unfolding opaque_in opaque
opaque_found most bytes x fits e =
    let b = bind_ok (up_to_in most bytes) (λ count. padded_in (length bytes) count.0 count.1) x e in
    let count = up_to_found most bytes b.0 fits b.1 in
    let body = padded_found (length bytes) b.0.0 b.0.1 x count.0.rest_fits b.2 in
    let counted : Takes bytes (unsigned (length x.0)) b.0.1 = taken_as bytes (unsigned b.0.0) (unsigned (length x.0)) b.0.1 (ap (λ n. unsigned n) (sym body.1)) count.0 in
    (both_taken bytes (unsigned (length x.0)) b.0.1 (padded x.0) x.1 counted body.0, omega (arith, body.1, count.1))

pub signature_found : (bytes : List ℕ) (x : List ℕ × List ℕ) → IsBytes bytes → fixed_in 16 bytes ≡ Ok x → Takes bytes x.0 x.1 × (length x.0 ≡ 16)
signature_found bytes x fits e =
    let p = padded_found (length bytes) 16 bytes x fits e in
    let bare : padded x.0 ≡ x.0 = ap (λ n. x.0 ++ replicate (pad4 n - n) 0) p.1 ∙ append-nil x.0 in
    (taken_as bytes (padded x.0) x.0 x.1 bare p.0, p.1)

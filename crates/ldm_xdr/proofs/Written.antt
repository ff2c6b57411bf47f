-- Writing one field behind another.
use Rattle.std.proofs.Common.{◌≡◌, ℕ, ◌+◌, ◌-◌, ◌≤◌, List, [], ◌++◌, length, take, drop, refl, sym, ap, subst, ◌∙◌, append_assoc, arith}
use Rattle.std.proofs.lemmas.List.{append-nil, take_at, drop_at, drop_all, drop-drop, drop-append-le, length-append, length-take, length-take-le, length-drop, take-append-drop}
use borrow.Rule.Slice.PartMut.{put_mid, mid_of}
use Rattle.ldm_xdr.specs.Spelling.{unsigned, opaque}
use Rattle.ldm_types.specs.Info.{pad4}
use Rattle.std.specs.Prelude.{replicate}
use Rattle.ldm_xdr.specs.Writing.{put_at}

-- a front was written over some bytes, and what was behind it stands
pub record IsWritten (old front now : List ℕ) : Type 0 where
  pub is : now ≡ front ++ drop (length front) old
  pub room : length front ≤ length old

pub length-written : (old front now : List ℕ) → IsWritten old front now → length now ≡ length old
length-written old front now written =
    let room = written.room in
    ap length written.is ∙ length-append front (drop (length front) old) ∙ omega (arith, length-drop (length front) old)

behind : (old front now : List ℕ) (at : ℕ) → IsWritten old front now → length front ≡ at → drop at now ≡ drop at old
behind old front now at written at_is = ap (drop at) written.is ∙ drop_at front (drop (length front) old) at at_is ∙ ap (λ k. drop k old) at_is

pub length-mid : (old front now : List ℕ) (at width : ℕ) → IsWritten old front now → length front ≡ at → at + width ≤ length old → length (mid_of at width now) ≡ width
length-mid old front now at width written at_is room =
    omega (arith, length-take width (drop at now), length-drop at now, length-written old front now written)

-- nothing is written yet, and the front up to a place stands as it is
pub unwritten : (old : List ℕ) (at : ℕ) → at ≤ length old → IsWritten old (take at old) old
unwritten old at le =
    let len : length (take at old) ≡ at = length-take-le at old le in
    record { is = sym (take-append-drop at old) ∙ ap (λ k. take at old ++ drop k old) (sym len); room = omega (arith, length-take at old) }

-- a field that was written from the front's end on; what the write may reach ends there or behind the field
pub put_more : (old front now field part : List ℕ) (at width : ℕ) → IsWritten old front now → length front ≡ at → length field ≤ width
    → at + length field ≤ length old → part ≡ field ++ drop (length field) (mid_of at width now)
    → IsWritten old (front ++ field) (put_mid at width now part)
put_more old front now field part at width written at_is fits room part_is =
    let n = length field in
    let rest = drop at now in
    let before : take at now ≡ front = ap (take at) written.is ∙ take_at front (drop (length front) old) at at_is in
    let same : drop at now ≡ drop at old = behind old front now at written at_is in
    let long : n ≤ length (take width (drop at now)) = omega (arith, length-take width (drop at now), length-drop at now, length-written old front now written) in
    let kept : drop n (take width (drop at now)) ++ drop width (drop at now) ≡ drop n (drop at now) =
    sym (drop-append-le n (take width (drop at now)) (drop width (drop at now)) long) ∙ ap (drop n) (take-append-drop width (drop at now)) in
    let part_end : part ++ drop width (drop at now) ≡ field ++ drop n (drop at now) = ap (λ (x : List ℕ). x ++ drop width (drop at now)) part_is
    ∙ append_assoc field (drop n (take width (drop at now))) (drop width (drop at now)) ∙ ap (λ (x : List ℕ). field ++ x) kept in
    let last : drop n (drop at now) ≡ drop (length (front ++ field)) old = ap (drop n) same ∙ drop-drop n at old ∙ ap (λ k. drop k old) (omega (arith, length-append front field)) in
    let whole : put_mid at width now part ≡ front ++ (field ++ drop (length (front ++ field)) old) =
    ap (λ (x : List ℕ). x ++ (part ++ drop width (drop at now))) before ∙ ap (λ (x : List ℕ). front ++ x) (part_end ∙ ap (λ (x : List ℕ). field ++ x) last) in
    record { is = whole ∙ sym (append_assoc front field (drop (length (front ++ field)) old)); room = omega (arith, length-append front field) }

-- the same where the write may reach only the field
pub put_exactly : (old front now field part : List ℕ) (at width : ℕ) → IsWritten old front now → length front ≡ at → length field ≡ width
    → at + width ≤ length old → part ≡ field → IsWritten old (front ++ field) (put_mid at width now part)
put_exactly old front now field part at width written at_is fits room part_is =
    let none : drop (length field) (mid_of at width now) ≡ [] = drop_all (length field) (mid_of at width now) (omega (arith, length-mid old front now at width written at_is room)) in
    put_more old front now field part at width written at_is (omega arith) (omega arith) (part_is ∙ sym (append-nil field) ∙ ap (λ (x : List ℕ). field ++ x) (sym none))

-- what was written behind a place alone
pub put_at-from_written : (old field now : List ℕ) (at : ℕ) → at ≤ length old → IsWritten old (take at old ++ field) now → now ≡ put_at at field old
put_at-from_written old field now at le written =
    written.is ∙ ap (λ k. take at old ++ field ++ drop k old) (length-append (take at old) field ∙ ap (λ k. k + length field) (length-take-le at old le))

-- one field more, at the end of the front
pub then_put : (old front now field new : List ℕ) (at : ℕ) → IsWritten old front now → length front ≡ at → at + length field ≤ length old
    → new ≡ put_at at field now → IsWritten old (front ++ field) new
then_put old front now field new at written at_is room new_is =
    let len = length-written old front now written in
    let before : take at now ≡ front = ap (take at) written.is ∙ take_at front (drop (length front) old) at at_is in
    let last : drop (at + length field) now ≡ drop (length (front ++ field)) old =
    sym (drop-drop (length field) at now) ∙ ap (drop (length field)) (behind old front now at written at_is) ∙ drop-drop (length field) at old
    ∙ ap (λ k. drop k old) (omega (arith, length-append front field)) in
    record { is = new_is ∙ ap (λ (x : List ℕ). x ++ field ++ drop (at + length field) now) before ∙ ap (λ (x : List ℕ). front ++ field ++ x) last; room = omega (arith, length-append front field) }

-- the parts of a string, behind a front
pub whole_string : (old front text now : List ℕ) → IsWritten old (front ++ unsigned (length text) ++ text ++ replicate (pad4 (length text) - length text) 0) now
    → IsWritten old (front ++ opaque text) now
unfolding opaque
whole_string old front text now written =
    let zeros : List ℕ = replicate (pad4 (length text) - length text) 0 in
    let same : front ++ unsigned (length text) ++ text ++ zeros ≡ front ++ opaque text =
    append_assoc (front ++ unsigned (length text)) text zeros ∙ append_assoc front (unsigned (length text)) (text ++ zeros) in
    subst (λ (x : List ℕ). IsWritten old x now) same written

-- a front that ends at a place, and one field more behind it
pub record EndsAt (old front now : List ℕ) (at : ℕ) : Type 0 where
  pub written : IsWritten old front now
  pub end : length front ≡ at

pub one_put : (old front now field new : List ℕ) (at next : ℕ) → EndsAt old front now at → at + length field ≤ length old → new ≡ put_at at field now
    → next ≡ at + length field → EndsAt old (front ++ field) new next
one_put old front now field new at next done room new_is next_is =
    record { written = then_put old front now field new at done.written done.end room new_is; end = length-append front field ∙ ap (λ k. k + length field) done.end ∙ sym next_is }

-- the place behind the eighth field
abbrev pub end_of : List ℕ → List ℕ → List ℕ → List ℕ → List ℕ → List ℕ → List ℕ → List ℕ → ℕ
end_of a b c d e f g h = length a + length b + length c + length d + length e + length f + length g + length h

pub eight_put : (old a b c d e f g h s1 s2 s3 s4 s5 s6 s7 s8 : List ℕ) (p1 p2 p3 p4 p5 p6 p7 : ℕ) → end_of a b c d e f g h ≤ length old
    → s1 ≡ put_at 0 a old → p1 ≡ length a → s2 ≡ put_at p1 b s1 → p2 ≡ p1 + length b → s3 ≡ put_at p2 c s2 → p3 ≡ p2 + length c → s4 ≡ put_at p3 d s3 → p4 ≡ p3 + length d
    → s5 ≡ put_at p4 e s4 → p5 ≡ p4 + length e → s6 ≡ put_at p5 f s5 → p6 ≡ p5 + length f → s7 ≡ put_at p6 g s6 → p7 ≡ p6 + length g → s8 ≡ put_at p7 h s7
    → IsWritten old (a ++ b ++ c ++ d ++ e ++ f ++ g ++ h) s8
eight_put old a b c d e f g h s1 s2 s3 s4 s5 s6 s7 s8 p1 p2 p3 p4 p5 p6 p7 room i1 e1 i2 e2 i3 e3 i4 e4 i5 e5 i6 e6 i7 e7 i8 =
    let w0 : EndsAt old [] old 0 = record { written = unwritten old 0 (omega arith); end = refl } in
    let w1 = one_put old [] old a s1 0 p1 w0 (omega arith) i1 (omega arith) in
    let w2 = one_put old a s1 b s2 p1 p2 w1 (omega arith) i2 e2 in
    let w3 = one_put old (a ++ b) s2 c s3 p2 p3 w2 (omega arith) i3 e3 in
    let w4 = one_put old (a ++ b ++ c) s3 d s4 p3 p4 w3 (omega arith) i4 e4 in
    let w5 = one_put old (a ++ b ++ c ++ d) s4 e s5 p4 p5 w4 (omega arith) i5 e5 in
    let w6 = one_put old (a ++ b ++ c ++ d ++ e) s5 f s6 p5 p6 w5 (omega arith) i6 e6 in
    let w7 = one_put old (a ++ b ++ c ++ d ++ e ++ f) s6 g s7 p6 p7 w6 (omega arith) i7 e7 in
    then_put old (a ++ b ++ c ++ d ++ e ++ f ++ g) s7 h s8 p7 w7.written w7.end (omega arith) i8

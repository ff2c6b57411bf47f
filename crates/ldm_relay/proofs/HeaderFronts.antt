-- A header that is read is read of the front of the bytes alone, whatever follows it, and that front is short.
use Rattle.std.proofs.Common.{◌≡◌, ℕ, ◌+◌, ◌≤◌, true, false, cond, eqb, ltb, List, ◌++◌, length, take, drop, Result, Ok, Err, refl, sym, ap, subst, ◌∙◌, append_assoc, arith, inl, inr}
use Rattle.std.specs.Int.{w32, from_be_bytes}
use Rattle.std.proofs.lemmas.Bool.{ltb-false, le-ltb}
use Rattle.std.proofs.lemmas.List.{take_at, drop_at, take-append-drop, length-append, length-take}
use Rattle.ldm_types.specs.Info.{pad4}
use Rattle.ldm_xdr.specs.Fields.{◌>>=◌, number_in, up_to_in, exactly_in, passed_in}
use Rattle.ldm_relay.specs.declared.header.CallHeader.{CallHeader}
use Rattle.ldm_relay.specs.declared.header.TheConstants.{CALL, REPLY, RPC_VERSION, ACCEPTED, NO_AUTHENTICATION, LONGEST_AUTHENTICATION, LAST_STATUS}
use Rattle.ldm_relay.specs.Headers.{authentication_in, call_header_in, reply_header_in}
use Rattle.ldm_xdr.proofs.FieldsFound.{bind_ok, guard_ok, ok_is}
use Rattle.ldm_relay.proofs.ClassesFound.{chosen, err_is_no_ok}

-- what was read stands at the front of the bytes, and is read whatever follows it
record IsFront {A : Type 0} (reading : List ℕ → Result (A × List ℕ) ℕ) (most : ℕ) (left : List ℕ) (x : A × List ℕ) : Type 0 where
  front : List ℕ
  parts : left ≡ front ++ x.1
  short : length front ≤ most
  again : (rest : List ℕ) → reading (front ++ rest) ≡ Ok (x.0, rest)

joined : (a x b y c : List ℕ) → a ≡ x ++ b → b ≡ y ++ c → a ≡ (x ++ y) ++ c
joined a x b y c p q = p ∙ ap (λ (t : List ℕ). x ++ t) q ∙ sym (append_assoc x y c)

in_front : (a x b : List ℕ) → a ≡ x ++ b → length a ≡ length x + length b
in_front a x b parts = ap (λ (t : List ℕ). length t) parts ∙ length-append x b

number_front : (left : List ℕ) (x : ℕ × List ℕ) → number_in w32 left ≡ Ok x → IsFront (number_in w32) 4 left x
unfolding number_in
number_front left x e =
    let made : ℕ × List ℕ = (from_be_bytes w32 (take 4 left), drop 4 left) in
    let g = guard_ok (ltb (length left) 4) (length left) made x e in
    let long : 4 ≤ length left = ltb-false _ _ g.0 in
    let len : length (take 4 left) ≡ 4 = omega (arith, length-take 4 left) in
    subst (IsFront (number_in w32) 4 left) g.1 (record {
      front = take 4 left;
      parts = sym (take-append-drop 4 left);
      short = omega arith;
      again = λ rest.
          let enough : ltb (length (take 4 left ++ rest)) 4 ≡ false = le-ltb _ _ (omega (arith, length-append (take 4 left) rest)) in
          rw (enough, take_at (take 4 left) rest 4 len, drop_at (take 4 left) rest 4 len) refl;
    })

exactly_front : (given : ℕ) (left : List ℕ) (x : ℕ × List ℕ) → exactly_in given left ≡ Ok x → IsFront (exactly_in given) 4 left x
unfolding exactly_in
exactly_front given left x e =
    let n = bind_ok (number_in w32 left) (λ number. cond (eqb number.0 given) (Ok number) (Err (length left))) x e in
    let number = number_front left n.0 n.1 in
    elim (chosen (eqb n.0.0 given) _ _ _ n.2) [
      | inl h ↦
          subst (IsFront (exactly_in given) 4 left) (ok_is n.0 x h.1)
          (record { front = number.front; parts = number.parts; short = number.short; again = λ rest. rw (number.again rest, h.0) refl })
      | inr h ↦ absurd (err_is_no_ok (length left) x h.1)
    ]

up_to_front : (most : ℕ) (left : List ℕ) (x : ℕ × List ℕ) → up_to_in most left ≡ Ok x → IsFront (up_to_in most) 4 left x × (x.0 ≤ most)
unfolding up_to_in
up_to_front most left x e =
    let n = bind_ok (number_in w32 left) (λ number. cond (ltb most number.0) (Err (length left)) (Ok number)) x e in
    let number = number_front left n.0 n.1 in
    let g = guard_ok (ltb most n.0.0) (length left) n.0 x n.2 in
    subst (λ (y : ℕ × List ℕ). IsFront (up_to_in most) 4 left y × (y.0 ≤ most)) g.1
    (record { front = number.front; parts = number.parts; short = number.short; again = λ rest. rw (number.again rest, g.0) refl }, ltb-false _ _ g.0)

-- the same of a credential or verifier, of which nothing is kept
record IsPassed (left behind : List ℕ) : Type 0 where
  front : List ℕ
  parts : left ≡ front ++ behind
  short : length front ≤ 408
  again : (rest : List ℕ) → authentication_in (front ++ rest) ≡ Ok rest

authentication_front : (left behind : List ℕ) → authentication_in left ≡ Ok behind → IsPassed left behind
unfolding authentication_in passed_in
authentication_front left behind e =
    let f = bind_ok (exactly_in NO_AUTHENTICATION left) _ behind e in
    let n = bind_ok (up_to_in LONGEST_AUTHENTICATION f.0.1) _ behind f.2 in
    let len = pad4 n.0.0 in
    let flavour = exactly_front NO_AUTHENTICATION left f.0 f.1 in
    let count = up_to_front LONGEST_AUTHENTICATION f.0.1 n.0 n.1 in
    let g = guard_ok (ltb (length n.0.1) len) (length f.0.1) (drop len n.0.1) behind n.2 in
    let long : len ≤ length n.0.1 = ltb-false _ _ g.0 in
    let body = take len n.0.1 in
    let body_len : length body ≡ len = omega (arith, length-take len n.0.1) in
    let counted = joined left flavour.front f.0.1 count.0.front n.0.1 flavour.parts count.0.parts in
    subst (IsPassed left) g.1 (record {
      front = flavour.front ++ count.0.front ++ body;
      parts = joined left (flavour.front ++ count.0.front) n.0.1 body (drop len n.0.1) counted (sym (take-append-drop len n.0.1));
      short = simp length-append (omega (arith, flavour.short, count.0.short, count.1));
      again = λ rest.
          let enough : ltb (length (body ++ rest)) len ≡ false = le-ltb _ _ (omega (arith, length-append body rest)) in
          let regrouped : (flavour.front ++ count.0.front ++ body) ++ rest ≡ flavour.front ++ (count.0.front ++ (body ++ rest)) = simp append_assoc in
          ap authentication_in regrouped ∙ rw (flavour.again (count.0.front ++ (body ++ rest)), count.0.again (body ++ rest), enough, drop_at body rest len body_len) refl;
    })

regroup : (a b c d e f g h rest : List ℕ) → (a ++ b ++ c ++ d ++ e ++ f ++ g ++ h) ++ rest ≡ a ++ (b ++ (c ++ (d ++ (e ++ (f ++ (g ++ (h ++ rest)))))))
regroup a b c d e f g h rest = simp append_assoc

short_eight : (a b c d e f g h : List ℕ) → length a ≤ 4 → length b ≤ 4 → length c ≤ 4 → length d ≤ 4 → length e ≤ 4 → length f ≤ 4 → length g ≤ 408 → length h ≤ 408
    → length (a ++ b ++ c ++ d ++ e ++ f ++ g ++ h) ≤ 840
short_eight a b c d e f g h pa pb pc pd pe pf pg ph = simp length-append (omega arith)

then_ok : {A B E : Type 0} (r : Result A E) (x : A) (f : A → Result B E) (y : Result B E) → r ≡ Ok x → f x ≡ y → (r >>= f) ≡ y
then_ok r x f y is e = rw is e

pub record IsHeaderFront (left : List ℕ) (x : CallHeader × List ℕ) : Type 0 where
  pub front : List ℕ
  pub parts : left ≡ front ++ x.1
  pub short : length front ≤ 840
  pub again : (rest : List ℕ) → call_header_in (front ++ rest) ≡ Ok (x.0, rest)

header_of_fronts : (left : List ℕ) (a b c d e f : ℕ × List ℕ) (g h : List ℕ) → IsFront (number_in w32) 4 left a → IsFront (exactly_in CALL) 4 a.1 b
    → IsFront (exactly_in RPC_VERSION) 4 b.1 c → IsFront (number_in w32) 4 c.1 d → IsFront (number_in w32) 4 d.1 e → IsFront (number_in w32) 4 e.1 f
    → IsPassed f.1 g → IsPassed g h → IsHeaderFront left (record { xid = a.0; program = d.0; version = e.0; procedure = f.0 }, h)
unfolding call_header_in
header_of_fronts left a b c d e f g h f1 f2 f3 f4 f5 f6 f7 f8 =
    let p2 = joined left f1.front a.1 f2.front b.1 f1.parts f2.parts in
    let p3 = joined left (f1.front ++ f2.front) b.1 f3.front c.1 p2 f3.parts in
    let p4 = joined left (f1.front ++ f2.front ++ f3.front) c.1 f4.front d.1 p3 f4.parts in
    let p5 = joined left (f1.front ++ f2.front ++ f3.front ++ f4.front) d.1 f5.front e.1 p4 f5.parts in
    let p6 = joined left (f1.front ++ f2.front ++ f3.front ++ f4.front ++ f5.front) e.1 f6.front f.1 p5 f6.parts in
    let p7 = joined left (f1.front ++ f2.front ++ f3.front ++ f4.front ++ f5.front ++ f6.front) f.1 f7.front g p6 f7.parts in
    let p8 = joined left (f1.front ++ f2.front ++ f3.front ++ f4.front ++ f5.front ++ f6.front ++ f7.front) g f8.front h p7 f8.parts in
    record {
      front = f1.front ++ f2.front ++ f3.front ++ f4.front ++ f5.front ++ f6.front ++ f7.front ++ f8.front;
      parts = p8;
      short = short_eight f1.front f2.front f3.front f4.front f5.front f6.front f7.front f8.front f1.short f2.short f3.short f4.short f5.short f6.short f7.short f8.short;
      again = λ rest.
          let r7 : List ℕ = f8.front ++ rest in
          let r6 : List ℕ = f7.front ++ r7 in
          let r5 : List ℕ = f6.front ++ r6 in
          let r4 : List ℕ = f5.front ++ r5 in
          let r3 : List ℕ = f4.front ++ r4 in
          let r2 : List ℕ = f3.front ++ r3 in
          let r1 : List ℕ = f2.front ++ r2 in
          ap call_header_in (regroup f1.front f2.front f3.front f4.front f5.front f6.front f7.front f8.front rest)
          ∙ then_ok (number_in w32 (f1.front ++ r1)) (a.0, r1) _ _ (f1.again r1)
          (then_ok (exactly_in CALL r1) (b.0, r2) _ _ (f2.again r2)
          (then_ok (exactly_in RPC_VERSION r2) (c.0, r3) _ _ (f3.again r3)
          (then_ok (number_in w32 r3) (d.0, r4) _ _ (f4.again r4)
          (then_ok (number_in w32 r4) (e.0, r5) _ _ (f5.again r5)
          (then_ok (number_in w32 r5) (f.0, r6) _ _ (f6.again r6)
          (then_ok (authentication_in r6) r7 _ _ (f7.again r7)
          (then_ok (authentication_in r7) rest _ _ (f8.again rest) refl)))))));
    }

pub call_header_front : (left : List ℕ) (x : CallHeader × List ℕ) → call_header_in left ≡ Ok x → IsHeaderFront left x
unfolding call_header_in
call_header_front left x e =
    let e1 = bind_ok (number_in w32 left) _ x e in
    let e2 = bind_ok (exactly_in CALL e1.0.1) _ x e1.2 in
    let e3 = bind_ok (exactly_in RPC_VERSION e2.0.1) _ x e2.2 in
    let e4 = bind_ok (number_in w32 e3.0.1) _ x e3.2 in
    let e5 = bind_ok (number_in w32 e4.0.1) _ x e4.2 in
    let e6 = bind_ok (number_in w32 e5.0.1) _ x e5.2 in
    let e7 = bind_ok (authentication_in e6.0.1) _ x e6.2 in
    let e8 = bind_ok (authentication_in e7.0) _ x e7.2 in
    subst (IsHeaderFront left) (ok_is (record { xid = e1.0.0; program = e4.0.0; version = e5.0.0; procedure = e6.0.0 }, e8.0) x e8.2)
    (header_of_fronts left e1.0 e2.0 e3.0 e4.0 e5.0 e6.0 e7.0 e8.0 (number_front left e1.0 e1.1) (exactly_front CALL e1.0.1 e2.0 e2.1)
    (exactly_front RPC_VERSION e2.0.1 e3.0 e3.1) (number_front e3.0.1 e4.0 e4.1) (number_front e4.0.1 e5.0 e5.1) (number_front e5.0.1 e6.0 e6.1)
    (authentication_front e6.0.1 e7.0 e7.1) (authentication_front e7.0 e8.0 e8.1))

-- the header of a reply is as short
pub reply_header_short : (left : List ℕ) (x : ℕ × List ℕ) → reply_header_in left ≡ Ok x → length left ≤ 420 + length x.1
unfolding reply_header_in
reply_header_short left x e =
    let e1 = bind_ok (number_in w32 left) _ x e in
    let e2 = bind_ok (exactly_in REPLY e1.0.1) _ x e1.2 in
    let e3 = bind_ok (exactly_in ACCEPTED e2.0.1) _ x e2.2 in
    let e4 = bind_ok (authentication_in e3.0.1) _ x e3.2 in
    let e5 = bind_ok (up_to_in LAST_STATUS e4.0) _ x e4.2 in
    let f1 = number_front left e1.0 e1.1 in
    let f2 = exactly_front REPLY e1.0.1 e2.0 e2.1 in
    let f3 = exactly_front ACCEPTED e2.0.1 e3.0 e3.1 in
    let f4 = authentication_front e3.0.1 e4.0 e4.1 in
    let made : ℕ × List ℕ = (e1.0.0, e4.0) in
    let l1 = in_front left f1.front e1.0.1 f1.parts in
    let l2 = in_front e1.0.1 f2.front e2.0.1 f2.parts in
    let l3 = in_front e2.0.1 f3.front e3.0.1 f3.parts in
    let l4 = in_front e3.0.1 f4.front e4.0 f4.parts in
    subst (λ (y : ℕ × List ℕ). length left ≤ 420 + length y.1) (ok_is made x e5.2) (omega (arith, l1, l2, l3, l4, f1.short, f2.short, f3.short, f4.short))

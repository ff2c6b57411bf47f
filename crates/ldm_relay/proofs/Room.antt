-- How many bytes of a record are behind what was read, so that a call that is read from a record is not too long for one.
use Rattle.std.proofs.Common.{◌≡◌, ℕ, ◌+◌, ◌≤◌, ltb, eqb, List, length, take, drop, Ok, ap, subst, ◌∙◌, arith, inl, inr}
use Rattle.std.specs.Int.{w32, from_be_bytes}
use Rattle.std.proofs.lemmas.Bool.{ltb-false}
use Rattle.std.proofs.lemmas.List.{length-append, length-drop}
use Rattle.ldm_types.specs.Info.{Metadata, pad4, metadata_len}
use Rattle.ldm_xdr.specs.Reading.{info_in}
use Rattle.ldm_xdr.proofs.Whole.{info_found, length-spelling}
use Rattle.ldm_relay.specs.declared.header.CallHeader.{CallHeader}
use Rattle.ldm_relay.specs.declared.header.TheConstants.{CALL, RPC_VERSION, NO_AUTHENTICATION, LONGEST_AUTHENTICATION}
use Rattle.ldm_relay.specs.declared.message.TheConstants.{LARGEST_BLOCK, LARGEST_CONTENT}
use Rattle.ldm_relay.specs.declared.procedure.Procedure.{Procedure}
use Rattle.ldm_relay.specs.declared.procedure.Procedure.TheVariants as procedure
use Rattle.ldm_relay.specs.Sent.{Sent}
use Rattle.ldm_relay.specs.Sent as sent
use Rattle.ldm_xdr.specs.Fields.{number_in, up_to_in, exactly_in, fixed_in, opaque_in, passed_in, no_more}
use Rattle.ldm_relay.specs.Headers.{authentication_in, call_header_in}
use Rattle.ldm_relay.specs.Classes.{class_in}
use Rattle.ldm_relay.specs.Calls.{call_in, feedme_in, hiya_in, product_in, hereis_in, put_in, comingsoon_in, blkdata_in, notifyme_in, notification_in}
use Rattle.ldm_relay.specs.Reading.{whole}
use Rattle.ldm_xdr.specs.Spelling.{padded, spelling}
use Rattle.ldm_relay.specs.Writable.{IsShort}
use Rattle.ldm_xdr.proofs.Lengths.{length_padded}
use Rattle.ldm_xdr.proofs.FieldsFound.{IsBytes, IsBytes-drop, bind_ok, guard_ok, ok_is, padded_found}
use Rattle.ldm_relay.proofs.ClassesFound.{chosen, err_is_no_ok}

-- what is left behind a part of so many bytes, or more
record IsBehind (len : ℕ) (bytes rest : List ℕ) : Type 0 where
  room : len + length rest ≤ length bytes
  fits : IsBytes bytes → IsBytes rest

both_behind : (m n : ℕ) (a b c : List ℕ) → IsBehind m a b → IsBehind n b c → IsBehind (m + n) a c
both_behind m n a b c p q = record { room = omega (arith, p.room, q.room); fits = λ bytes. q.fits (p.fits bytes) }

-- ---- the header

number_behind : (bytes : List ℕ) (x : ℕ × List ℕ) → number_in w32 bytes ≡ Ok x → IsBehind 4 bytes x.1
unfolding number_in
number_behind bytes x e =
    let made : ℕ × List ℕ = (from_be_bytes w32 (take 4 bytes), drop 4 bytes) in
    let g = guard_ok (ltb (length bytes) 4) (length bytes) made x e in
    let long : 4 ≤ length bytes = ltb-false _ _ g.0 in
    subst (λ (y : ℕ × List ℕ). IsBehind 4 bytes y.1) g.1 (record { room = omega (arith, length-drop 4 bytes); fits = IsBytes-drop 4 bytes })

exactly_behind : (given : ℕ) (bytes : List ℕ) (x : ℕ × List ℕ) → exactly_in given bytes ≡ Ok x → IsBehind 4 bytes x.1
unfolding exactly_in
exactly_behind given bytes x e =
    let a = bind_ok (number_in w32 bytes) _ x e in
    elim (chosen (eqb a.0.0 given) _ _ _ a.2) [
      | inl h ↦ subst (λ (y : ℕ × List ℕ). IsBehind 4 bytes y.1) (ok_is _ x h.1) (number_behind bytes a.0 a.1)
      | inr h ↦ absurd (err_is_no_ok (length bytes) x h.1)
    ]

up_to_behind : (most : ℕ) (bytes : List ℕ) (x : ℕ × List ℕ) → up_to_in most bytes ≡ Ok x → IsBehind 4 bytes x.1
unfolding up_to_in
up_to_behind most bytes x e =
    let a = bind_ok (number_in w32 bytes) _ x e in
    let g = guard_ok (ltb most a.0.0) (length bytes) a.0 x a.2 in
    subst (λ (y : ℕ × List ℕ). IsBehind 4 bytes y.1) g.1 (number_behind bytes a.0 a.1)

passed_behind : (most : ℕ) (bytes rest : List ℕ) → passed_in most bytes ≡ Ok rest → IsBehind 4 bytes rest
unfolding passed_in
passed_behind most bytes rest e =
    let a = bind_ok (up_to_in most bytes) _ rest e in
    let count = up_to_behind most bytes a.0 a.1 in
    let len = pad4 a.0.0 in
    let g = guard_ok (ltb (length a.0.1) len) (length bytes) (drop len a.0.1) rest a.2 in
    subst (IsBehind 4 bytes) g.1 (record {
      room = omega (arith, count.room, length-drop len a.0.1);
      fits = λ h. IsBytes-drop len a.0.1 (count.fits h);
    })

authentication_behind : (bytes rest : List ℕ) → authentication_in bytes ≡ Ok rest → IsBehind 8 bytes rest
unfolding authentication_in
authentication_behind bytes rest e =
    let a = bind_ok (exactly_in NO_AUTHENTICATION bytes) _ rest e in
    both_behind 4 4 bytes a.0.1 rest (exactly_behind NO_AUTHENTICATION bytes a.0 a.1) (passed_behind LONGEST_AUTHENTICATION a.0.1 rest a.2)

header_behind : (bytes : List ℕ) (x : CallHeader × List ℕ) → call_header_in bytes ≡ Ok x → IsBehind 40 bytes x.1
unfolding call_header_in
header_behind bytes x e =
    let a = bind_ok (number_in w32 bytes) _ x e in
    let b = bind_ok (exactly_in CALL a.0.1) _ x a.2 in
    let c = bind_ok (exactly_in RPC_VERSION b.0.1) _ x b.2 in
    let d = bind_ok (number_in w32 c.0.1) _ x c.2 in
    let f = bind_ok (number_in w32 d.0.1) _ x d.2 in
    let g = bind_ok (number_in w32 f.0.1) _ x f.2 in
    let credential = bind_ok (authentication_in g.0.1) _ x g.2 in
    let verifier = bind_ok (authentication_in credential.0) _ x credential.2 in
    let b8 = both_behind 4 4 bytes a.0.1 b.0.1 (number_behind bytes a.0 a.1) (exactly_behind CALL a.0.1 b.0 b.1) in
    let b12 = both_behind 8 4 bytes b.0.1 c.0.1 b8 (exactly_behind RPC_VERSION b.0.1 c.0 c.1) in
    let b16 = both_behind 12 4 bytes c.0.1 d.0.1 b12 (number_behind c.0.1 d.0 d.1) in
    let b20 = both_behind 16 4 bytes d.0.1 f.0.1 b16 (number_behind d.0.1 f.0 f.1) in
    let b24 = both_behind 20 4 bytes f.0.1 g.0.1 b20 (number_behind f.0.1 g.0 g.1) in
    let b32 = both_behind 24 8 bytes g.0.1 credential.0 b24 (authentication_behind g.0.1 credential.0 credential.1) in
    let b40 = both_behind 32 8 bytes credential.0 verifier.0 b32 (authentication_behind credential.0 verifier.0 verifier.1) in
    subst (λ (y : CallHeader × List ℕ). IsBehind 40 bytes y.1) (ok_is _ x verifier.2) b40

-- ---- the bodies

info_behind : (bytes : List ℕ) (x : Metadata × List ℕ) → IsBytes bytes → info_in bytes ≡ Ok x → IsBehind (metadata_len x.0) bytes x.1
info_behind bytes x fits e =
    let taken = info_found bytes x fits e in
    let whole : length bytes ≡ length (spelling x.0) + length x.1 = ap length taken.takes.parts ∙ length-append (spelling x.0) x.1 in
    record { room = omega (arith, whole, length-spelling x.0 taken.fits.signature); fits = λ _. taken.takes.rest_fits }

-- the metadata and the body with its padding
abbrev ProductRoom : List ℕ → Metadata → List ℕ → Type 0
ProductRoom bytes info body = metadata_len info + pad4 (length body) ≤ length bytes

product_room : (bytes : List ℕ) (x : (Metadata × List ℕ) × List ℕ) → IsBytes bytes → product_in bytes ≡ Ok x → ProductRoom bytes x.0.0 x.0.1
unfolding product_in
product_room bytes x fits e =
    let a = bind_ok (info_in bytes) _ x e in
    let b = bind_ok (fixed_in a.0.0.size a.0.1) _ x a.2 in
    let info = info_behind bytes a.0 fits a.1 in
    let body = padded_found (length a.0.1) a.0.0.size a.0.1 b.0 (info.fits fits) b.1 in
    let parts : length a.0.1 ≡ length (padded b.0.0) + length b.0.1 = ap (λ (t : List ℕ). length t) body.0.parts ∙ length-append (padded b.0.0) b.0.1 in
    let made : (Metadata × List ℕ) × List ℕ = ((a.0.0, b.0.0), b.0.1) in
    subst (λ (y : (Metadata × List ℕ) × List ℕ). ProductRoom bytes y.0.0 y.0.1) (ok_is made x b.2)
    (omega (arith, info.room, parts, length_padded b.0.0))

-- a call whose body is read from so few bytes is not too long
abbrev ShortIn : List ℕ → Sent × List ℕ → Type 0
ShortIn bytes x = 40 + length bytes ≤ LARGEST_CONTENT → IsShort x.0

hereis_short : (xid : ℕ) (bytes : List ℕ) (x : Sent × List ℕ) → IsBytes bytes → hereis_in xid bytes ≡ Ok x → ShortIn bytes x
unfolding hereis_in
hereis_short xid bytes x fits e =
    let a = bind_ok (product_in bytes) _ x e in
    let made : Sent × List ℕ = (sent.Hereis xid a.0.0.0 a.0.0.1, a.0.1) in
    subst (ShortIn bytes) (ok_is made x a.2) (λ within. omega (arith, within, product_room bytes a.0 fits a.1))

put_short : (xid : ℕ) (bytes : List ℕ) (x : Sent × List ℕ) → IsBytes bytes → put_in xid bytes ≡ Ok x → ShortIn bytes x
unfolding put_in
put_short xid bytes x fits e =
    let a = bind_ok (product_in bytes) _ x e in
    let made : Sent × List ℕ = (sent.Put xid a.0.0.0 a.0.0.1, a.0.1) in
    subst (ShortIn bytes) (ok_is made x a.2) (λ within. omega (arith, within, product_room bytes a.0 fits a.1))

feedme_short : (xid : ℕ) (bytes : List ℕ) (x : Sent × List ℕ) → feedme_in xid bytes ≡ Ok x → IsShort x.0
unfolding feedme_in
feedme_short xid bytes x e =
    let a = bind_ok (class_in bytes) _ x e in
    let b = bind_ok (number_in w32 a.0.1) _ x a.2 in
    subst (λ (y : Sent × List ℕ). IsShort y.0) (ok_is _ x b.2) tt

hiya_short : (xid : ℕ) (bytes : List ℕ) (x : Sent × List ℕ) → hiya_in xid bytes ≡ Ok x → IsShort x.0
unfolding hiya_in
hiya_short xid bytes x e = let a = bind_ok (class_in bytes) _ x e in subst (λ (y : Sent × List ℕ). IsShort y.0) (ok_is _ x a.2) tt

comingsoon_short : (xid : ℕ) (bytes : List ℕ) (x : Sent × List ℕ) → comingsoon_in xid bytes ≡ Ok x → IsShort x.0
unfolding comingsoon_in
comingsoon_short xid bytes x e =
    let a = bind_ok (info_in bytes) _ x e in
    let b = bind_ok (number_in w32 a.0.1) _ x a.2 in
    subst (λ (y : Sent × List ℕ). IsShort y.0) (ok_is _ x b.2) tt

blkdata_short : (xid : ℕ) (bytes : List ℕ) (x : Sent × List ℕ) → blkdata_in xid bytes ≡ Ok x → IsShort x.0
unfolding blkdata_in
blkdata_short xid bytes x e =
    let a = bind_ok (fixed_in 16 bytes) _ x e in
    let b = bind_ok (number_in w32 a.0.1) _ x a.2 in
    let c = bind_ok (opaque_in LARGEST_BLOCK b.0.1) _ x b.2 in
    subst (λ (y : Sent × List ℕ). IsShort y.0) (ok_is _ x c.2) tt

notifyme_short : (xid : ℕ) (bytes : List ℕ) (x : Sent × List ℕ) → notifyme_in xid bytes ≡ Ok x → IsShort x.0
unfolding notifyme_in
notifyme_short xid bytes x e = let a = bind_ok (class_in bytes) _ x e in subst (λ (y : Sent × List ℕ). IsShort y.0) (ok_is _ x a.2) tt

notification_short : (xid : ℕ) (bytes : List ℕ) (x : Sent × List ℕ) → notification_in xid bytes ≡ Ok x → IsShort x.0
unfolding notification_in
notification_short xid bytes x e = let a = bind_ok (info_in bytes) _ x e in subst (λ (y : Sent × List ℕ). IsShort y.0) (ok_is _ x a.2) tt

body_short : (p : Procedure) (xid : ℕ) (bytes : List ℕ) (x : Sent × List ℕ) → IsBytes bytes → call_in p xid bytes ≡ Ok x → ShortIn bytes x
body_short procedure.Hereis xid bytes x fits e = hereis_short xid bytes x fits e
body_short procedure.Feedme xid bytes x fits e = λ _. feedme_short xid bytes x e
body_short procedure.Hiya xid bytes x fits e = λ _. hiya_short xid bytes x e
body_short procedure.Comingsoon xid bytes x fits e = λ _. comingsoon_short xid bytes x e
body_short procedure.Blkdata xid bytes x fits e = λ _. blkdata_short xid bytes x e
body_short procedure.Isalive xid bytes x fits e = λ _. subst (λ (y : Sent × List ℕ). IsShort y.0) (ok_is _ x e) tt
body_short procedure.Qstat xid bytes x fits e = λ _. subst (λ (y : Sent × List ℕ). IsShort y.0) (ok_is _ x e) tt
body_short procedure.Put xid bytes x fits e = put_short xid bytes x fits e
body_short procedure.Notification xid bytes x fits e = λ _. notification_short xid bytes x e
body_short procedure.Notifyme xid bytes x fits e = λ _. notifyme_short xid bytes x e

whole_short : (p : Procedure) (xid : ℕ) (bytes : List ℕ) (m : Sent) → IsBytes bytes → whole (call_in p xid bytes) ≡ Ok m → 40 + length bytes ≤ LARGEST_CONTENT → IsShort m
unfolding whole
whole_short p xid bytes m fits e within =
    let a = bind_ok (call_in p xid bytes) _ m e in
    let b = bind_ok (no_more a.0.1) _ m a.2 in
    subst IsShort (ok_is a.0.0 m b.2) (body_short p xid bytes a.0 fits a.1 within)

-- the body behind a header
pub short_behind : (bytes : List ℕ) (header : CallHeader × List ℕ) (p : Procedure) (m : Sent) → IsBytes bytes → call_header_in bytes ≡ Ok header
    → whole (call_in p header.0.xid header.1) ≡ Ok m → length bytes ≤ LARGEST_CONTENT → IsShort m
short_behind bytes header p m fits read e within =
    let behind = header_behind bytes header read in
    whole_short p header.0.xid header.1 m (behind.fits fits) e (omega (arith, behind.room, within))

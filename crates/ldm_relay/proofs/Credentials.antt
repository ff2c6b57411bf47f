-- Credentials and verifiers are passed over.
use Rattle.std.proofs.Common.{◌≡◌, ℕ, List, ◌++◌, length, Option, Some, None, Result, Ok, Err, refl, ap, ◌∙◌, append_assoc, arith, lit<, lit≤}
use Rattle.std.proofs.lemmas.Bool.{le-ltb}
use Rattle.std.proofs.lemmas.List.{drop_at, length-append}
use Rattle.ldm_types.specs.Info.{pad4}
use Rattle.ldm_relay.specs.declared.fault.RelayFault.{RelayFault}
use Rattle.ldm_relay.specs.declared.fault.RelayFault.TheVariants.{BadMessage}
use Rattle.ldm_relay.specs.declared.header.CallHeader.{CallHeader}
use Rattle.ldm_relay.specs.declared.procedure.Answered.{Answered}
use Rattle.ldm_relay.specs.declared.procedure.Procedure.{Procedure}
use Rattle.ldm_relay.specs.declared.procedure.TheConstants.{PROGRAM, VERSION}
use Rattle.ldm_relay.specs.Procedure.{number_of, answered}
use Rattle.ldm_relay.specs.Sent.{Sent}
use Rattle.ldm_xdr.specs.Fields.{passed_in}
use Rattle.ldm_relay.specs.Headers.{authentication_in, call_header_in, reply_header_in}
use Rattle.ldm_relay.specs.Calls.{call_in}
use Rattle.ldm_relay.specs.Replies.{accepted_in}
use Rattle.ldm_relay.specs.Reading.{whole, called, call_of, reply_of}
use Rattle.ldm_relay.specs.Fits.{Is32, AuthenticationFits}
use Rattle.ldm_xdr.specs.Spelling.{unsigned}
use Rattle.ldm_relay.specs.Spelling.{Authentication, authentication, call_header, call_header_with, reply_header, reply_header_with}
use Rattle.ldm_xdr.proofs.FieldsAgain.{unsigned_again, up_to_again, exactly_again}
use Rattle.ldm_relay.proofs.MessagesAgain.{header_of, number_small, call_header_again, reply_header_again}
use Rattle.ldm_relay.proofs.MessagesFound.{or_at_ok}

authentication_passed : (a : Authentication) (rest : List ℕ) → AuthenticationFits a → authentication_in (authentication a ++ rest) ≡ Ok rest
unfolding authentication_in passed_in authentication
authentication_passed a rest fits =
    let r2 : List ℕ = a.bytes ++ rest in
    let r1 : List ℕ = unsigned a.len ++ r2 in
    let regrouped : authentication a ++ rest ≡ unsigned 0 ++ r1 = simp append_assoc in
    ap authentication_in regrouped
    ∙ rw (
      exactly_again 0 r1 (lit< tt),
      up_to_again 400 a.len r2 (omega (arith, fits.short)) fits.short,
      le-ltb (length r2) (pad4 a.len) (omega (arith, length-append a.bytes rest, fits.whole)),
      drop_at a.bytes rest (pad4 a.len) fits.whole,
    ) refl

call_header_passed : (xid : ℕ) (p : Procedure) (a b : Authentication) (rest : List ℕ) → Is32 xid → AuthenticationFits a → AuthenticationFits b
    → call_header_in (call_header_with xid p a b ++ rest) ≡ Ok (header_of xid p, rest)
unfolding call_header_in call_header_with
call_header_passed xid p a b rest lt fits_a fits_b =
    let r7 : List ℕ = authentication b ++ rest in
    let r6 : List ℕ = authentication a ++ r7 in
    let r5 : List ℕ = unsigned (number_of p) ++ r6 in
    let r4 : List ℕ = unsigned VERSION ++ r5 in
    let r3 : List ℕ = unsigned PROGRAM ++ r4 in
    let r2 : List ℕ = unsigned 2 ++ r3 in
    let r1 : List ℕ = unsigned 0 ++ r2 in
    let regrouped : call_header_with xid p a b ++ rest ≡ unsigned xid ++ r1 = simp append_assoc in
    ap call_header_in regrouped
    ∙ rw (
      unsigned_again xid r1 lt,
      exactly_again 0 r2 (lit< tt),
      exactly_again 2 r3 (lit< tt),
      unsigned_again PROGRAM r4 (lit< tt),
      unsigned_again VERSION r5 (lit< tt),
      unsigned_again (number_of p) r6 (number_small p),
      authentication_passed a r7 fits_a,
      authentication_passed b rest fits_b,
    ) refl

reply_header_passed : (xid : ℕ) (b : Authentication) (rest : List ℕ) → Is32 xid → AuthenticationFits b
    → reply_header_in (reply_header_with xid b ++ rest) ≡ Ok (xid, unsigned 0 ++ rest)
unfolding reply_header_in reply_header_with
reply_header_passed xid b rest lt fits =
    let r4 : List ℕ = unsigned 0 ++ rest in
    let r3 : List ℕ = authentication b ++ r4 in
    let r2 : List ℕ = unsigned 0 ++ r3 in
    let r1 : List ℕ = unsigned 1 ++ r2 in
    let regrouped : reply_header_with xid b ++ rest ≡ unsigned xid ++ r1 = simp append_assoc in
    ap reply_header_in regrouped
    ∙ rw (
      unsigned_again xid r1 lt,
      exactly_again 1 r2 (lit< tt),
      exactly_again 0 r3 (lit< tt),
      authentication_passed b r4 fits,
      up_to_again 5 0 rest (lit< tt) (lit≤ tt),
    ) refl

-- two contents with one header and one body
same_call : (x y : List ℕ) (header : CallHeader × List ℕ) (p : Result Procedure RelayFault) (m : Sent) → call_header_in x ≡ Ok header → call_header_in y ≡ Ok header
    → called header.0 ≡ p → call_of x ≡ Ok m → call_of y ≡ Ok m
unfolding call_of
same_call x y header (Ok p) m x_reads y_reads is e =
    let under = rw (x_reads, is) at e in
    rw (y_reads, is, or_at_ok (λ (at : ℕ). BadMessage header.0.xid at) x (whole (call_in p header.0.xid header.1)) m under) refl
same_call x y header (Err fault) m x_reads y_reads is e =
    let under = rw (x_reads, is) at e in
    absurd cc

same_reply : (number : ℕ) (x y : List ℕ) (header : ℕ × List ℕ) (a : Option Answered) (m : Sent) → reply_header_in x ≡ Ok header → reply_header_in y ≡ Ok header
    → answered number ≡ a → reply_of number x ≡ Ok m → reply_of number y ≡ Ok m
unfolding reply_of
same_reply number x y header (Some a) m x_reads y_reads is e =
    let under = rw (x_reads, is) at e in
    rw (y_reads, is, or_at_ok (λ (at : ℕ). BadMessage header.0 at) x (whole (accepted_in a header.0 header.1)) m under) refl
same_reply number x y header None m x_reads y_reads is e =
    let under = rw (x_reads, is) at e in
    absurd cc

pub call_passed : (xid : ℕ) (p : Procedure) (a b : Authentication) (body : List ℕ) (m : Sent) → Is32 xid → AuthenticationFits a → AuthenticationFits b
    → call_of (call_header xid p ++ body) ≡ Ok m → call_of (call_header_with xid p a b ++ body) ≡ Ok m
call_passed xid p a b body m lt fits_a fits_b e =
    same_call (call_header xid p ++ body) (call_header_with xid p a b ++ body) (header_of xid p, body) (called (header_of xid p)) m
    (call_header_again xid p body lt) (call_header_passed xid p a b body lt fits_a fits_b) refl e

pub reply_passed : (xid number : ℕ) (b : Authentication) (body : List ℕ) (m : Sent) → Is32 xid → AuthenticationFits b
    → reply_of number (reply_header xid ++ body) ≡ Ok m → reply_of number (reply_header_with xid b ++ body) ≡ Ok m
reply_passed xid number b body m lt fits e =
    same_reply number (reply_header xid ++ body) (reply_header_with xid b ++ body) (xid, unsigned 0 ++ body) (answered number) m
    (reply_header_again xid body lt) (reply_header_passed xid b body lt fits) refl e

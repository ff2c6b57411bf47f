-- Refusals that were written are read again, and are no results.
use Rattle.std.proofs.Common.{◌≡◌, ℕ, ◌≤◌, eqb, false, List, [], ◌++◌, Ok, refl, sym, ap, ◌∙◌, append_assoc, arith, lit<, lit≤}
use Rattle.std.proofs.lemmas.List.{append-nil}
use Rattle.ldm_relay.specs.declared.message.Refusal.{Refusal}
use Rattle.ldm_relay.specs.declared.message.Refusal.TheVariants as refusal
use Rattle.ldm_relay.specs.Sent as sent
use Rattle.ldm_xdr.specs.Fields.{◌>>=◌, up_to_in}
use Rattle.ldm_relay.specs.Headers.{reply_header_in}
use Rattle.ldm_relay.specs.Refusals.{versions_in, refusal_in, refused_in}
use Rattle.ldm_relay.specs.Reading.{whole, refusal_of}
use Rattle.ldm_relay.specs.Fits.{Is32, RefusalFits}
use Rattle.ldm_xdr.specs.Spelling.{unsigned}
use Rattle.ldm_relay.specs.Spelling.{no_authentication, accepted_header, refusal_bytes}
use Rattle.ldm_xdr.proofs.FieldsAgain.{unsigned_again, up_to_again, exactly_again}
use Rattle.ldm_relay.proofs.Authentication.{authentication_again}

-- the header reads wherever a status stands behind it
pub accepted_header_is : (xid : ℕ) (bytes : List ℕ) → Is32 xid → reply_header_in (accepted_header xid ++ bytes) ≡ (up_to_in 5 bytes >>= λ status. Ok (xid, bytes))
unfolding reply_header_in accepted_header
accepted_header_is xid bytes lt =
    let r3 : List ℕ = no_authentication ++ bytes in
    let r2 : List ℕ = unsigned 0 ++ r3 in
    let r1 : List ℕ = unsigned 1 ++ r2 in
    let regrouped : accepted_header xid ++ bytes ≡ unsigned xid ++ r1 = simp append_assoc in
    ap reply_header_in regrouped
    ∙ rw (unsigned_again xid r1 lt, exactly_again 1 r2 (lit< tt), exactly_again 0 r3 (lit< tt), authentication_again bytes) refl

refusal_again : (why : Refusal) (rest : List ℕ) → RefusalFits why → refusal_in (refusal_bytes why ++ rest) ≡ Ok (why, rest)
unfolding refusal_in versions_in
refusal_again refusal.ProgramUnavailable rest fits = rw (unsigned_again 1 rest (lit< tt)) refl
refusal_again (refusal.ProgramMismatch lowest highest) rest fits =
    let r2 : List ℕ = unsigned highest ++ rest in
    let r1 : List ℕ = unsigned lowest ++ r2 in
    let regrouped : (unsigned 2 ++ unsigned lowest ++ unsigned highest) ++ rest ≡ unsigned 2 ++ r1 = simp append_assoc in
    ap refusal_in regrouped ∙ rw (unsigned_again 2 r1 (lit< tt), unsigned_again lowest r2 fits.0, unsigned_again highest rest fits.1) refl
refusal_again refusal.ProcedureUnavailable rest fits = rw (unsigned_again 3 rest (lit< tt)) refl
refusal_again refusal.GarbageArguments rest fits = rw (unsigned_again 4 rest (lit< tt)) refl
refusal_again refusal.SystemError rest fits = rw (unsigned_again 5 rest (lit< tt)) refl

-- a status that says why a call was not carried out, and what is behind it
pub record Begins (why : Refusal) : Type 0 where
  pub status : ℕ
  pub behind : List ℕ
  pub spelled : refusal_bytes why ≡ unsigned status ++ behind
  pub small : status ≤ 5
  pub other : eqb status 0 ≡ false

pub begins : (why : Refusal) → Begins why
begins refusal.ProgramUnavailable = record { status = 1; behind = []; spelled = sym (append-nil (unsigned 1)); small = lit≤ tt; other = refl }
begins (refusal.ProgramMismatch lowest highest) = record {
  status = 2;
  behind = unsigned lowest ++ unsigned highest;
  spelled = append_assoc (unsigned 2) (unsigned lowest) (unsigned highest);
  small = lit≤ tt;
  other = refl;
}
begins refusal.ProcedureUnavailable = record { status = 3; behind = []; spelled = sym (append-nil (unsigned 3)); small = lit≤ tt; other = refl }
begins refusal.GarbageArguments = record { status = 4; behind = []; spelled = sym (append-nil (unsigned 4)); small = lit≤ tt; other = refl }
begins refusal.SystemError = record { status = 5; behind = []; spelled = sym (append-nil (unsigned 5)); small = lit≤ tt; other = refl }

pub header_refused : (xid status : ℕ) (behind : List ℕ) → Is32 xid → status ≤ 5
    → reply_header_in (accepted_header xid ++ (unsigned status ++ behind)) ≡ Ok (xid, unsigned status ++ behind)
header_refused xid status behind lt le =
    accepted_header_is xid (unsigned status ++ behind) lt ∙ rw (up_to_again 5 status behind (omega (arith, le)) le) refl

pub refusal_read : (xid : ℕ) (why : Refusal) → Is32 xid → RefusalFits why → refusal_of (accepted_header xid ++ refusal_bytes why) ≡ Ok (sent.Refused xid why)
unfolding refusal_of whole refused_in
refusal_read xid why lt fits =
    let b = begins why in
    let bytes : List ℕ = refusal_bytes why in
    let header : reply_header_in (accepted_header xid ++ bytes) ≡ Ok (xid, bytes) =
    rw b.spelled (header_refused xid b.status b.behind lt b.small) in
    let read : refusal_in bytes ≡ Ok (why, []) = ap refusal_in (sym (append-nil bytes)) ∙ refusal_again why [] fits in
    rw (header, read) refl

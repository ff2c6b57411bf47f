-- A refusal is no result, whatever procedure was called.
use Rattle.std.proofs.Common.{◌≡◌, ℕ, ◌-◌, ◌^◌, ◌<◌, ◌≤◌, eqb, false, List, ◌++◌, length, Err, refl, ap, ◌∙◌, arith}
use Rattle.std.specs.Prelude.{Result}
use Rattle.std.proofs.lemmas.List.{length-append}
use Rattle.ldm_relay.specs.declared.fault.RelayFault.{RelayFault}
use Rattle.ldm_relay.specs.declared.fault.RelayFault.TheVariants.{BadMessage}
use Rattle.ldm_relay.specs.declared.message.Refusal.{Refusal}
use Rattle.ldm_relay.specs.declared.procedure.Answered.{Answered}
use Rattle.ldm_relay.specs.Procedure.{number_of, procedure_of}
use Rattle.ldm_relay.specs.Sent.{Sent}
use Rattle.ldm_relay.specs.Sent as sent
use Rattle.ldm_xdr.specs.Fields.{exactly_in}
use Rattle.ldm_relay.specs.Replies.{accepted_in}
use Rattle.ldm_relay.specs.Reading.{whole, reply_of}
use Rattle.ldm_relay.specs.Fits.{Is32, RefusalFits}
use Rattle.ldm_xdr.specs.Spelling.{unsigned}
use Rattle.ldm_relay.specs.Spelling.{accepted_header, written}
use Rattle.ldm_xdr.proofs.FieldsAgain.{unsigned_again}
use Rattle.ldm_relay.proofs.Lengths.{length_accepted_header}
use Rattle.ldm_relay.proofs.Refusals.{begins, header_refused}
use Rattle.ldm_relay.proofs.MessagesAgain.{answered_again}

-- another number than the one that is given
exactly_other : (given n : ℕ) (rest : List ℕ) → n < 2 ^ 32 → eqb n given ≡ false → exactly_in given (unsigned n ++ rest) ≡ Err (length (unsigned n ++ rest))
unfolding exactly_in
exactly_other given n rest lt other = rw (unsigned_again n rest lt, other) refl

abbrev fault_at : ℕ → ℕ → Result Sent RelayFault
fault_at xid at = Err (BadMessage xid at)

place_is : (xid : ℕ) (bytes : List ℕ) → length (accepted_header xid ++ bytes) - length bytes ≡ 20
place_is xid bytes = omega (arith, length-append (accepted_header xid) bytes, length_accepted_header xid)

status_refused : (xid status : ℕ) (behind : List ℕ) (a : Answered) → Is32 xid → status ≤ 5 → eqb status 0 ≡ false
    → reply_of (number_of (procedure_of a)) (accepted_header xid ++ (unsigned status ++ behind)) ≡ fault_at xid 20
unfolding reply_of whole accepted_in
status_refused xid status behind a lt le other =
    let told : reply_of (number_of (procedure_of a)) (accepted_header xid ++ (unsigned status ++ behind))
    ≡ fault_at xid (length (accepted_header xid ++ (unsigned status ++ behind)) - length (unsigned status ++ behind)) =
    rw (header_refused xid status behind lt le, answered_again a, exactly_other 0 status behind (omega (arith, le)) other) refl in
    told ∙ ap (fault_at xid) (place_is xid (unsigned status ++ behind))

pub refusal_no_result : (xid : ℕ) (why : Refusal) (a : Answered) → Is32 xid → RefusalFits why
    → reply_of (number_of (procedure_of a)) (written (sent.Refused xid why)) ≡ Err (BadMessage xid 20)
unfolding written
refusal_no_result xid why a lt fits =
    let b = begins why in
    ap (λ (bytes : List ℕ). reply_of (number_of (procedure_of a)) (accepted_header xid ++ bytes)) b.spelled
    ∙ status_refused xid b.status b.behind a lt b.small b.other

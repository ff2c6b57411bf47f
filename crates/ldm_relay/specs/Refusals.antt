-- Replies that say why a call was not carried out (RFC 5531, section 9).
use Rattle.std.specs.Prelude.{ℕ, List, length, ◌==◌, Result, Ok, Err, if◌then◌else◌}
use Rattle.ldm_relay.specs.declared.message.Refusal.{Refusal}
use Rattle.ldm_relay.specs.declared.message.Refusal.TheVariants as refusal
use Rattle.ldm_relay.specs.Sent.{Sent}
use Rattle.ldm_relay.specs.Sent as sent
use Rattle.ldm_xdr.specs.Fields.{◌>>=◌, unsigned_in}

-- the least and the greatest version
unfoldable pub versions_in : List ℕ → Result (Refusal × List ℕ) ℕ
versions_in left = do
  lowest ← unsigned_in left
  highest ← unsigned_in lowest.1
  Ok (refusal.ProgramMismatch lowest.0 highest.0, highest.1)

-- the refusal that an accept status begins, or how much was left at the status
abbrev pub coded_refusal : ℕ → ℕ → List ℕ → Result (Refusal × List ℕ) ℕ
coded_refusal field status left =
    if status == 1 then Ok (refusal.ProgramUnavailable, left)
    else (if status == 2 then versions_in left
    else (if status == 3 then Ok (refusal.ProcedureUnavailable, left)
    else (if status == 4 then Ok (refusal.GarbageArguments, left)
    else (if status == 5 then Ok (refusal.SystemError, left) else Err field))))

unfoldable pub refusal_in : List ℕ → Result (Refusal × List ℕ) ℕ
refusal_in left = do
  status ← unsigned_in left
  coded_refusal (length left) status.0 status.1

-- a reply from its accept status on
unfoldable pub refused_in : ℕ → List ℕ → Result (Sent × List ℕ) ℕ
refused_in xid left = do
  why ← refusal_in left
  Ok (sent.Refused xid why.0, why.1)

-- What stands before the body of a call and before the result of a reply (RFC 5531, section 9).
use Rattle.std.specs.Prelude.{ℕ, List, Result, Ok}
use Rattle.ldm_relay.specs.declared.header.CallHeader.{CallHeader}
use Rattle.ldm_relay.specs.declared.header.TheConstants.{CALL, REPLY, RPC_VERSION, ACCEPTED, NO_AUTHENTICATION, LONGEST_AUTHENTICATION, LAST_STATUS}
use Rattle.ldm_xdr.specs.Fields.{◌>>=◌, unsigned_in, up_to_in, exactly_in, passed_in}

-- a credential or verifier (section 8.2): that there is none, and a body that says nothing
unfoldable pub authentication_in : List ℕ → Result (List ℕ) ℕ
authentication_in left = do
  flavour ← exactly_in NO_AUTHENTICATION left
  passed_in LONGEST_AUTHENTICATION flavour.1

unfoldable pub call_header_in : List ℕ → Result (CallHeader × List ℕ) ℕ
call_header_in left = do
  xid ← unsigned_in left
  call ← exactly_in CALL xid.1
  rpc ← exactly_in RPC_VERSION call.1
  program ← unsigned_in rpc.1
  version ← unsigned_in program.1
  procedure ← unsigned_in version.1
  credential ← authentication_in procedure.1
  verifier ← authentication_in credential
  Ok (record { xid = xid.0; program = program.0; version = version.0; procedure = procedure.0 }, verifier)

-- The number of the call that is answered, and what is left from the accept status on. A status of more than 5 is none.
unfoldable pub reply_header_in : List ℕ → Result (ℕ × List ℕ) ℕ
reply_header_in left = do
  xid ← unsigned_in left
  reply ← exactly_in REPLY xid.1
  accepted ← exactly_in ACCEPTED reply.1
  verifier ← authentication_in accepted.1
  status ← up_to_in LAST_STATUS verifier
  Ok (xid.0, verifier)

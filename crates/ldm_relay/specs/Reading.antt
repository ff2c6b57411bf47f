-- What the content of a record says: a message, or the first of its faults, with its kind and its place.
use Rattle.std.specs.Prelude.{◌≡◌, ℕ, ◌-◌, List, length, ◌==◌, ◌&&◌, Option, Some, None, Result, Ok, Err, MatchResult, if◌then◌else◌}
use Rattle.ldm_relay.specs.declared.fault.RelayFault.{RelayFault}
use Rattle.ldm_relay.specs.declared.fault.RelayFault.TheVariants.{NotRpc, WrongProgram, WrongProcedure, BadMessage}
use Rattle.ldm_relay.specs.declared.header.CallHeader.{CallHeader}
use Rattle.ldm_relay.specs.declared.procedure.Procedure.{Procedure}
use Rattle.ldm_relay.specs.declared.procedure.Procedure.TheVariants as procedure
use Rattle.ldm_relay.specs.declared.procedure.TheConstants.{PROGRAM, VERSION}
use Rattle.ldm_relay.specs.Sent.{Sent}
use Rattle.ldm_relay.specs.Sent as sent
use Rattle.ldm_relay.specs.Procedure.{number_of, numbered, answered}
use Rattle.ldm_xdr.specs.Fields.{◌>>=◌, no_more}
use Rattle.ldm_relay.specs.Headers.{call_header_in, reply_header_in}
use Rattle.ldm_relay.specs.Calls.{call_in}
use Rattle.ldm_relay.specs.Replies.{accepted_in}
use Rattle.ldm_relay.specs.Refusals.{refused_in}

-- nothing is behind what was read
unfoldable pub whole : Result (Sent × List ℕ) ℕ → Result Sent ℕ
whole reading = do
  message ← reading
  end ← no_more message.1
  Ok message.0

-- a reading of a part of a record, or a fault of that kind with the place in the record where it stopped
abbrev pub or_at : {A : Type 0} → (ℕ → RelayFault) → List ℕ → Result A ℕ → Result A RelayFault
or_at fault bytes (Ok x) = Ok x
or_at fault bytes (Err left) = Err (fault (length bytes - left))

-- the procedure of a number, where there is one
abbrev pub or_wrong : {A : Type 0} → ℕ → ℕ → Option A → Result A RelayFault
or_wrong xid number (Some procedure) = Ok procedure
or_wrong xid number None = Err (WrongProcedure xid number)

-- the procedure that a header names
abbrev pub called : CallHeader → Result Procedure RelayFault
called header =
    if (header.program == PROGRAM) && (header.version == VERSION) then or_wrong header.xid header.procedure (numbered header.procedure)
    else Err (WrongProgram header.xid header.program header.version)

unfoldable pub call_of : List ℕ → Result Sent RelayFault
call_of bytes = do
  header ← or_at NotRpc bytes (call_header_in bytes)
  procedure ← called header.0
  or_at (BadMessage header.0.xid) bytes (whole (call_in procedure header.0.xid header.1))

-- a reply to a call of that procedure
unfoldable pub reply_of : ℕ → List ℕ → Result Sent RelayFault
reply_of number bytes = do
  header ← or_at NotRpc bytes (reply_header_in bytes)
  procedure ← or_wrong header.0 number (answered number)
  or_at (BadMessage header.0) bytes (whole (accepted_in procedure header.0 header.1))

-- a reply to a call of any procedure that was not carried out
unfoldable pub refusal_of : List ℕ → Result Sent RelayFault
refusal_of bytes = do
  header ← or_at NotRpc bytes (reply_header_in bytes)
  or_at (BadMessage header.0) bytes (whole (refused_in header.0 header.1))

-- what a message is: a call, a reply to a call of a procedure, or a refusal of any call
pub data Kind : Type 0 where
  Call : Kind
  Reply : (to : Procedure) → Kind
  Refusal : Kind

abbrev pub kind_of : Sent → Kind
kind_of (sent.FeedmeReply xid answer) = Reply procedure.Feedme
kind_of (sent.HiyaReply xid max_hereis answer) = Reply procedure.Hiya
kind_of (sent.ComingsoonReply xid answer) = Reply procedure.Comingsoon
kind_of (sent.QstatReply xid stat) = Reply procedure.Qstat
kind_of (sent.PutReply xid answer) = Reply procedure.Put
kind_of (sent.NotifymeReply xid answer) = Reply procedure.Notifyme
kind_of (sent.Refused xid why) = Refusal
kind_of (sent.Feedme xid class max_hereis) = Call
kind_of (sent.Hiya xid class) = Call
kind_of (sent.Hereis xid info body) = Call
kind_of (sent.Comingsoon xid info block_size) = Call
kind_of (sent.Blkdata xid signature number block) = Call
kind_of (sent.Isalive xid) = Call
kind_of (sent.Qstat xid) = Call
kind_of (sent.Put xid info body) = Call
kind_of (sent.Notifyme xid class) = Call
kind_of (sent.Notification xid info) = Call

-- what some bytes say, read as a message of a kind
abbrev pub read_as : Kind → List ℕ → Result Sent RelayFault
read_as Call bytes = call_of bytes
read_as (Reply p) bytes = reply_of (number_of p) bytes
read_as Refusal bytes = refusal_of bytes

-- a call answers what is read, seen so
abbrev pub Answers : {X A E : Type 0} → (X → A) → Result X E → Result A E → Type 0
Answers seen result reading = MatchResult result (λ x. reading ≡ Ok (seen x)) (λ fault. reading ≡ Err fault)

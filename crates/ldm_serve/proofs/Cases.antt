-- What holds of each response to a call, to a fault and to the metadata of a PUT holds of each response.
use Rattle.std.proofs.Common.{Bool, true, false, ℕ, List, [], ◌∷◌, length, take, nat_le, Option, Some, None, Result, Ok, Err}
use Rattle.std.specs.Prelude.{if◌then◌else◌, nat_lt}
use Rattle.ldm_types.specs.Info.{Metadata}
use Rattle.ldm_relay.specs.Fronts.{front_of}
use Rattle.ldm_relay.specs.Reading.{call_of}
use Rattle.ldm_relay.specs.Sent.{Sent}
use Rattle.ldm_relay.specs.Sent as sent
use Rattle.ldm_relay.specs.declared.fault.RelayFault.{RelayFault}
use Rattle.ldm_relay.specs.declared.fault.RelayFault.TheVariants.{BadMessage, NotRpc}
use Rattle.ldm_relay.specs.declared.front.CallFront.{CallFront}
use Rattle.ldm_relay.specs.declared.front.CallFront.TheVariants as front
use Rattle.ldm_relay.specs.declared.front.TheConstants.{LONGEST_CALL}
use Rattle.ldm_serve.specs.declared.keeping.TheConstants.{LONGEST_CARRIED}
use Rattle.ldm_relay.specs.declared.message.PutAnswer.{PutAnswer}
use Rattle.ldm_serve.specs.Client.{Client}
use Rattle.ldm_serve.specs.Respond.{answered_by, front_answer, longest_put, respond, to_call, to_carried, to_cut, to_fault, to_large, to_long, to_reading, to_short, to_unread}
use Rattle.ldm_serve.specs.Response.{Response, Says, Refuses}

module _ (client : Client) (P : Response → Type 0) (called : (call : Sent) → P (to_call client.rules client.host call))
    (faulty : (fault : RelayFault) → P (to_fault fault)) (told : (xid : ℕ) (answer : PutAnswer) → P (Says (sent.PutReply xid answer ∷ [])))
    (nothing : P (Refuses [])) where
  either : (test : Bool) (one other : Response) → P one → P other → P (if test then one else other)
  either true one other first second = first
  either false one other first second = second

  by_answer : (xid : ℕ) (answer : Option PutAnswer) (one : Response) → P one → P (answered_by xid answer one)
  by_answer xid (Some answer) one holds = told xid answer
  by_answer xid None one holds = holds

  read : (reading : Result Sent RelayFault) → P (to_reading client.rules client.host reading)
  read (Ok call) = called call
  read (Err fault) = faulty fault

  unread : (fault : RelayFault) (begins : CallFront) → P (to_unread client fault begins)
  unread fault (front.Put xid info) = by_answer xid (front_answer client info) (to_fault fault) (faulty fault)
  unread fault front.Carries = faulty fault
  unread fault front.Other = faulty fault

  short : (content : List ℕ) (reading : Result Sent RelayFault) → P (to_short client content reading)
  short content (Ok call) = called call
  short content (Err fault) = unread fault (front_of content)

  cut : (reading : Result Sent RelayFault) → P (to_cut reading)
  cut (Ok call) = nothing
  cut (Err fault) = faulty fault

  large : (xid : ℕ) (info : Metadata) (content : List ℕ) → P (to_large client xid info content)
  large xid info content =
      either (nat_lt (longest_put info.size) (length content)) (to_fault (BadMessage xid LONGEST_CALL)) (to_reading client.rules client.host (call_of content))
      (faulty (BadMessage xid LONGEST_CALL)) (read (call_of content))

  carried : (content : List ℕ) → P (to_carried client content)
  carried content =
      either (nat_lt LONGEST_CARRIED (length content)) (to_fault (NotRpc LONGEST_CARRIED)) (to_reading client.rules client.host (call_of content))
      (faulty (NotRpc LONGEST_CARRIED)) (read (call_of content))

  long : (content : List ℕ) (begins : CallFront) → P (to_long client content begins)
  long content (front.Put xid info) = by_answer xid (front_answer client info) (to_large client xid info content) (large xid info content)
  long content front.Carries = carried content
  long content front.Other = cut (call_of (take LONGEST_CALL content))

  pub each_response : (content : List ℕ) → P (respond client content)
  unfolding respond
  each_response content =
      either (nat_le (length content) LONGEST_CALL) (to_short client content (call_of content)) (to_long client content (front_of (take LONGEST_CALL content)))
      (short content (call_of content)) (long content (front_of (take LONGEST_CALL content)))

-- What a server responds to one record, by the rules for a host.
use Rattle.std.specs.Prelude.{ℕ, ◌+◌, Bool, true, nat_le, nat_lt, List, [], ◌∷◌, length, map, take, Option, Some, None, is_none, Result, Ok, Err, if◌then◌else◌}
use Rattle.std.specs.Option.{option_to_list}
use Rattle.ldm_types.specs.Info.{Metadata}
use Rattle.ldm_types.specs.declared.class.ClassSpec.{ClassSpec}
use Rattle.ldm_class.specs.Access.{reduce}
use Rattle.ldm_class.specs.Classes.{bad_place}
use Rattle.ldm_class.specs.Rules.{Rules, rules_for}
use Rattle.ldm_class.specs.declared.answers.Reduced.{Reduced}
use Rattle.ldm_class.specs.declared.answers.Reduced.TheVariants.{Same, Fewer, Nothing}
use Rattle.ldm_model.specs.Product.{extent_of}
use Rattle.ldm_relay.specs.MessageView.{refused_of}
use Rattle.ldm_relay.specs.Owed.{refusal_owed}
use Rattle.ldm_relay.specs.Fronts.{front_of}
use Rattle.ldm_relay.specs.Reading.{call_of}
use Rattle.ldm_relay.specs.declared.front.CallFront.{CallFront}
use Rattle.ldm_relay.specs.declared.front.CallFront.TheVariants as front
use Rattle.ldm_relay.specs.declared.front.TheConstants.{LONGEST_CALL}
use Rattle.ldm_relay.specs.Sent.{Sent}
use Rattle.ldm_relay.specs.Sent as sent
use Rattle.ldm_relay.specs.declared.fault.RelayFault.{RelayFault}
use Rattle.ldm_relay.specs.declared.fault.RelayFault.TheVariants.{NotRpc, WrongProgram, WrongProcedure, BadMessage}
use Rattle.ldm_relay.specs.declared.message.ClassAnswer.TheVariants as class_answer
use Rattle.ldm_relay.specs.declared.message.PutAnswer.{PutAnswer}
use Rattle.ldm_relay.specs.declared.message.PutAnswer.TheVariants as put_answer
use Rattle.ldm_serve.specs.declared.hiya.TheConstants.{MAX_HEREIS}
use Rattle.ldm_serve.specs.declared.keeping.TheConstants.{LONGEST_CARRIED}
use Rattle.ldm_serve.specs.Access.{may_know, may_push}
use Rattle.ldm_serve.specs.Client.{Client}
use Rattle.ldm_serve.specs.Response.{Response, Says, Puts, Figures, Feeds, Receives, Notifies, Refuses, Denies}

-- whether each pattern of a class means something
abbrev pub means_all : ClassSpec → Bool
means_all class = is_none (bad_place class.specs.items)

abbrev pub to_feedme : ℕ → ClassSpec → ℕ → Response
to_feedme xid class max_hereis =
    if means_all class then Feeds xid class max_hereis else Says (sent.FeedmeReply xid class_answer.BadPattern ∷ [])

abbrev pub to_notifyme : ℕ → ClassSpec → Response
to_notifyme xid class = if means_all class then Notifies xid class else Says (sent.NotifymeReply xid class_answer.BadPattern ∷ [])

-- what the rules leave of the class that a peer offers
abbrev pub to_offer : ℕ → ClassSpec → Reduced → Response
to_offer xid class Same = Receives class (sent.HiyaReply xid MAX_HEREIS class_answer.Ok ∷ [])
to_offer xid class (Fewer fewer) = Says (sent.HiyaReply xid MAX_HEREIS (class_answer.Reclass fewer) ∷ [])
to_offer xid class (Nothing rule) = Denies rule (sent.HiyaReply xid MAX_HEREIS class_answer.Denied ∷ [])

abbrev pub to_hiya : Rules → List ℕ → ℕ → ClassSpec → Response
to_hiya rules host xid class =
    if means_all class then to_offer xid class (reduce (rules_for true rules) host class)
    else Says (sent.HiyaReply xid MAX_HEREIS class_answer.BadPattern ∷ [])

abbrev pub to_put : Rules → List ℕ → ℕ → Metadata → List ℕ → Response
to_put rules host xid info body =
    if may_push rules host info then Puts xid info body else Says (sent.PutReply xid put_answer.Denied ∷ [])

abbrev pub to_qstat : Rules → List ℕ → ℕ → Response
to_qstat rules host xid = if may_know rules host then Figures xid else Says (sent.QstatReply xid None ∷ [])

-- A call that was read. HEREIS, COMINGSOON, BLKDATA and NOTIFICATION have no place before a feeding, and a call is no reply.
abbrev pub to_call : Rules → List ℕ → Sent → Response
to_call rules host (sent.Feedme xid class max_hereis) = to_feedme xid class max_hereis
to_call rules host (sent.Notifyme xid class) = to_notifyme xid class
to_call rules host (sent.Hiya xid class) = to_hiya rules host xid class
to_call rules host (sent.Put xid info body) = to_put rules host xid info body
to_call rules host (sent.Qstat xid) = to_qstat rules host xid
to_call rules host (sent.Isalive xid) = Says []
to_call rules host _ = Refuses []

-- the refusal that a call is owed that could not be read, where it is owed one
abbrev pub refusals : RelayFault → List Sent
refusals fault = map refused_of (option_to_list (refusal_owed fault))

-- A call that could not be read: the session outlives a procedure that there is not, and nothing else.
abbrev pub to_fault : RelayFault → Response
to_fault (WrongProcedure xid procedure) = Says (refusals (WrongProcedure xid procedure))
to_fault (WrongProgram xid program version) = Refuses (refusals (WrongProgram xid program version))
to_fault (BadMessage xid at) = Refuses (refusals (BadMessage xid at))
to_fault (NotRpc at) = Refuses (refusals (NotRpc at))

abbrev pub to_reading : Rules → List ℕ → Result Sent RelayFault → Response
to_reading rules host (Ok call) = to_call rules host call
to_reading rules host (Err fault) = to_fault fault

-- What the metadata of a PUT decide by themselves: the rules do not let the host push the product, or the arena is smaller.
abbrev pub front_answer : Client → Metadata → Option PutAnswer
front_answer client info =
    if may_push client.rules client.host info
    then (if nat_lt client.arena (extent_of info) then Some (put_answer.TooBig (extent_of info) client.arena) else None)
    else Some put_answer.Denied

-- a PUT whose metadata decide is answered by them, and another as it is without them
abbrev pub answered_by : ℕ → Option PutAnswer → Response → Response
answered_by xid (Some answer) response = Says (sent.PutReply xid answer ∷ [])
answered_by xid None response = response

-- A record that cannot be read is no call, unless it is a PUT whose metadata decide.
abbrev pub to_unread : Client → RelayFault → CallFront → Response
to_unread client fault (front.Put xid info) = answered_by xid (front_answer client info) (to_fault fault)
to_unread client fault front.Carries = to_fault fault
to_unread client fault front.Other = to_fault fault

-- a record of no more bytes than the longest call has
abbrev pub to_short : Client → List ℕ → Result Sent RelayFault → Response
to_short client content (Ok call) = to_call client.rules client.host call
to_short client content (Err fault) = to_unread client fault (front_of content)

-- what is read of the first bytes of a longer record that carries no product: no such call is as long
abbrev pub to_cut : Result Sent RelayFault → Response
to_cut (Ok call) = Refuses []
to_cut (Err fault) = to_fault fault

-- the most bytes of the content of a PUT with a body of that size
abbrev pub longest_put : ℕ → ℕ
longest_put size = LONGEST_CALL + size + 4

-- a PUT whose metadata decide nothing: there may be bytes behind its body
abbrev pub to_large : Client → ℕ → Metadata → List ℕ → Response
to_large client xid info content =
    if nat_lt (longest_put info.size) (length content)
    then to_fault (BadMessage xid LONGEST_CALL)
    else to_reading client.rules client.host (call_of content)

-- A longer record that carries bytes of a product and is no PUT: it has no place before a feeding, and where it is very long it is not read.
abbrev pub to_carried : Client → List ℕ → Response
to_carried client content =
    if nat_lt LONGEST_CARRIED (length content)
    then to_fault (NotRpc LONGEST_CARRIED)
    else to_reading client.rules client.host (call_of content)

-- A longer record, by what its first bytes begin with.
abbrev pub to_long : Client → List ℕ → CallFront → Response
to_long client content (front.Put xid info) = answered_by xid (front_answer client info) (to_large client xid info content)
to_long client content front.Carries = to_carried client content
to_long client content front.Other = to_cut (call_of (take LONGEST_CALL content))

-- what a server responds to a record with that content
unfoldable pub respond : Client → List ℕ → Response
respond client content =
    if nat_le (length content) LONGEST_CALL
    then to_short client content (call_of content)
    else to_long client content (front_of (take LONGEST_CALL content))

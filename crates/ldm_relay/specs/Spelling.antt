-- The one spelling of each message: what a writer writes (RFC 4506, RFC 5531), in this project's profile.
use Rattle.std.specs.Prelude.{ℕ, ◌/◌, ◌%◌, List, [], ◌++◌, length, Option, Some, None}
use Rattle.std.specs.List.{flat_map}
use Rattle.ldm_types.specs.declared.class.ClassSpec.{ClassSpec}
use Rattle.ldm_types.specs.declared.class.Spec.{Spec}
use Rattle.ldm_xdr.specs.Spelling.{unsigned, hyper, padded, opaque, spelling}
use Rattle.ldm_rpc.specs.Spelling.{Record, spelling as record_spelling}
use Rattle.ldm_relay.specs.declared.header.TheConstants.{CALL, REPLY, RPC_VERSION, ACCEPTED, SUCCESS, NO_AUTHENTICATION}
use Rattle.ldm_relay.specs.declared.message.ClassAnswer.{ClassAnswer}
use Rattle.ldm_relay.specs.declared.message.ClassAnswer.TheVariants as class_answer
use Rattle.ldm_relay.specs.declared.message.SoonAnswer.{SoonAnswer}
use Rattle.ldm_relay.specs.declared.message.SoonAnswer.TheVariants as soon_answer
use Rattle.ldm_model.specs.declared.stat.Stat.{Stat}
use Rattle.ldm_relay.specs.declared.message.PutAnswer.{PutAnswer}
use Rattle.ldm_relay.specs.declared.message.PutAnswer.TheVariants as put_answer
use Rattle.ldm_relay.specs.declared.message.Refusal.{Refusal}
use Rattle.ldm_relay.specs.declared.message.Refusal.TheVariants as refusal
use Rattle.ldm_relay.specs.declared.procedure.Procedure.{Procedure}
use Rattle.ldm_relay.specs.declared.procedure.Procedure.TheVariants as procedure
use Rattle.ldm_relay.specs.declared.procedure.TheConstants.{PROGRAM, VERSION}
use Rattle.ldm_relay.specs.Procedure.{number_of}
use Rattle.ldm_relay.specs.Sent.{Sent}
use Rattle.ldm_relay.specs.Sent as sent

-- ---- classes

unfoldable pub instant_bytes : ℕ → List ℕ
instant_bytes micros = unsigned (micros / 1000000) ++ unsigned (micros % 1000000)

unfoldable pub spec_bytes : Spec → List ℕ
spec_bytes spec = unsigned spec.feed.0 ++ opaque spec.pattern.items

unfoldable pub class_bytes : ClassSpec → List ℕ
class_bytes class = instant_bytes class.from ++ instant_bytes class.to ++ unsigned (length class.specs.items) ++ flat_map spec_bytes class.specs.items

abbrev pub class_answer_bytes : ClassAnswer → List ℕ
class_answer_bytes class_answer.Ok = unsigned 0
class_answer_bytes (class_answer.Reclass class) = unsigned 1 ++ class_bytes class
class_answer_bytes class_answer.Denied = unsigned 2
class_answer_bytes class_answer.BadPattern = unsigned 3
class_answer_bytes class_answer.Busy = unsigned 4

-- ---- other answers

abbrev pub soon_answer_bytes : SoonAnswer → List ℕ
soon_answer_bytes soon_answer.Ok = unsigned 0
soon_answer_bytes soon_answer.DontSend = unsigned 1

abbrev pub figures_bytes : Stat → List ℕ
figures_bytes stat = hyper stat.admitted ++ hyper stat.queued ++ hyper stat.held ++ hyper stat.used ++ hyper stat.largest_free

abbrev pub stat_bytes : Option Stat → List ℕ
stat_bytes (Some stat) = unsigned 0 ++ figures_bytes stat
stat_bytes None = unsigned 2

abbrev pub put_answer_bytes : PutAnswer → List ℕ
put_answer_bytes (put_answer.Admitted n time evicted) = unsigned 0 ++ hyper n ++ hyper time ++ hyper evicted
put_answer_bytes (put_answer.TooBig need arena) = unsigned 1 ++ hyper need ++ hyper arena
put_answer_bytes (put_answer.Duplicate n) = unsigned 2 ++ hyper n
put_answer_bytes put_answer.TimeEnd = unsigned 3
put_answer_bytes (put_answer.Locked held) = unsigned 4 ++ hyper held
put_answer_bytes put_answer.Denied = unsigned 5

-- ---- headers (RFC 5531, section 9)

-- a credential or verifier that proves nothing, with an empty body
unfoldable pub no_authentication : List ℕ
no_authentication = unsigned NO_AUTHENTICATION ++ unsigned 0

unfoldable pub call_header : ℕ → Procedure → List ℕ
call_header xid p =
    unsigned xid ++ unsigned CALL ++ unsigned RPC_VERSION ++ unsigned PROGRAM ++ unsigned VERSION ++ unsigned (number_of p)
    ++ no_authentication ++ no_authentication

-- what stands before the accept status of a reply
unfoldable pub accepted_header : ℕ → List ℕ
accepted_header xid = unsigned xid ++ unsigned REPLY ++ unsigned ACCEPTED ++ no_authentication

unfoldable pub reply_header : ℕ → List ℕ
reply_header xid = accepted_header xid ++ unsigned SUCCESS

-- a credential or verifier with a body of so many bytes, and these bytes with their padding, which say nothing
pub record Authentication : Type 0 where
  pub len : ℕ
  pub bytes : List ℕ

unfoldable pub authentication : Authentication → List ℕ
authentication a = unsigned NO_AUTHENTICATION ++ unsigned a.len ++ a.bytes

-- the header of a call with a credential and a verifier
unfoldable pub call_header_with : ℕ → Procedure → Authentication → Authentication → List ℕ
call_header_with xid p credential verifier =
    unsigned xid ++ unsigned CALL ++ unsigned RPC_VERSION ++ unsigned PROGRAM ++ unsigned VERSION ++ unsigned (number_of p)
    ++ authentication credential ++ authentication verifier

-- the header of a reply with a verifier
unfoldable pub reply_header_with : ℕ → Authentication → List ℕ
reply_header_with xid verifier = unsigned xid ++ unsigned REPLY ++ unsigned ACCEPTED ++ authentication verifier ++ unsigned SUCCESS

-- ---- refusals

-- the accept status, and the versions behind the one of a mismatch
abbrev pub refusal_bytes : Refusal → List ℕ
refusal_bytes refusal.ProgramUnavailable = unsigned 1
refusal_bytes (refusal.ProgramMismatch lowest highest) = unsigned 2 ++ unsigned lowest ++ unsigned highest
refusal_bytes refusal.ProcedureUnavailable = unsigned 3
refusal_bytes refusal.GarbageArguments = unsigned 4
refusal_bytes refusal.SystemError = unsigned 5

-- ---- messages

-- the content of the record in which a message is written
unfoldable pub written : Sent → List ℕ
written (sent.Feedme xid class max_hereis) = call_header xid procedure.Feedme ++ (class_bytes class ++ unsigned max_hereis)
written (sent.FeedmeReply xid answer) = reply_header xid ++ class_answer_bytes answer
written (sent.Hiya xid class) = call_header xid procedure.Hiya ++ class_bytes class
written (sent.HiyaReply xid max_hereis answer) = reply_header xid ++ (unsigned max_hereis ++ class_answer_bytes answer)
written (sent.Hereis xid info body) = call_header xid procedure.Hereis ++ (spelling info ++ padded body)
written (sent.Comingsoon xid info block_size) = call_header xid procedure.Comingsoon ++ (spelling info ++ unsigned block_size)
written (sent.ComingsoonReply xid answer) = reply_header xid ++ soon_answer_bytes answer
written (sent.Blkdata xid signature n block) = call_header xid procedure.Blkdata ++ (signature ++ unsigned n ++ opaque block)
written (sent.Isalive xid) = call_header xid procedure.Isalive
written (sent.Qstat xid) = call_header xid procedure.Qstat
written (sent.QstatReply xid stat) = reply_header xid ++ stat_bytes stat
written (sent.Put xid info body) = call_header xid procedure.Put ++ (spelling info ++ padded body)
written (sent.PutReply xid answer) = reply_header xid ++ put_answer_bytes answer
written (sent.Notifyme xid class) = call_header xid procedure.Notifyme ++ class_bytes class
written (sent.NotifymeReply xid answer) = reply_header xid ++ class_answer_bytes answer
written (sent.Notification xid info) = call_header xid procedure.Notification ++ spelling info
written (sent.Refused xid why) = accepted_header xid ++ refusal_bytes why

-- the record of one fragment that has a content
abbrev pub in_one : List ℕ → Record
in_one content = record { before = []; last = content }

-- its spelling: a header of four bytes, and the content
abbrev pub record_of : List ℕ → List ℕ
record_of content = record_spelling (in_one content)

-- the records of messages, in order
abbrev pub records_of : List Sent → List ℕ
records_of messages = flat_map (λ m. record_of (written m)) messages

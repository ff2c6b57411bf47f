-- Which plain data are messages: each field is within the bounds of its type, and each body has the size that its metadata
-- tell.
use Rattle.std.specs.Prelude.{◌≡◌, ℕ, ◌<◌, ◌≤◌, ◌^◌, length, Option, Some, None}
use Rattle.std.specs.List.{AllByRecursion}
use Rattle.ldm_types.specs.declared.limits.TheConstants.{GREATEST_INSTANT, LONGEST_PATTERN, MOST_SPECS}
use Rattle.ldm_types.specs.declared.class.ClassSpec.{ClassSpec}
use Rattle.ldm_types.specs.declared.class.Spec.{Spec}
use Rattle.ldm_xdr.specs.Spelling.{Fits as InfoFits}
use Rattle.ldm_relay.specs.declared.message.ClassAnswer.{ClassAnswer}
use Rattle.ldm_relay.specs.declared.message.ClassAnswer.TheVariants as class_answer
use Rattle.ldm_relay.specs.declared.message.PutAnswer.{PutAnswer}
use Rattle.ldm_model.specs.declared.stat.Stat.{Stat}
use Rattle.ldm_relay.specs.declared.message.PutAnswer.TheVariants as put_answer
use Rattle.ldm_relay.specs.declared.message.Refusal.{Refusal}
use Rattle.ldm_relay.specs.declared.message.Refusal.TheVariants as refusal
use Rattle.ldm_relay.specs.declared.header.TheConstants.{LONGEST_AUTHENTICATION}
use Rattle.ldm_types.specs.Info.{pad4}
use Rattle.ldm_relay.specs.Spelling.{Authentication}
use Rattle.ldm_relay.specs.Sent.{Sent}
use Rattle.ldm_relay.specs.Sent as sent
use Rattle.ldm_relay.specs.Writable.{IsSized}

abbrev pub Is32 : ℕ → Type 0
Is32 n = n < 2 ^ 32

abbrev pub Is64 : ℕ → Type 0
Is64 n = n < 2 ^ 64

abbrev pub SpecFits : Spec → Type 0
SpecFits spec = Is32 spec.feed.0 × (length spec.pattern.items ≤ LONGEST_PATTERN)

pub record ClassFits (class : ClassSpec) : Type 0 where
  pub from : class.from ≤ GREATEST_INSTANT
  pub to : class.to ≤ GREATEST_INSTANT
  pub few : length class.specs.items ≤ MOST_SPECS
  pub each : AllByRecursion SpecFits class.specs.items

abbrev pub ClassAnswerFits : ClassAnswer → Type 0
ClassAnswerFits (class_answer.Reclass class) = ClassFits class
ClassAnswerFits class_answer.Ok = Unit {0}
ClassAnswerFits class_answer.Denied = Unit {0}
ClassAnswerFits class_answer.BadPattern = Unit {0}
ClassAnswerFits class_answer.Busy = Unit {0}

abbrev pub StatFits : Option Stat → Type 0
StatFits (Some stat) = Is64 stat.admitted × Is64 stat.queued × Is64 stat.held × Is64 stat.used × Is64 stat.largest_free
StatFits None = Unit {0}

abbrev pub PutAnswerFits : PutAnswer → Type 0
PutAnswerFits (put_answer.Admitted n time evicted) = Is64 n × Is64 time × Is64 evicted
PutAnswerFits (put_answer.TooBig need arena) = Is64 need × Is64 arena
PutAnswerFits (put_answer.Duplicate n) = Is64 n
PutAnswerFits put_answer.TimeEnd = Unit {0}
PutAnswerFits (put_answer.Locked held) = Is64 held
PutAnswerFits put_answer.Denied = Unit {0}

-- the body of a credential or verifier is not too long
pub record AuthenticationFits (a : Authentication) : Type 0 where
  pub short : a.len ≤ LONGEST_AUTHENTICATION
  pub whole : length a.bytes ≡ pad4 a.len

abbrev pub RefusalFits : Refusal → Type 0
RefusalFits (refusal.ProgramMismatch lowest highest) = Is32 lowest × Is32 highest
RefusalFits refusal.ProgramUnavailable = Unit {0}
RefusalFits refusal.ProcedureUnavailable = Unit {0}
RefusalFits refusal.GarbageArguments = Unit {0}
RefusalFits refusal.SystemError = Unit {0}

abbrev pub Fits : Sent → Type 0
Fits (sent.Feedme xid class max_hereis) = Is32 xid × ClassFits class × Is32 max_hereis
Fits (sent.FeedmeReply xid answer) = Is32 xid × ClassAnswerFits answer
Fits (sent.Hiya xid class) = Is32 xid × ClassFits class
Fits (sent.HiyaReply xid max_hereis answer) = Is32 xid × Is32 max_hereis × ClassAnswerFits answer
Fits (sent.Hereis xid info body) = Is32 xid × InfoFits info × IsSized (sent.Hereis xid info body)
Fits (sent.Comingsoon xid info block_size) = Is32 xid × InfoFits info × Is32 block_size
Fits (sent.ComingsoonReply xid answer) = Is32 xid
Fits (sent.Blkdata xid signature number block) = Is32 xid × (length signature ≡ 16) × Is32 number × IsSized (sent.Blkdata xid signature number block)
Fits (sent.Isalive xid) = Is32 xid
Fits (sent.Qstat xid) = Is32 xid
Fits (sent.QstatReply xid stat) = Is32 xid × StatFits stat
Fits (sent.Put xid info body) = Is32 xid × InfoFits info × IsSized (sent.Put xid info body)
Fits (sent.PutReply xid answer) = Is32 xid × PutAnswerFits answer
Fits (sent.Notifyme xid class) = Is32 xid × ClassFits class
Fits (sent.NotifymeReply xid answer) = Is32 xid × ClassAnswerFits answer
Fits (sent.Notification xid info) = Is32 xid × InfoFits info
Fits (sent.Refused xid why) = Is32 xid × RefusalFits why

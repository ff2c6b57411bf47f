-- What `pqmon` does.
use Rattle.std.specs.Prelude.{◌≡◌, ◌≤◌, ℕ, List, Option, Some, None, Result, Ok, Err}
use Rattle.ldm_model.specs.declared.event.Reply.TheVariants as reply
use Rattle.ldm_outside.specs.Count.{Rose}
use Rattle.ldm_outside.specs.Dial.{Asked, DialRecord}
use Rattle.ldm_outside.specs.Io.{SinkRecord, Takes, WritesFront}
use Rattle.ldm_model.specs.declared.stat.Stat.{Stat}
use Rattle.ldm_relay.specs.Sent as sent
use Rattle.ldm_relay.specs.Spelling.{record_of, written}
use Rattle.ldm_answers.specs.Answer.{answer_line}
use Rattle.ldm_status.specs.declared.status.Status.{Status}
use Rattle.ldm_status.specs.declared.status.Status.TheVariants as status
use Rattle.ldm_status.specs.Status.{ReportsBecause}
use Rattle.ldm_tools.specs.declared.mon.MonFault.{MonFault}
use Rattle.ldm_tools.specs.declared.mon.MonFault.TheVariants.{Unreached, NoStat, Denied, SinkFault}
use Rattle.ldm_tools.specs.declared.no_reply.NoReply.{NoReply}
use Rattle.ldm_tools.specs.declared.no_reply.NoReply.TheVariants.{BadFrame, StreamLimit, LinkFault, OutOfMemory}
use Rattle.ldm_tools.specs.Asking.{AsksPeer, IsUnreached}
use Rattle.ldm_tools.specs.Replies.{IsStatReply}

-- What `pqmon` uses of the outside, at a moment.
pub record MonRecord : Type 0 where
  pub net : DialRecord
  pub sink : SinkRecord
  pub log : SinkRecord

abbrev pub mon_tells : {N K E : Type 0} → (N → DialRecord) → (K → SinkRecord) → (E → SinkRecord) → N → K → E → MonRecord
mon_tells net sink log of_net of_sink of_log = record { net = net of_net; sink = sink of_sink; log = log of_log }

-- No count fell.
pub record KeepsMonCounts (old new : MonRecord) : Type 0 where
  pub net : old.net.faults ≤ new.net.faults
  pub ended : old.net.links.ended ≤ new.net.links.ended
  pub failed : old.net.links.failed ≤ new.net.links.failed
  pub sink : old.sink.faults ≤ new.sink.faults
  pub log : old.log.faults ≤ new.log.faults

-- the record of the one call
abbrev pub stat_call : List ℕ
stat_call = record_of (written (sent.Qstat 1))

-- `stat ADMITTED QUEUED HELD USED LARGEST` and a newline
abbrev pub stat_line : Stat → List ℕ
stat_line stat = answer_line (reply.Stat stat)

-- the figures came, and their line was written
pub record WritesStat (asked : Result (Option Stat) NoReply) (old new : SinkRecord) : Type 0 where
  pub stat : Stat
  pub came : asked ≡ Ok (Some stat)
  pub written : Takes old (stat_line stat) new

-- the figures came, and the sink failed, after a front of their line
pub record BreaksStat (asked : Result (Option Stat) NoReply) (old new : SinkRecord) : Type 0 where
  pub stat : Stat
  pub came : asked ≡ Ok (Some stat)
  pub rose : Rose old.faults new.faults
  pub front : WritesFront old (stat_line stat) new

-- What was written, by what came of the call.
abbrev pub TellsStat : Result (Unit {0}) MonFault → Result (Option Stat) NoReply → SinkRecord → SinkRecord → Type 0
TellsStat (Ok done) asked old new = WritesStat asked old new
TellsStat (Err SinkFault) asked old new = BreaksStat asked old new
TellsStat (Err Denied) asked old new = (asked ≡ Ok None) × (new ≡ old)
TellsStat (Err (NoStat why)) asked old new = (asked ≡ Err why) × (new ≡ old)
TellsStat (Err Unreached) asked old new = ⊥

-- the peer was asked for its figures, and what came of it was told
pub record AsksStat (result : Result (Unit {0}) MonFault) (peer : Asked) (old_net new_net : DialRecord) (old_sink new_sink : SinkRecord) : Type 0 where
  pub asked : Result (Option Stat) NoReply
  pub asks : AsksPeer (IsStatReply 1) asked stat_call peer old_net new_net
  pub tells : TellsStat result asked old_sink new_sink

-- How asking a peer for its figures ends.
abbrev pub MonEnds : Result (Unit {0}) MonFault → Asked → (old_net new_net : DialRecord) → (old_sink new_sink : SinkRecord) → Type 0
MonEnds (Err Unreached) peer old_net new_net old_sink new_sink = IsUnreached peer old_net new_net × (new_sink ≡ old_sink)
MonEnds (Ok done) peer old_net new_net old_sink new_sink = AsksStat (Ok done) peer old_net new_net old_sink new_sink
MonEnds (Err SinkFault) peer old_net new_net old_sink new_sink = AsksStat (Err SinkFault) peer old_net new_net old_sink new_sink
MonEnds (Err Denied) peer old_net new_net old_sink new_sink = AsksStat (Err Denied) peer old_net new_net old_sink new_sink
MonEnds (Err (NoStat why)) peer old_net new_net old_sink new_sink = AsksStat (Err (NoStat why)) peer old_net new_net old_sink new_sink

-- the status where a reply was not heard
abbrev pub status_of_no_reply : NoReply → Status
status_of_no_reply (BadFrame at) = status.BadFrame at
status_of_no_reply StreamLimit = status.StreamLimit
status_of_no_reply LinkFault = status.NetFault
status_of_no_reply OutOfMemory = status.NoMemory

abbrev pub status_of_mon : Result (Unit {0}) MonFault → Status
status_of_mon (Ok done) = status.Done
status_of_mon (Err Unreached) = status.NetFault
status_of_mon (Err (NoStat why)) = status_of_no_reply why
status_of_mon (Err Denied) = status.Denied
status_of_mon (Err SinkFault) = status.SinkFault

-- The peer was asked for its figures, which were written as far as the end says, and the number and the log tell how it ended.
pub record Mons (code : ℕ) (peer : Asked) (old new : MonRecord) : Type 0 where
  pub ending : Result (Unit {0}) MonFault
  pub ends : MonEnds ending peer old.net new.net old.sink new.sink
  pub reports : ReportsBecause (status_of_mon ending) code old.log new.log

-- What `notifyme` does.
use Rattle.std.specs.Prelude.{◌≡◌, ◌⊎◌, ℕ, List, Some}
use Rattle.ldm_outside.specs.Count.{Rose}
use Rattle.ldm_outside.specs.Dial.{Asked, DialRecord}
use Rattle.ldm_outside.specs.Io.{SinkRecord}
use Rattle.ldm_outside.specs.Link.{LinkRecord}
use Rattle.ldm_status.specs.declared.status.Status.{Status}
use Rattle.ldm_status.specs.declared.status.Status.TheVariants as status
use Rattle.ldm_status.specs.Status.{ReportsBecause}
use Rattle.ldm_tools.specs.Asking.{IsLinked, IsUnreached}
use Rattle.ldm_tools.specs.Mon.{MonRecord}
use Rattle.ldm_watch.specs.declared.end.WatchEnd.{WatchEnd}
use Rattle.ldm_watch.specs.declared.end.WatchEnd.TheVariants.{Ended, Counted, Truncated, BadFrame, Refused, LinkFault, SinkFault, StreamLimit, OutOfMemory}
use Rattle.ldm_watch.specs.Complete.{Accepts}
use Rattle.ldm_watch.specs.Sought.{Sought}
use Rattle.ldm_watch.specs.Watches.{Watches}
use Rattle.ldm_watch.specs.declared.asked.NoticesAsked.{NoticesAsked}
use Rattle.ldm_watch.specs.declared.notify.NotifymeEnd.{NotifymeEnd}
use Rattle.ldm_watch.specs.declared.notify.NotifymeEnd.TheVariants.{Unreached, Watched}

-- Whom one asks, and for what.
pub record Wanted : Type 0 where
  pub peer : Asked
  pub sought : Sought

abbrev pub wanted_by : NoticesAsked → Wanted
wanted_by asked = record {
  peer = record { host = asked.host.now; port = asked.port };
  sought = record { class = asked.class.now; count = asked.count; form = asked.form };
}

-- the status of a watching that ended so
abbrev pub status_of_watch : WatchEnd → Status
status_of_watch Ended = status.Done
status_of_watch Counted = status.Done
status_of_watch (Truncated at) = status.BadFrame at
status_of_watch (BadFrame at) = status.BadFrame at
status_of_watch (Refused answer) = status.Denied
status_of_watch LinkFault = status.NetFault
status_of_watch SinkFault = status.SinkFault
status_of_watch StreamLimit = status.StreamLimit
status_of_watch OutOfMemory = status.NoMemory

-- Where the link had a stream left that is accepted, no link failed and neither did the sink, all went well, or there is no memory.
abbrev pub Completes : WatchEnd → Wanted → LinkRecord → (old_net new_net : DialRecord) → (old_sink new_sink : SinkRecord) → Type 0
Completes end wanted came old_net new_net old_sink new_sink =
    (stream : List ℕ) → came.left ≡ Some stream → Accepts wanted.sought stream
    → ¬ Rose old_net.links.failed new_net.links.failed → ¬ Rose old_sink.faults new_sink.faults
    → (status_of_watch end ≡ status.Done) ⊎ (end ≡ OutOfMemory)

-- The peer was asked over a link of its own, and watched to that end.
pub record WatchesPeer (end : WatchEnd) (wanted : Wanted) (old_net new_net : DialRecord) (old_sink new_sink : SinkRecord) : Type 0 where
  pub came : LinkRecord
  pub left : LinkRecord
  pub linked : IsLinked wanted.peer came left old_net new_net
  pub watches : Watches end wanted.sought (record { link = came; sink = old_sink }) (record { link = left; sink = new_sink })
  pub completes : Completes end wanted came old_net new_net old_sink new_sink

-- How asking a peer to be told of products ends.
abbrev pub NotifymeEnds : NotifymeEnd → Wanted → (old_net new_net : DialRecord) → (old_sink new_sink : SinkRecord) → Type 0
NotifymeEnds Unreached wanted old_net new_net old_sink new_sink = IsUnreached wanted.peer old_net new_net × (new_sink ≡ old_sink)
NotifymeEnds (Watched end) wanted old_net new_net old_sink new_sink = WatchesPeer end wanted old_net new_net old_sink new_sink

-- the status of `notifyme`
abbrev pub status_of_end : NotifymeEnd → Status
status_of_end Unreached = status.NetFault
status_of_end (Watched end) = status_of_watch end

-- The peer was asked and watched as the end says, and the number and the log tell that end.
pub record Notifies (code : ℕ) (wanted : Wanted) (old new : MonRecord) : Type 0 where
  pub end : NotifymeEnd
  pub ends : NotifymeEnds end wanted old.net new.net old.sink new.sink
  pub reports : ReportsBecause (status_of_end end) code old.log new.log

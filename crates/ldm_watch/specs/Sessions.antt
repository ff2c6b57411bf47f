-- What watching over a link keeps between two pieces.
use Rattle.std.specs.Prelude.{◌≡◌, ◌⊎◌, ℕ, ◌<◌, List, [], ◌++◌, Option, Some, None}
use Rattle.ldm_outside.specs.Count.{Rose}
use Rattle.ldm_outside.specs.Io.{SinkRecord, Takes as TakesBytes}
use Rattle.ldm_outside.specs.Link.{LinkRecord}
use Rattle.ldm_relay.specs.Spelling.{records_of}
use Rattle.ldm_session.specs.Exchange.{Exchanged}
use Rattle.ldm_watch.specs.declared.end.WatchEnd.{WatchEnd}
use Rattle.ldm_watch.specs.declared.end.WatchEnd.TheVariants.{LinkFault, SinkFault}
use Rattle.ldm_watch.specs.Notices.{notice_lines}
use Rattle.ldm_watch.specs.Outside.{WatchRecord, KeepsWatchCounts}
use Rattle.ldm_watch.specs.Sought.{Sought}
use Rattle.ldm_watch.specs.StreamView.{StreamView}
use Rattle.ldm_watch.specs.Told.{hand, told}
use Rattle.ldm_watch.specs.Watches.{Watches}
use Rattle.ldm_session.specs.Part.{IsPart}

-- Bytes that the peer is owed were sent, and lines were written.
pub record Writes (sent lines : List ℕ) (old new : WatchRecord) : Type 0 where
  pub exchanged : Exchanged old.link sent [] new.link
  pub written : TakesBytes old.sink lines new.sink

pub record FailsToSend (out : List ℕ) (old new : WatchRecord) : Type 0 where
  pub sent : List ℕ
  pub rest : List ℕ
  pub all : sent ++ rest ≡ out
  pub writes : Writes sent [] old new
  pub rose : Rose old.link.faults new.link.faults

pub record FailsToWrite (out lines : List ℕ) (old new : WatchRecord) : Type 0 where
  pub front : List ℕ
  pub rest : List ℕ
  pub all : front ++ rest ≡ lines
  pub writes : Writes out front old new
  pub rose : Rose old.sink.faults new.sink.faults

-- What sending and writing came to: all of both; or the link failed, after a front of what was to be sent; or the sink failed, after all was
-- sent and a front of the lines was written.
abbrev pub WritesAt : Option WatchEnd → (out lines : List ℕ) → (old new : WatchRecord) → Type 0
WritesAt None out lines old new = Writes out lines old new
WritesAt (Some LinkFault) out lines old new = FailsToSend out old new
WritesAt (Some SinkFault) out lines old new = FailsToWrite out lines old new
WritesAt (Some _) out lines old new = ⊥

-- what a piece made that ended it so: all of it was sent and written, or that failed
abbrev pub WritesLast : (result end : WatchEnd) → (out lines : List ℕ) → (old new : WatchRecord) → Type 0
WritesLast result end out lines old new = ((result ≡ end) × Writes out lines old new) ⊎ WritesAt (Some result) out lines old new

-- The link gave these bytes, and they did not end the watching. All that the peer is owed by them was sent, and all lines were written.
pub record RunsOn (sought : Sought) (old : WatchRecord) (stream : StreamView) (now : WatchRecord) : Type 0 where
  pub given : List ℕ
  pub exchanged : Exchanged old.link (records_of (told sought given).owed) given now.link
  pub written : TakesBytes old.sink (notice_lines sought.form (told sought given).notices) now.sink
  pub goes_on : (told sought given).end ≡ None
  pub watching_is : stream.watching ≡ (told sought given).watching
  pub hand_is : stream.hand ≡ hand given
  pub kept : KeepsWatchCounts old now

abbrev pub Rounds : Option WatchEnd → Sought → WatchRecord → StreamView → WatchRecord → Type 0
Rounds None sought old stream now = RunsOn sought old stream now
Rounds (Some end) sought old stream now = Watches end sought old now

-- since then the link gave these bytes, and nothing else happened
pub record HasGiven (bytes : List ℕ) (old now : WatchRecord) : Type 0 where
  pub exchanged : Exchanged old.link [] bytes now.link
  pub faults : now.link.faults ≡ old.link.faults
  pub ends : now.link.ends ≡ old.link.ends
  pub sink : now.sink ≡ old.sink

-- nothing is owed and no line is to be written, and there is room for a piece
pub record IsReady (out lines : List ℕ) (room : ℕ) : Type 0 where
  pub no_out : out ≡ []
  pub no_lines : lines ≡ []
  pub some : 0 < room

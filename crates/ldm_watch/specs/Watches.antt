-- What watching does, from its beginning to its end.
use Rattle.std.specs.Prelude.{◌≡◌, ℕ, Bool, true, false, List, [], ◌++◌, length, Option, Some, None, IfSome}
use Rattle.ldm_outside.specs.Count.{Rose}
use Rattle.ldm_outside.specs.Io.{Takes as TakesBytes}
use Rattle.ldm_relay.specs.Spelling.{records_of}
use Rattle.ldm_session.specs.Exchange.{Exchanged}
use Rattle.ldm_watch.specs.declared.end.WatchEnd.{WatchEnd}
use Rattle.ldm_watch.specs.declared.end.WatchEnd.TheVariants.{Ended, Counted, Truncated, BadFrame, Refused, LinkFault, SinkFault, StreamLimit, OutOfMemory}
use Rattle.ldm_watch.specs.Notices.{notice_lines}
use Rattle.ldm_watch.specs.Outside.{WatchRecord}
use Rattle.ldm_watch.specs.Sought.{Sought}
use Rattle.ldm_watch.specs.Told.{at_stream_end, hand, told}
use Rattle.ldm_watch.specs.Watched.{Watched}
use Rattle.ldm_session.specs.Part.{IsPart}

-- whether at that end all was sent that the peer is owed
abbrev pub sends_all : WatchEnd → Bool
sends_all Ended = true
sends_all Counted = true
sends_all (Truncated at) = true
sends_all (BadFrame at) = true
sends_all (Refused answer) = true
sends_all StreamLimit = true
sends_all SinkFault = true
sends_all LinkFault = false
sends_all OutOfMemory = false

-- whether at that end all lines were written
abbrev pub writes_all : WatchEnd → Bool
writes_all Ended = true
writes_all Counted = true
writes_all (Truncated at) = true
writes_all (BadFrame at) = true
writes_all (Refused answer) = true
writes_all StreamLimit = true
writes_all SinkFault = false
writes_all LinkFault = false
writes_all OutOfMemory = false

-- the stream ended: the link said so, and has nothing left
abbrev pub WatchHasEnded : WatchRecord → WatchRecord → Type 0
WatchHasEnded old new = Rose old.link.ends new.link.ends × IfSome new.link.left (λ rest. rest ≡ [])

-- nothing of these bytes ended it, and it ends so where the stream ends behind them
abbrev pub EndsStream : WatchEnd → Option ℕ → List ℕ → Watched → Type 0
EndsStream end count given t = (t.end ≡ None) × (end ≡ at_stream_end (hand given) t.watching.phase)

-- The cause of an end: what the bytes come to that the link gave, or what the outside tells. At `Counted` just as many products were told
-- of as were asked for.
abbrev pub Cause : WatchEnd → Option ℕ → List ℕ → Watched → (old new : WatchRecord) → Type 0
Cause Ended count given t old new = EndsStream Ended count given t × WatchHasEnded old new
Cause (Truncated at) count given t old new = EndsStream (Truncated at) count given t × WatchHasEnded old new
Cause Counted count given t old new = (t.end ≡ Some Counted) × (count ≡ Some (length t.notices))
Cause (BadFrame at) count given t old new = t.end ≡ Some (BadFrame at)
Cause (Refused answer) count given t old new = t.end ≡ Some (Refused answer)
Cause StreamLimit count given t old new = t.end ≡ Some StreamLimit
Cause LinkFault count given t old new = Rose old.link.faults new.link.faults
Cause SinkFault count given t old new = Rose old.sink.faults new.sink.faults
Cause OutOfMemory count given t old new = Unit {0}

-- The link gave these bytes. What the peer is owed by them was sent, and the lines of its notices were written, all of it or a front.
pub record Watches (end : WatchEnd) (sought : Sought) (old new : WatchRecord) : Type 0 where
  pub given : List ℕ
  pub sent : List ℕ
  pub lines : List ℕ
  pub exchanged : Exchanged old.link sent given new.link
  pub written : TakesBytes old.sink lines new.sink
  pub sent_is : IsPart (sends_all end) sent (records_of (told sought given).owed)
  pub lines_are : IsPart (writes_all end) lines (notice_lines sought.form (told sought given).notices)
  pub cause : Cause end sought.count given (told sought given) old new

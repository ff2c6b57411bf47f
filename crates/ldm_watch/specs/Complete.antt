-- When watching a stream comes to its end.
use Rattle.std.specs.Prelude.{◌≡◌, ◌⊎◌, ℕ, true, List, Option, Some, None}
use Rattle.ldm_outside.specs.Count.{Rose}
use Rattle.ldm_watch.specs.declared.end.WatchEnd.{WatchEnd}
use Rattle.ldm_watch.specs.declared.end.WatchEnd.TheVariants.{Ended, Counted, Truncated, BadFrame, Refused, LinkFault, SinkFault, StreamLimit, OutOfMemory}
use Rattle.ldm_watch.specs.Outside.{WatchRecord}
use Rattle.ldm_watch.specs.Sought.{Sought}
use Rattle.ldm_watch.specs.Told.{hand, is_edge, told}

-- Nothing in the stream ends the watching, and behind it no record is begun and no reply to a NOTIFYME is owed; or it tells of as many
-- products as were asked for.
abbrev pub Accepts : Sought → List ℕ → Type 0
Accepts sought stream =
    (((told sought stream).end ≡ None) × (is_edge (hand stream) (told sought stream).watching.phase ≡ true))
    ⊎ ((told sought stream).end ≡ Some Counted)

-- the stream was watched to its end or to the count, or there is no memory
abbrev pub IsComplete : WatchEnd → Type 0
IsComplete Ended = Unit {0}
IsComplete Counted = Unit {0}
IsComplete OutOfMemory = Unit {0}
IsComplete (Truncated at) = ⊥
IsComplete (BadFrame at) = ⊥
IsComplete (Refused answer) = ⊥
IsComplete LinkFault = ⊥
IsComplete SinkFault = ⊥
IsComplete StreamLimit = ⊥

-- Where the link had a stream left that is accepted, and neither link nor sink failed, a watching that ended so is complete.
abbrev pub Completes : WatchEnd → Sought → (old new : WatchRecord) → Type 0
Completes end sought old new =
    (stream : List ℕ) → old.link.left ≡ Some stream → Accepts sought stream →
    ¬ Rose old.link.faults new.link.faults → ¬ Rose old.sink.faults new.sink.faults → IsComplete end

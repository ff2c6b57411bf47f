-- What taking records does to a watching and to what it is to send and to write.
use Rattle.std.specs.Prelude.{◌≡◌, ℕ, List, [], ◌∷◌, ◌++◌, Option, Some, None}
use Rattle.std.specs.Global.{Vec}
use Rattle.ldm_relay.specs.Spelling.{records_of}
use Rattle.ldm_rpc.specs.Streams.{Placed}
use Rattle.ldm_watch.specs.declared.end.WatchEnd.{WatchEnd}
use Rattle.ldm_watch.specs.declared.end.WatchEnd.TheVariants.{Counted}
use Rattle.ldm_watch.specs.declared.step.Step.{Step}
use Rattle.ldm_watch.specs.declared.stop.Stop.{Stop}
use Rattle.ldm_watch.specs.declared.stop.Stop.TheVariants.{Over, OutOfMemory}
use Rattle.ldm_watch.specs.declared.watching.Watching.{Watching}
use Rattle.ldm_watch.specs.Notices.{notice_lines}
use Rattle.ldm_watch.specs.Watched.{Watched, after_step, counted, watched}

-- A watching, and its buffers: what it is to send, and the lines.
pub record Standing : Type 0 where
  pub watching : Watching
  pub out : List ℕ
  pub lines : List ℕ

abbrev pub standing : Watching → Vec ℕ → Vec ℕ → Standing
standing watching out lines = record { watching = watching; out = out.items; lines = lines.items }

-- It came to this, after so many bytes were sent and written: these and what is in the buffers are all that the peer is owed, and all
-- lines.
pub record IsAt (t : Watched) (end : Option WatchEnd) (sent written : List ℕ) (now : Standing) : Type 0 where
  pub end_is : t.end ≡ end
  pub watching_is : now.watching ≡ t.watching
  pub owed : sent ++ now.out ≡ records_of t.owed
  pub told : written ++ now.lines ≡ notice_lines t.watching.form t.notices

-- a record said this, and it went on, or ended so
abbrev pub StepsTo : Option WatchEnd → Step → ℕ → Standing → Standing → Type 0
StepsTo end step at old new =
    (t : Watched) (sent written : List ℕ) → IsAt t None sent written old → IsAt (after_step t at step) end sent written new

abbrev pub Moves : Option Stop → Step → ℕ → Standing → Standing → Type 0
Moves None step at old new = StepsTo None step at old new
Moves (Some (Over end)) step at old new = StepsTo (Some end) step at old new
Moves (Some OutOfMemory) step at old new = Unit {0}

-- a notice was counted, which left the watching so
abbrev pub Counts : Option Stop → Watched → Watching → Type 0
Counts None t new = (counted t t.watching.left ≡ record t { watching = new })
Counts (Some (Over end)) t new = (counted t t.watching.left ≡ record t { end = Some end }) × (new ≡ t.watching)
Counts (Some OutOfMemory) t new = ⊥

-- these records were taken, and it went on, or ended so
abbrev pub Takes : List Placed → Option WatchEnd → Standing → Standing → Type 0
Takes records end old new =
    (t : Watched) (sent written : List ℕ) → IsAt t None sent written old → IsAt (watched t records) end sent written new

abbrev pub TakesAll : List Placed → Standing → Standing → Type 0
TakesAll records old new = Takes records None old new

-- how these records stop it
abbrev pub StopsBy : Stop → List Placed → Standing → Standing → Type 0
StopsBy (Over end) records old new = Takes records (Some end) old new
StopsBy OutOfMemory records old new = Unit {0}

-- a content, if there is one, as the record that begins there
abbrev pub found : ℕ → Option (List ℕ) → List Placed
found at None = []
found at (Some content) = record { at = at; content = content } ∷ []

-- what became of such a record
abbrev pub Finds : Option Stop → ℕ → Option (List ℕ) → Standing → Standing → Type 0
Finds None at content old new = TakesAll (found at content) old new
Finds (Some stop) at content old new = StopsBy stop (found at content) old new

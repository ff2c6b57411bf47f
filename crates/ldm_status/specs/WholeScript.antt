-- What taking a script whole does to the source.
use Rattle.std.specs.Prelude.{◌≡◌, ℕ, ◌<◌, ◌≤◌, List, length}
use Rattle.ldm_outside.specs.Count.{Rose}
use Rattle.ldm_outside.specs.Io.{SourceRecord, Gives}
use Rattle.ldm_status.specs.declared.whole_script.TheConstants.{LONGEST_SCRIPT}
use Rattle.ldm_status.specs.declared.whole_script.ScriptFault.{ScriptFault}
use Rattle.ldm_status.specs.declared.whole_script.ScriptFault.TheVariants as untaken
use Rattle.ldm_status.specs.declared.status.Status.{Status}
use Rattle.ldm_status.specs.declared.status.Status.TheVariants as status
use Rattle.ldm_status.specs.Streams.{AtEnd}

-- A script was taken whole: the source told its end behind it, and it has fewer bytes than are too many.
pub record TakesWhole (text : List ℕ) (old new : SourceRecord) : Type 0 where
  pub taken : Gives old text new
  pub short : length text < LONGEST_SCRIPT
  pub at_end : AtEnd old new

-- Why no more of a script was taken than these bytes.
abbrev pub StopsTaking : ScriptFault → List ℕ → SourceRecord → SourceRecord → Type 0
-- they are as many as are too many
StopsTaking untaken.StreamLimit text old new = length text ≡ LONGEST_SCRIPT
-- the source failed
StopsTaking untaken.SourceFault text old new = (length text < LONGEST_SCRIPT) × Rose old.faults new.faults
-- there is no memory
StopsTaking untaken.OutOfMemory text old new = Unit {0}

-- A script was not taken whole, but some bytes of it.
pub record TakesPart (why : ScriptFault) (old new : SourceRecord) : Type 0 where
  pub text : List ℕ
  pub taken : Gives old text new
  pub limit : length text ≤ LONGEST_SCRIPT
  pub stops : StopsTaking why text old new

-- the status where a script was not taken whole
abbrev pub status_of_untaken : ScriptFault → Status
status_of_untaken untaken.StreamLimit = status.StreamLimit
status_of_untaken untaken.SourceFault = status.SourceFault
status_of_untaken untaken.OutOfMemory = status.NoMemory

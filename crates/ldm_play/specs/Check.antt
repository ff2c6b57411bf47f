-- How `pqcheck` ends, and what stands then.
use Rattle.std.specs.Prelude.{◌≡◌, ℕ, List, [], ◌∷◌, ◌++◌, length, codes, decimal, Result, Ok, Err}
use Rattle.ldm_outside.specs.Count.{Rose}
use Rattle.ldm_outside.specs.Io.{Takes, WritesFront}
use Rattle.ldm_disk.specs.Calls.{FileChanges}
use Rattle.ldm_model.specs.Stat.{extents}
use Rattle.ldm_model.specs.State.{State, end_of, queued, occupied}
use Rattle.ldm_book.specs.View.{BookView}
use Rattle.ldm_book.specs.Stands.{StandsFor}
use Rattle.ldm_play.specs.declared.check_command.CheckFault.{CheckFault}
use Rattle.ldm_play.specs.declared.check_command.CheckFault.TheVariants.{Unopened, SinkFault}
use Rattle.ldm_play.specs.Files.{IsOpenedAs, LeavesClosed}
use Rattle.ldm_play.specs.Outside.{CheckRecord}

-- what is said of a queue: how many products were admitted and are queued, and how many bytes these take
abbrev pub clean_line : ℕ → ℕ → ℕ → List ℕ
clean_line admitted kept used = codes "clean " ++ decimal admitted ++ 32 ∷ [] ++ decimal kept ++ 32 ∷ [] ++ decimal used ++ 10 ∷ []

-- what is said of a queue in a state: the numbers of its `stat` line
abbrev pub clean_text : State → List ℕ
clean_text s = clean_line (end_of s) (length (queued s)) (extents (occupied s))

-- How `pqcheck` ends.
abbrev pub CheckEnds : Result (Unit {0}) CheckFault → CheckRecord → CheckRecord → Type 0
-- the file is the image of a queue, and its numbers are written, whatever state it stands for
CheckEnds (Ok done) old new =
    (opened : BookView) × FileChanges (IsOpenedAs opened) old.disk.file new.disk.file
    × ((s : State) → StandsFor opened s → Takes old.sink (clean_text s) new.sink)
-- no queue was opened, and nothing is written
CheckEnds (Err (Unopened why)) old new = (new.sink ≡ old.sink) × LeavesClosed why old.disk new.disk
-- the sink failed
CheckEnds (Err SinkFault) old new =
    (opened : BookView) × FileChanges (IsOpenedAs opened) old.disk.file new.disk.file
    × Rose old.sink.faults new.sink.faults
    × ((s : State) → StandsFor opened s → WritesFront old.sink (clean_text s) new.sink)

-- How `check` ends.
use Rattle.std.specs.Prelude.{◌≡◌, ◌⊎◌, ℕ, List, [], ◌∷◌, ◌++◌, map}
use Rattle.std.specs.Borrow.{Bor}
use Rattle.ldm_outside.specs.Count.{Rose}
use Rattle.ldm_outside.specs.Io.{SinkRecord, Takes, WritesFront}
use Rattle.ldm_outside.specs.Store.{StoreRecord}
use Rattle.ldm_status.specs.Status.{Reports}
use Rattle.ldm_status.specs.declared.status.Status.TheVariants as status
use Rattle.ldm_check.specs.declared.command.TheConstants.{FAULTY}
use Rattle.ldm_check.specs.Files.{Scene, TellsConfs, TellsPqacts}
use Rattle.ldm_check.specs.Programs.{LooksFor}
use Rattle.ldm_check.specs.Warnings.{Warning, warnings_text}

-- what `check` is lent
pub record CheckOutside : Type 0 where
  pub store : StoreRecord
  pub sink : SinkRecord
  pub log : SinkRecord

abbrev pub check_tells : StoreRecord → SinkRecord → SinkRecord → CheckOutside
check_tells store sink log = record { store = store; sink = sink; log = log }

-- the texts that references lend
abbrev pub texts_of : List (Bor (List ℕ)) → List (List ℕ)
texts_of texts = map (λ (text : Bor (List ℕ)). text.now) texts

-- The faults of the files come to this text: those of each ldmd.conf, and then those of each pqact.conf.
pub record Tells (confs pqacts : List (List ℕ)) (text : List ℕ) (old new : StoreRecord) : Type 0 where
  pub between : Scene
  pub confs_told : TellsConfs confs (record { store = old; told = [] }) between
  pub pqacts_told : TellsPqacts pqacts between (record { store = new; told = text })

-- The faults of the files come to this text, and then programs were looked for.
pub record Finds (confs pqacts : List (List ℕ)) (text : List ℕ) (old new : StoreRecord) : Type 0 where
  pub read : StoreRecord
  pub tells : Tells confs pqacts text old read
  pub programs : LooksFor read new

-- the number where all was written: whether a fault was told
abbrev pub code_by : List ℕ → ℕ
code_by [] = 0
code_by (byte ∷ bytes) = FAULTY

-- A text was written, of which the front is of faults; or the sink failed, after a front of it.
abbrev pub Writes : ℕ → (faults text : List ℕ) → CheckOutside → CheckOutside → Type 0
Writes code faults text old new =
    (Takes old.sink text new.sink × (code ≡ code_by faults) × (new.log ≡ old.log))
    ⊎ (Rose old.sink.faults new.sink.faults × WritesFront old.sink text new.sink × Reports status.SinkFault code old.log new.log)

-- The faults of the files were written, and behind them warnings, a line each.
pub record Checks (code : ℕ) (confs pqacts : List (List ℕ)) (old new : CheckOutside) : Type 0 where
  pub faults : List ℕ
  pub finds : Finds confs pqacts faults old.store new.store
  pub warnings : List Warning
  pub writes : Writes code faults (faults ++ warnings_text warnings) old new

-- there was no memory, and nothing is written
abbrev pub LacksMemory : ℕ → CheckOutside → CheckOutside → Type 0
LacksMemory code old new = (new.sink ≡ old.sink) × Reports status.NoMemory code old.log new.log

-- How `check` ends, by the paths that it is told.
abbrev pub CheckRuns : ℕ → (confs pqacts : List (List ℕ)) → CheckOutside → CheckOutside → Type 0
CheckRuns code confs pqacts old new = Checks code confs pqacts old new ⊎ LacksMemory code old new

-- The state of `pqact`: the signature of the last product that was acted on, or that ended it, in two files.
use Rattle.std.specs.Prelude.{◌≡◌, ◌⊎◌, ℕ, ◌-◌, ◌≤◌, true, false, List, [], ◌∷◌, ◌++◌, length, take, codes, nat_eq, Option, Some, None, IfSome, Result, Ok, Err, if◌then◌else◌}
use Rattle.std.specs.List.{ends_with}
use Rattle.hex.specs.Hex.{encode_lower}
use Rattle.ldm_types.specs.declared.signature.Signature.{Signature}
use Rattle.ldm_signature.specs.HexSignature.{hex_signature}
use Rattle.ldm_outside.specs.Launcher.{LauncherRecord}
use Rattle.ldm_outside.specs.Store.{StoreRecord, ReadsFile, bytes_under}
use Rattle.ldm_outside.specs.declared.store.FileRead.TheVariants as file
use Rattle.ldm_shared.specs.Givens.{Turn}
use Rattle.ldm_actions.specs.Effects.{Action, ToFile}
use Rattle.ldm_actions.specs.Outputs.{OutputsView, Standing, standing}
use Rattle.ldm_pqact.specs.declared.end.ActEnd.{ActEnd}
use Rattle.ldm_pqact.specs.declared.end.ActEnd.TheVariants as end
use Rattle.ldm_pqact.specs.Carried.{DoesBy}
use Rattle.ldm_pqact.specs.Lasting.{last_of}
use Rattle.ldm_pqact.specs.Turns.{deeds_of}
use Rattle.ldm_pqact_conf.specs.Entries.{EntryView}
use Rattle.ldm_gather.specs.declared.end.GatherEnd.{GatherEnd}
use Rattle.ldm_gather.specs.declared.end.GatherEnd.TheVariants.{Received, Enough, Stopped}
use Rattle.ldm_gather.specs.Orders.{OrderView}
use Rattle.ldm_status.specs.declared.status.Status.{Status}
use Rattle.ldm_status.specs.declared.status.Status.TheVariants as status
use Rattle.ldm_pqact_command.specs.declared.state.StateRead.{StateRead}
use Rattle.ldm_pqact_command.specs.declared.state.StateRead.TheVariants as read
use Rattle.ldm_pqact_command.specs.declared.state.StateNotTaken.{StateNotTaken}
use Rattle.ldm_pqact_command.specs.declared.state.StateNotTaken.TheVariants.{Bad, OutOfMemory}
use Rattle.ldm_pqact_command.specs.declared.state.TheConstants.{LONGEST_STATE}

-- ---- its text

-- one line: the 32 digits of a signature
abbrev pub state_text : List ℕ → List ℕ
state_text signature = encode_lower signature ++ codes "\n"

-- the signature that a text is of: 32 digits of either case and a newline, and nothing else
abbrev pub state_in : List ℕ → Option (List ℕ)
state_in text = if ends_with nat_eq text (codes "\n") then hex_signature (take (length text - 1) text) else None

-- ---- its files

-- the path of the file that is written before: it is whole while the other one is written
abbrev pub spare_path : List ℕ → List ℕ
spare_path path = path ++ codes "~"

-- ---- it is read

-- The file under the path came, and has that text.
abbrev pub HasText : List ℕ → List ℕ → StoreRecord → Type 0
HasText path text store = (length text ≤ LONGEST_STATE) × IfSome store.files (λ files. bytes_under path files ≡ Some text)

-- it is of that signature
abbrev pub HasSignature : List ℕ → Signature → (old new : StoreRecord) → Type 0
HasSignature path signature old new = (text : List ℕ) × HasText path text old × (state_in text ≡ Some signature.0) × (new ≡ old)

-- it is of none
abbrev pub HasOther : List ℕ → (old new : StoreRecord) → Type 0
HasOther path old new = ((text : List ℕ) × HasText path text old × (state_in text ≡ None) × (new ≡ old)) ⊎ ReadsFile file.TooLong path LONGEST_STATE old new

-- there is no such file, or the store failed
abbrev pub IsMissing : List ℕ → (old new : StoreRecord) → Type 0
IsMissing path old new = ReadsFile file.Failed path LONGEST_STATE old new

-- what reading one file did
abbrev pub ReadsState : StateRead → List ℕ → (old new : StoreRecord) → Type 0
ReadsState (read.Of signature) path old new = HasSignature path signature old new
ReadsState read.Other path old new = HasOther path old new
ReadsState read.Missing path old new = IsMissing path old new
ReadsState read.OutOfMemory path old new = new ≡ old

-- What taking the state from the file under a path did, or from the one that was written before.
abbrev pub TakesState : Result (Option Signature) StateNotTaken → List ℕ → (old new : StoreRecord) → Type 0
-- the one has that signature, or it has none and the other has
TakesState (Ok (Some signature)) path old new =
    HasSignature path signature old new ⊎ ((mid : StoreRecord) × HasOther path old mid × HasSignature (spare_path path) signature mid new)
TakesState (Ok None) path old new = IsMissing path old new
-- neither has one
TakesState (Err Bad) path old new =
    (mid : StoreRecord) × HasOther path old mid × (HasOther (spare_path path) mid new ⊎ IsMissing (spare_path path) mid new)
TakesState (Err OutOfMemory) path old new = (new ≡ old) ⊎ HasOther path old new

-- the same, where the one has no signature
abbrev pub TakesSpare : Result (Option Signature) StateNotTaken → List ℕ → (old new : StoreRecord) → Type 0
TakesSpare (Ok (Some signature)) path old new = HasSignature (spare_path path) signature old new
TakesSpare (Ok None) path old new = ⊥
TakesSpare (Err Bad) path old new = HasOther (spare_path path) old new ⊎ IsMissing (spare_path path) old new
TakesSpare (Err OutOfMemory) path old new = new ≡ old

-- the same, where a state is kept
abbrev pub TakesStateIf : Result (Option Signature) StateNotTaken → Option (List ℕ) → (old new : StoreRecord) → Type 0
TakesStateIf taken None old new = (taken ≡ Ok None) × (new ≡ old)
TakesStateIf taken (Some path) old new = TakesState taken path old new

-- the products that come behind that one are asked for
abbrev pub last_or : Option Signature → Option (List ℕ) → Option (List ℕ)
last_or None before = before
last_or (Some signature) before = Some signature.0

abbrev pub behind : Option Signature → OrderView → OrderView
behind last order = record order { last = last_or last order.last }

-- the status of a command that took no state
abbrev pub status_of_state : StateNotTaken → Status
status_of_state Bad = status.BadConf 0 1 2
status_of_state OutOfMemory = status.NoMemory

-- ---- it is written

-- how a file is written: it is emptied, written and shut
abbrev pub written_anew : List ℕ → Action
written_anew path = ToFile path (record { overwrite = true; close = true; flush = true; strip = false })

-- how both files are
pub record StateActions : Type 0 where
  pub spare : Action
  pub file : Action

abbrev pub state_actions : List ℕ → StateActions
state_actions path = record { spare = written_anew (spare_path path); file = written_anew path }

-- what is done where a state is kept and a product was given: the one file is written, and then the other
abbrev pub state_deeds : Option StateActions → Option (List ℕ) → List (Action × List ℕ)
state_deeds (Some files) (Some signature) = (files.spare, state_text signature) ∷ (files.file, state_text signature) ∷ []
state_deeds (Some files) None = []
state_deeds None last = []

-- what is done with a batch: what entries choose for its products, and then the state of the last one is written
abbrev pub batch_deeds : StateActions → List EntryView → List Turn → List (Action × List ℕ)
batch_deeds files entries batch = deeds_of entries batch ++ state_deeds (Some files) (last_of batch)

-- What came of the state behind the products of a batch: it was written, unless acting on them broke off or there is nothing to write.
abbrev pub KeepsState : (acted ended : ActEnd) → List (Action × List ℕ) → (old new : Standing) → Type 0
KeepsState end.Stopped ended (deed ∷ deeds) old new = DoesBy ended (deed ∷ deeds) old new
KeepsState acted ended deeds old new = (new ≡ old) × (ended ≡ acted)

-- It was written by outputs that are used for nothing else, or in part.
pub record WritesLast (deeds : List (Action × List ℕ)) (old : Standing) (store : StoreRecord) (launcher : LauncherRecord) : Type 0 where
  pub answer : ActEnd
  pub left : OutputsView
  pub does : DoesBy answer deeds old (standing left store launcher)

-- What came of it behind the closing of the outputs: it was written where acting on products stopped.
abbrev pub KeepsLast : GatherEnd → List (Action × List ℕ) → Standing → StoreRecord → LauncherRecord → Type 0
KeepsLast Stopped (deed ∷ deeds) old store launcher = WritesLast (deed ∷ deeds) old store launcher
KeepsLast gathered deeds old store launcher = (store ≡ old.store) × (launcher ≡ old.launcher)

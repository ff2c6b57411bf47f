-- What looking for the faults of files comes to: what is told of them, in order.
use Rattle.std.specs.Prelude.{◌≡◌, ℕ, List, [], ◌∷◌, ◌++◌, Some}
use Rattle.ldm_outside.specs.Reason.{IsReason}
use Rattle.ldm_outside.specs.Store.{StoreRecord, ReadsFile}
use Rattle.ldm_outside.specs.declared.store.FileRead.{FileRead}
use Rattle.ldm_outside.specs.declared.store.FileRead.TheVariants as read
use Rattle.ldm_text.specs.Lines.{lines_of}
use Rattle.ldm_text.specs.declared.limits.TheConstants.{LONGEST_CONFIGURATION}
use Rattle.ldm_conf.specs.Lines.{without_return}
use Rattle.ldm_conf.specs.declared.fault.ConfKind.TheVariants as kind
use Rattle.ldm_command_files.specs.Words.{conf_words, pqact_words}
use Rattle.ldm_check.specs.ConfFaults as conf
use Rattle.ldm_check.specs.ConfFaults.{Asked, conf_faults}
use Rattle.ldm_check.specs.Lines.{fault_line, file_line, unread_line}
use Rattle.ldm_check.specs.PqactFaults as pqact
use Rattle.ldm_check.specs.PqactFaults.{HasFaults}

-- what is told of the faults of an ldmd.conf, and of the files that it includes: each under the path of its own file
abbrev pub conf_line : conf.Found → List ℕ
conf_line found = fault_line found.line.path found.line.number (conf_words found.kind) (without_return found.line.text)

abbrev pub conf_text : List conf.Found → List ℕ
conf_text [] = []
conf_text (found ∷ more) = conf_line found ++ conf_text more

-- and of a pqact.conf under a path
abbrev pub pqact_line : List ℕ → pqact.Found → List ℕ
pqact_line path found = fault_line path found.number (pqact_words found.kind) (without_return found.text)

abbrev pub pqact_text : List ℕ → List pqact.Found → List ℕ
pqact_text path [] = []
pqact_text path (found ∷ more) = pqact_line path found ++ pqact_text path more

-- the store was asked for these files, one after the other, and answered so
abbrev pub AsksAll : List Asked → StoreRecord → StoreRecord → Type 0
AsksAll [] old new = new ≡ old
AsksAll (one ∷ more) old new =
    (mid : StoreRecord) × ReadsFile one.answer one.path LONGEST_CONFIGURATION old mid × AsksAll more mid new

-- the store, and what was told so far
pub record Scene : Type 0 where
  pub store : StoreRecord
  pub told : List ℕ

abbrev pub with_told : Scene → List ℕ → Scene
with_told scene text = record scene { told = scene.told ++ text }

-- The faults of an ldmd.conf of these bytes were told, by what the store answered to its INCLUDE lines.
pub record TellsConf (path bytes : List ℕ) (old new : Scene) : Type 0 where
  pub asked : List Asked
  pub asks : AsksAll asked old.store new.store
  pub found : List conf.Found
  pub faults : conf_faults asked path bytes ≡ Some found
  pub told : new.told ≡ old.told ++ conf_text found

-- The faults of a pqact.conf of these bytes were told.
pub record TellsPqact (path bytes : List ℕ) (old new : Scene) : Type 0 where
  pub found : List pqact.Found
  pub faults : HasFaults 0 (lines_of bytes) found
  pub told : new ≡ with_told old (pqact_text path found)

-- what is told of a file by what reading it gave, and by what is told of its bytes
abbrev pub TellsRead : (List ℕ → Scene → Scene → Type 0) → FileRead → List ℕ → Scene → Scene → Type 0
TellsRead Tells (read.Bytes bytes) path old new = Tells bytes.items old new
TellsRead Tells read.TooLong path old new = new ≡ with_told old (file_line path (conf_words kind.Long))
TellsRead Tells read.Failed path old new = (reason : List ℕ) × IsReason reason × (new ≡ with_told old (unread_line path reason))
TellsRead Tells read.OutOfMemory path old new = ⊥

-- A file was read, and told of.
pub record TellsFile (Tells : List ℕ → Scene → Scene → Type 0) (path : List ℕ) (old new : Scene) : Type 0 where
  pub answer : FileRead
  pub mid : StoreRecord
  pub reads : ReadsFile answer path LONGEST_CONFIGURATION old.store mid
  pub tells : TellsRead Tells answer path (record old { store = mid }) new

-- files were read and told of, in order
abbrev pub TellsFiles : (List ℕ → List ℕ → Scene → Scene → Type 0) → List (List ℕ) → Scene → Scene → Type 0
TellsFiles Tells [] old new = new ≡ old
TellsFiles Tells (path ∷ paths) old new = (mid : Scene) × TellsFile (Tells path) path old mid × TellsFiles Tells paths mid new

-- each an ldmd.conf, or each a pqact.conf
abbrev pub TellsConfs : List (List ℕ) → Scene → Scene → Type 0
TellsConfs paths old new = TellsFiles TellsConf paths old new

abbrev pub TellsPqacts : List (List ℕ) → Scene → Scene → Type 0
TellsPqacts paths old new = TellsFiles TellsPqact paths old new

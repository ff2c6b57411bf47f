-- How the search for faults goes on. No caller needs it.
use Rattle.std.specs.Prelude.{◌≡◌, ℕ, List, ◌++◌, Option, option_map}
use Rattle.ldm_outside.specs.Store.{StoreRecord}
use Rattle.ldm_check.specs.declared.conf_file.Search.{Search}
use Rattle.ldm_check.specs.declared.looking.Form.{Form}
use Rattle.ldm_check.specs.declared.looking.Form.TheVariants as form
use Rattle.ldm_check.specs.ConfFaults.{Asked, Line, faults_of, included}
use Rattle.ldm_check.specs.Files.{AsksAll, Scene, TellsConf, TellsPqact, conf_text}

-- how many files came, and what was told so far
pub record State : Type 0 where
  pub count : ℕ
  pub told : List ℕ

abbrev pub state_of : Search → State
state_of search = record { count = search.files; told = search.faults.items }

-- what is told at the end, where the store answers so from here on, and these lines are left
abbrev pub tells_on : List Asked → State → List Line → Option (List ℕ)
tells_on asked state lines = option_map (λ found. state.told ++ conf_text found) (faults_of asked state.count lines)

-- the same, at an INCLUDE line
abbrev pub tells_at : List Asked → State → Line → List ℕ → List Line → Option (List ℕ)
tells_at asked state line path behind = option_map (λ found. state.told ++ conf_text found) (included asked state.count line path behind)

-- Lines without a file that is included were looked at: whatever the store answers, and whatever is behind the lines.
pub record GoesOn (old : State) (lines : List Line) (new : State) (left : List Line) : Type 0 where
  pub on : (asked : List Asked) (behind : List Line) → tells_on asked old (lines ++ behind) ≡ tells_on asked new (left ++ behind)

-- Lines up to an INCLUDE line whose file may be included were looked at.
pub record GoesTo (old : State) (lines : List Line) (new : State) (line : Line) (path : List ℕ) (left : List Line) : Type 0 where
  pub on : (asked : List Asked) (behind : List Line) → tells_on asked old (lines ++ behind) ≡ tells_at asked new line path (left ++ behind)

-- Lines were looked at, with the files that they include.
pub record Passes (before after : StoreRecord) (old : State) (lines : List Line) (new : State) (left : List Line) : Type 0 where
  pub asked : List Asked
  pub asks : AsksAll asked before after
  pub on : (later : List Asked) (behind : List Line) → tells_on (asked ++ later) old (lines ++ behind) ≡ tells_on later new (left ++ behind)

-- what is told, beside a store
abbrev pub scene_of : StoreRecord → Search → Scene
scene_of store search = record { store = store; told = search.faults.items }

-- what is told of the bytes of a file under a path, by what the file is to be
abbrev pub tells_by : Form → List ℕ → List ℕ → Scene → Scene → Type 0
tells_by form.Conf path bytes old new = TellsConf path bytes old new
tells_by form.Pqact path bytes old new = TellsPqact path bytes old new

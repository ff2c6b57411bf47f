-- What was read so far, and how reading goes on.
use Rattle.std.specs.Prelude.{◌≡◌, ℕ, ◌⊎◌, List, ◌++◌, Ok}
use Rattle.std.specs.List.{All}
use Rattle.ldm_outside.specs.Store.{File, StoreRecord}
use Rattle.ldm_conf.specs.declared.fault.ConfFault.{ConfFault}
use Rattle.ldm_conf.specs.declared.reader.Reader.{Reader}
use Rattle.ldm_conf.specs.Causes.{IsIn}
use Rattle.ldm_conf.specs.Confs.{ConfView, Directive, conf_view, with_directive}
use Rattle.ldm_conf.specs.LineFaults.{OnLineFault}
use Rattle.ldm_conf.specs.Reading.{End, Faulty, Line, along, included}
use Rattle.ldm_conf.specs.Statements.{Blank, Adds, meaning_of}

-- how many files were read, and what they add
pub record State : Type 0 where
  pub count : ℕ
  pub conf : ConfView

abbrev pub state_of : Reader → State
state_of reader = record { count = reader.files; conf = conf_view reader.conf }

-- a line added nothing, or a directive
abbrev pub AddsLine : List ℕ → ConfView → ConfView → Type 0
AddsLine text old new =
    ((meaning_of text ≡ Ok Blank) × (new ≡ old))
    ⊎ ((directive : Directive) × (meaning_of text ≡ Ok (Adds directive)) × (new ≡ with_directive old directive))

-- how reading goes on with these lines, where these files come
abbrev pub reads_on : List File → State → List Line → End
reads_on files state lines = along (included files state.count) state.conf lines

-- Lines without an INCLUDE line were read: whatever files come, and whatever is behind the lines.
pub record GoesOn (old : State) (lines : List Line) (new : State) (left : List Line) : Type 0 where
  pub count : new.count ≡ old.count
  pub on : (files : List File) (behind : List Line) → reads_on files old (lines ++ behind) ≡ reads_on files new (left ++ behind)

-- Lines up to an INCLUDE line were read.
pub record GoesTo (old : State) (lines : List Line) (new : State) (line : Line) (path : List ℕ) (left : List Line) : Type 0 where
  pub count : new.count ≡ old.count
  pub on : (files : List File) (behind : List Line) → reads_on files old (lines ++ behind) ≡ included files new.count new.conf line path (left ++ behind)

-- A line among these is the first faulty one.
abbrev pub FailsIn : State → List Line → ConfFault → Type 0
FailsIn old lines fault = OnLineFault fault.kind ((files : List File) (behind : List Line) → reads_on files old (lines ++ behind) ≡ Faulty fault)

-- Reading went on from one state and the lines to another and what is left, over files of a store.
pub record Passes (store : StoreRecord) (old : State) (lines : List Line) (new : State) (left : List Line) : Type 0 where
  pub came : List File
  pub told : All (IsIn store) came
  pub on : (later : List File) (behind : List Line) → reads_on (came ++ later) old (lines ++ behind) ≡ reads_on later new (left ++ behind)

-- Reading ends within the lines, whatever is behind them.
pub record EndsIn (store : StoreRecord) (old : State) (lines : List Line) (end : End) : Type 0 where
  pub came : List File
  pub told : All (IsIn store) came
  pub ends : (behind : List Line) → reads_on came old (lines ++ behind) ≡ end

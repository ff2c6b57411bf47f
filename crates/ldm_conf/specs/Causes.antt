-- What a call of `read_conf` did.
use Rattle.std.specs.Prelude.{◌≡◌, ℕ, ◌≤◌, List, length, IfSome, Some, Result, Ok, Err}
use Rattle.std.specs.List.{All}
use Rattle.ldm_outside.specs.Store.{File, StoreRecord, ReadsFile, bytes_under}
use Rattle.ldm_outside.specs.declared.store.FileRead.{FileRead}
use Rattle.ldm_outside.specs.declared.store.FileRead.TheVariants as file
use Rattle.ldm_conf.specs.declared.conf.Conf.{Conf}
use Rattle.ldm_conf.specs.declared.fault.ConfFault.{ConfFault}
use Rattle.ldm_conf.specs.declared.fault.ConfKind.{ConfKind}
use Rattle.ldm_conf.specs.declared.fault.ConfKind.TheVariants.{Keyword, Fields, Feed, Pattern, Depth, Store, Long, OutOfMemory}
use Rattle.ldm_text.specs.declared.limits.TheConstants.{LONGEST_CONFIGURATION}
use Rattle.ldm_conf.specs.Confs.{conf_view}
use Rattle.ldm_conf.specs.Reading.{End, Read, Faulty, Wants, Line, reading}

abbrev pub kind_number : ConfKind → ℕ
kind_number Keyword = 1
kind_number Fields = 2
kind_number Feed = 3
kind_number Pattern = 4
kind_number Depth = 5
kind_number Store = 6
kind_number Long = 7
kind_number OutOfMemory = 8

-- a file that a store may give: it is not too long, and stands in the store, where the store tells its files
abbrev pub IsIn : StoreRecord → File → Type 0
IsIn store file = (length file.bytes ≤ LONGEST_CONFIGURATION) × IfSome store.files (λ files. bytes_under file.path files ≡ Some file.bytes)

-- reading a text comes to that end, with files of a store
pub record ReadsTo (store : StoreRecord) (text : List ℕ) (end : End) : Type 0 where
  -- the files that came, in order
  pub came : List File
  pub told : All (IsIn store) came
  pub ends : reading came text ≡ end

-- a fault stands at that line
abbrev pub StandsAt : ConfFault → Line → Type 0
StandsAt fault line = (fault.file ≡ line.file) × (fault.line ≡ line.number)

-- A fault at an INCLUDE line: reading comes to it, and the store answered so.
pub record IsOfFile (ends : End → Type 0) (answer : FileRead) (fault : ConfFault) (old new : StoreRecord) : Type 0 where
  pub line : Line
  pub path : List ℕ
  pub wanted : ends (Wants line path)
  pub place : StandsAt fault line
  pub answered : ReadsFile answer path LONGEST_CONFIGURATION old new

-- a fault at the first faulty line, which changes nothing in the store
abbrev pub IsOfLine : (End → Type 0) → ConfFault → StoreRecord → StoreRecord → Type 0
IsOfLine ends fault old new = ends (Faulty fault) × (new ≡ old)

-- the cause of a fault, by its kind: `ends` says to which end reading comes. Of want of memory nothing is said.
abbrev pub HasCause : (End → Type 0) → ConfKind → ConfFault → StoreRecord → StoreRecord → Type 0
HasCause ends Keyword fault old new = IsOfLine ends fault old new
HasCause ends Fields fault old new = IsOfLine ends fault old new
HasCause ends Feed fault old new = IsOfLine ends fault old new
HasCause ends Pattern fault old new = IsOfLine ends fault old new
HasCause ends Depth fault old new = IsOfLine ends fault old new
HasCause ends Store fault old new = IsOfFile ends file.Failed fault old new
HasCause ends Long fault old new = IsOfFile ends file.TooLong fault old new
HasCause ends OutOfMemory fault old new = new ≡ old

-- What `read_conf` did with a text that is not too long: it reads all lines, or it stops at the first fault.
abbrev pub ReadsConf : Result Conf ConfFault → List ℕ → StoreRecord → StoreRecord → Type 0
ReadsConf (Ok conf) text old new = ReadsTo old text (Read (conf_view conf)) × (new ≡ old)
ReadsConf (Err fault) text old new = HasCause (ReadsTo old text) fault.kind fault old new

-- the fault of a first file that is too long: no line was looked at
abbrev pub first_too_long : ConfFault
first_too_long = record { file = 0; line = 0; kind = Long }

-- What the faults of an ldmd.conf have to do with what it means, and warnings with faults.
use Rattle.std.specs.Prelude.{◌≡◌, ◌⊎◌, ℕ, zero, suc, List, [], ◌∷◌, ◌++◌, map, Option, Some, None, Err}
use Rattle.ldm_outside.specs.Store.{File}
use Rattle.ldm_outside.specs.declared.store.FileRead.{FileRead}
use Rattle.ldm_outside.specs.declared.store.FileRead.TheVariants as read
use Rattle.ldm_conf.specs.declared.fault.ConfFault.{ConfFault}
use Rattle.ldm_conf.specs.declared.fault.ConfKind.{ConfKind}
use Rattle.ldm_conf.specs.declared.fault.ConfKind.TheVariants as kind
use Rattle.ldm_conf.specs.Confs.{ConfView}
use Rattle.ldm_conf.specs.Reading as conf
use Rattle.ldm_conf.specs.Reading.{Faulty, Read, Wants, reading}
use Rattle.ldm_conf.specs.Statements.{meaning_of}
use Rattle.ldm_command_files.specs.Words.{conf_words, pqact_words}
use Rattle.ldm_pqact_conf.specs.declared.fault.PqactKind.{PqactKind}
use Rattle.ldm_check.specs.ConfFaults.{Asked, Found, Line, conf_faults, faults_of}
use Rattle.ldm_check.specs.Lines.{fault_line, file_line}
use Rattle.ldm_check.specs.Warnings.{Warning, NoTool, OfLine, Missing, warning_line}

-- an answer that is these bytes
abbrev pub HasBytes : FileRead → List ℕ → Type 0
HasBytes (read.Bytes bytes) items = bytes.items ≡ items
HasBytes read.TooLong items = ⊥
HasBytes read.Failed items = ⊥
HasBytes read.OutOfMemory items = ⊥

-- the store answered with these files
abbrev pub Gave : List Asked → List File → Type 0
Gave [] [] = Unit {0}
Gave [] (file ∷ files) = ⊥
Gave (one ∷ asked) [] = ⊥
Gave (one ∷ asked) (file ∷ files) = (one.path ≡ file.path) × HasBytes one.answer file.bytes × Gave asked files

-- A text that is read as a configuration has no fault.
abbrev pub NoneWhereRead : Type 0
NoneWhereRead =
    (asked : List Asked) (came : List File) (path text : List ℕ) (conf : ConfView) → Gave asked came → reading came text ≡ Read conf
    → conf_faults asked path text ≡ Some []

-- the paths of the files that are read, in order: of the text itself, and of the files that came
abbrev pub paths_of : List ℕ → List File → List (List ℕ)
paths_of path came = path ∷ map (λ (file : File). file.path) came

-- the path of the file of that number, from 0
abbrev pub path_at : ℕ → List (List ℕ) → List ℕ
path_at n [] = []
path_at zero (path ∷ paths) = path
path_at (suc n) (path ∷ paths) = path_at n paths

-- These faults begin with that one, where files are read under these paths.
abbrev pub BeginsWith : List (List ℕ) → ConfFault → List Found → Type 0
BeginsWith paths fault [] = ⊥
BeginsWith paths fault (first ∷ more) =
    (first.line.path ≡ path_at fault.file paths) × (first.line.number ≡ fault.line) × (first.kind ≡ fault.kind)

-- Where reading a text stops at a faulty line, whatever the store answers later the first fault is that one.
abbrev pub FirstWhereFaulty : Type 0
FirstWhereFaulty =
    (asked later : List Asked) (came : List File) (path text : List ℕ) (fault : ConfFault) (found : List Found)
    → Gave asked came → reading came text ≡ Faulty fault → conf_faults (asked ++ later) path text ≡ Some found
    → BeginsWith (paths_of path came) fault found

-- what is wrong with an INCLUDE line whose file does not come
abbrev pub unread_kind : FileRead → Option ConfKind
unread_kind (read.Bytes bytes) = None
unread_kind read.TooLong = Some kind.Long
unread_kind read.Failed = Some kind.Store
unread_kind read.OutOfMemory = None

-- Where reading a text wants a file that does not come, whatever the store answers later the first fault is at that INCLUDE line.
abbrev pub FirstWhereUnread : Type 0
FirstWhereUnread =
    (asked later : List Asked) (one : Asked) (came : List File) (path text : List ℕ) (line : conf.Line) (kind : ConfKind)
    → (found : List Found) → Gave asked came → reading came text ≡ Wants line one.path → unread_kind one.answer ≡ Some kind
    → conf_faults (asked ++ one ∷ later) path text ≡ Some found
    → BeginsWith (paths_of path came) (record { file = line.file; line = line.number; kind = kind }) found

-- a line without its text, at its place
abbrev pub emptied : Line → Line
emptied line = record line { text = [] }

-- These faults are those without one of a line.
abbrev pub LacksOne : Line → ConfKind → Option (List Found) → Option (List Found) → Type 0
LacksOne line kind with_it without =
    ((with_it ≡ None) × (without ≡ None))
    ⊎ ((before behind : List Found) × (with_it ≡ Some (before ++ record { line = line; kind = kind } ∷ behind))
    × (without ≡ Some (before ++ behind)))

-- A line that means nothing adds its own fault, and changes no other: the faults of the lines with that line emptied are those without it.
abbrev pub EachAlone : Type 0
EachAlone =
    (asked : List Asked) (count : ℕ) (before behind : List Line) (line : Line) (kind : ConfKind) → meaning_of line.text ≡ Err kind
    → LacksOne line kind (faults_of asked count (before ++ line ∷ behind)) (faults_of asked count (before ++ emptied line ∷ behind))

-- the words of a fault
abbrev pub IsFaultWords : List ℕ → Type 0
IsFaultWords words = ((kind : ConfKind) × (words ≡ conf_words kind)) ⊎ ((kind : PqactKind) × (words ≡ pqact_words kind))

-- A warning of a line is not spelled as a fault of that line, and one of a whole file not as a fault of that file.
abbrev pub IsNoFault : Warning → Type 0
IsNoFault (NoTool path) = (words : List ℕ) → IsFaultWords words → warning_line (NoTool path) ≡ file_line path words → ⊥
IsNoFault (OfLine path number concern) =
    (words text : List ℕ) → IsFaultWords words
    → warning_line (OfLine path number concern) ≡ fault_line path number words text → ⊥
IsNoFault (Missing path number program reason) =
    (words text : List ℕ) → IsFaultWords words
    → warning_line (Missing path number program reason) ≡ fault_line path number words text → ⊥

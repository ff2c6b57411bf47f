-- The faults of an ldmd.conf, and of the files that it includes: of each line that means nothing, and of each INCLUDE line whose file
-- may not be included or did not come. No fault ends the reading.
use Rattle.std.specs.Prelude.{ℕ, ◌+◌, Bool, nat_lt, ◌&&◌, bytes_eq, if◌then◌else◌, List, [], ◌∷◌, ◌++◌, Option, Some, None, option_map}
use Rattle.ldm_outside.specs.declared.store.FileRead.{FileRead}
use Rattle.ldm_outside.specs.declared.store.FileRead.TheVariants as read
use Rattle.ldm_text.specs.Lines.{lines_of}
use Rattle.ldm_conf.specs.declared.fault.ConfKind.{ConfKind}
use Rattle.ldm_conf.specs.declared.fault.ConfKind.TheVariants as kind
use Rattle.ldm_conf.specs.declared.limits.TheConstants.{DEEPEST_INCLUDE, MOST_FILES}
use Rattle.ldm_conf.specs.Statements.{meaning_of}
use Rattle.ldm_check.specs.Says.{Says, Fine, Wrong, Names, says}

-- A line, and where it stands: the path of its file, how many INCLUDE lines lead to that file, and its number in it, from 1.
pub record Line : Type 0 where
  pub path : List ℕ
  pub depth : ℕ
  pub number : ℕ
  pub text : List ℕ

-- these lines of a file, the first of which has that number
abbrev pub numbered : List ℕ → ℕ → ℕ → List (List ℕ) → List Line
numbered path depth number [] = []
numbered path depth number (text ∷ texts) =
    record { path = path; depth = depth; number = number; text = text } ∷ numbered path depth (number + 1) texts

-- the lines of a file
abbrev pub lines_in : List ℕ → ℕ → List ℕ → List Line
lines_in path depth bytes = numbered path depth 1 (lines_of bytes)

-- a fault of a line
pub record Found : Type 0 where
  pub line : Line
  pub kind : ConfKind

-- a fault in front of others, where all of these are known
abbrev pub in_front : Line → ConfKind → Option (List Found) → Option (List Found)
in_front line kind others = option_map (λ found. record { line = line; kind = kind } ∷ found) others

-- a file that the store was asked for, and what it answered
pub record Asked : Type 0 where
  pub path : List ℕ
  pub answer : FileRead

-- What comes of an INCLUDE line: by the line, the path and the lines behind it.
abbrev pub Include : Type 0
Include = Line → List ℕ → List Line → Option (List Found)

-- one line more, by what it says: `others` are the faults of the lines behind it
abbrev pub with_line : (Line → Bool) → Include → Option (List Found) → Line → List Line → Says → Option (List Found)
with_line may include others line behind Fine = others
with_line may include others line behind (Wrong wrong) = in_front line wrong others
with_line may include others line behind (Names path) = if may line then include line path behind else in_front line kind.Depth others

-- the faults of lines
abbrev pub along : (Line → Bool) → Include → List Line → Option (List Found)
along may include [] = Some []
along may include (line ∷ lines) = with_line may include (along may include lines) line lines (says (meaning_of line.text))

-- whether a line may include one file more, where so many came
abbrev pub may_include : ℕ → Line → Bool
may_include count line = nat_lt line.depth DEEPEST_INCLUDE && nat_lt count MOST_FILES

-- an INCLUDE line, where so many files came and the store answers so: the lines of a file that comes stand in place of the line
abbrev pub by_answer : (ℕ → Include) → ℕ → Line → List ℕ → List Line → FileRead → Option (List Found)
by_answer later count line path behind (read.Bytes bytes) =
    along (may_include (count + 1)) (later (count + 1)) (lines_in path (line.depth + 1) bytes.items ++ behind)
by_answer later count line path behind read.TooLong = in_front line kind.Long (along (may_include count) (later count) behind)
by_answer later count line path behind read.Failed = in_front line kind.Store (along (may_include count) (later count) behind)
by_answer later count line path behind read.OutOfMemory = None

-- by the answers of the store, in order; where one is missing, or another file was asked for, nothing is known
abbrev pub included : List Asked → ℕ → Include
included [] count line path behind = None
included (asked ∷ later) count line path behind =
    if bytes_eq asked.path path then by_answer (included later) count line path behind asked.answer else None

-- the faults of lines, where so many files came, and the store answers so from there on
abbrev pub faults_of : List Asked → ℕ → List Line → Option (List Found)
faults_of asked count lines = along (may_include count) (included asked count) lines

-- the faults of an ldmd.conf of these bytes under a path
unfoldable pub conf_faults : List Asked → List ℕ → List ℕ → Option (List Found)
conf_faults asked path bytes = faults_of asked 1 (lines_in path 0 bytes)

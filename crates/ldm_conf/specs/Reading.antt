-- The configuration that files mean, line by line, each INCLUDE line standing for the lines of its file.
use Rattle.std.specs.Prelude.{ℕ, ◌+◌, Bool, nat_lt, ◌&&◌, bytes_eq, if◌then◌else◌, List, [], ◌∷◌, ◌++◌, Result, Ok, Err}
use Rattle.ldm_outside.specs.Store.{File}
use Rattle.ldm_text.specs.Lines.{lines_of}
use Rattle.ldm_conf.specs.declared.fault.ConfFault.{ConfFault}
use Rattle.ldm_conf.specs.declared.fault.ConfKind.{ConfKind}
use Rattle.ldm_conf.specs.declared.fault.ConfKind.TheVariants as kind
use Rattle.ldm_conf.specs.declared.limits.TheConstants.{DEEPEST_INCLUDE, MOST_FILES}
use Rattle.ldm_conf.specs.Confs.{ConfView, no_conf, with_directive}
use Rattle.ldm_conf.specs.Statements.{Statement, Blank, Adds, Includes, meaning_of}

-- A line, and where it stands: the number of its file in the order in which files are read, from 0; how many INCLUDE
-- lines lead to that file; and its number in it, from 1.
pub record Line : Type 0 where
  pub file : ℕ
  pub depth : ℕ
  pub number : ℕ
  pub text : List ℕ

-- these lines of a file, the first of which has that number
abbrev pub numbered : ℕ → ℕ → ℕ → List (List ℕ) → List Line
numbered file depth number [] = []
numbered file depth number (text ∷ texts) =
    record { file = file; depth = depth; number = number; text = text } ∷ numbered file depth (number + 1) texts

-- the lines of a file
abbrev pub lines_in : ℕ → ℕ → List ℕ → List Line
lines_in file depth bytes = numbered file depth 1 (lines_of bytes)

-- how reading ends
pub data End : Type 0 where
  -- with all lines read
  Read : (conf : ConfView) → End
  -- at the first line that is faulty
  Faulty : (fault : ConfFault) → End
  -- at an INCLUDE line, of the file under that path, which has not come
  Wants : (line : Line) → (path : List ℕ) → End

abbrev pub faulty : Line → ConfKind → End
faulty line cause = Faulty (record { file = line.file; line = line.number; kind = cause })

-- What is done at an INCLUDE line: by what was read so far, the line, the path and the lines behind it.
abbrev pub Include : Type 0
Include = ConfView → Line → List ℕ → List Line → End

-- one line more, by what it means: `go_on` reads the lines behind it
abbrev pub after_line : Include → (ConfView → End) → ConfView → Line → List Line → Result Statement ConfKind → End
after_line include go_on conf line behind (Ok Blank) = go_on conf
after_line include go_on conf line behind (Ok (Adds directive)) = go_on (with_directive conf directive)
after_line include go_on conf line behind (Ok (Includes path)) = include conf line path behind
after_line include go_on conf line behind (Err cause) = faulty line cause

-- reads lines onto what was read so far
abbrev pub along : Include → ConfView → List Line → End
along include conf [] = Read conf
along include conf (line ∷ lines) = after_line include (λ more. along include more lines) conf line lines (meaning_of line.text)

-- whether a line may include one file more, where so many were read
abbrev pub may_include : ℕ → Line → Bool
may_include count line = nat_lt line.depth DEEPEST_INCLUDE && nat_lt count MOST_FILES

-- an INCLUDE line whose file has not come
abbrev pub wanting : ℕ → Line → List ℕ → End
wanting count line path = if may_include count line then Wants line path else faulty line kind.Depth

-- An INCLUDE line, where so many files were read and these come, each under the path that it was asked for by: the lines
-- of the first stand in place of the line.
abbrev pub included : List File → ℕ → Include
included [] count conf line path behind = wanting count line path
included (file ∷ files) count conf line path behind =
    if may_include count line && bytes_eq file.path path
    then along (included files (count + 1)) conf (lines_in count (line.depth + 1) file.bytes ++ behind)
    else wanting count line path

-- how reading a text ends, where these files come, in order
unfoldable pub reading : List File → List ℕ → End
reading files text = along (included files 1) no_conf (lines_in 0 0 text)

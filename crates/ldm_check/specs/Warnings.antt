-- What `check` warns of, and the line that it writes of each warning.
use Rattle.std.specs.Prelude.{ℕ, ◌++◌, List, [], ◌∷◌, codes, decimal, map, string_bytes}
use Rattle.ldm_outside.specs.Putting.{shown}
use Rattle.ldm_check.specs.declared.warning.Concern.{Concern}
use Rattle.ldm_check.specs.declared.warning.Concern.TheVariants as concern
use Rattle.ldm_check.specs.declared.warning.Warning as code
use Rattle.ldm_check.specs.declared.warning.Warning.TheVariants as warning
use Rattle.ldm_check.specs.Lines.{file_line}

pub data Warning : Type 0 where
  -- no ALLOW line of the ldmd.conf under that path lets a tool of this machine in
  NoTool : (path : List ℕ) → Warning
  -- that may be wrong with what a line of the file under that path says
  OfLine : (path : List ℕ) (number : ℕ) (concern : Concern) → Warning
  -- a program that a line starts is not there, or cannot be read; that is the reason of the store, or an empty text
  Missing : (path : List ℕ) (number : ℕ) (program reason : List ℕ) → Warning

-- what may be wrong, in words
abbrev pub concern_words : Concern → List ℕ
concern_words concern.NoMember = codes "the feedtype has no member, so the line lets nobody in"
concern_words concern.HasName = codes "the host pattern has letters of a name, and hosts are known by their addresses"
concern_words concern.FewWorkers =
    codes "more than 59 REQUEST lines: with the 4 workers of a node without -w they are more than 63"
concern_words concern.NoWorker = codes "more than 63 REQUEST lines, and a node has no worker for this one"
concern_words concern.GroupInPath =
    codes "a group of the pattern stands in the path, and may hold a slash or two dots"

-- the reason of the store, which names the program; or, where it gives none, the program
abbrev pub named_by : List ℕ → List ℕ → List ℕ
named_by program [] = program
named_by program (byte ∷ bytes) = byte ∷ bytes

-- `FILE:LINE: warning: ..`, with a newline (10)
abbrev pub line_warning : List ℕ → ℕ → List ℕ → List ℕ
line_warning path number words =
    map shown path ++ codes ":" ++ decimal number ++ codes ": " ++ codes "warning: " ++ words ++ 10 ∷ []

-- the same of a program, behind these words
abbrev pub named_line : List ℕ → ℕ → List ℕ → List ℕ → List ℕ
named_line path number words name =
    map shown path ++ codes ":" ++ decimal number ++ codes ": " ++ words ++ map shown name ++ 10 ∷ []

-- the line of a warning
abbrev pub warning_line : Warning → List ℕ
warning_line (NoTool path) =
    file_line path (codes "warning: no ALLOW line lets a tool of this machine (127.0.0.1) in")
warning_line (OfLine path number concern) = line_warning path number (concern_words concern)
warning_line (Missing path number program reason) =
    named_line path number (codes "warning: the program is not there, or cannot be read: ") (named_by program reason)

-- the lines of warnings
abbrev pub warnings_text : List Warning → List ℕ
warnings_text [] = []
warnings_text (first ∷ more) = warning_line first ++ warnings_text more

-- what contracts see of a warning
abbrev pub warning_view : code.Warning → Warning
warning_view (warning.NoTool path) = NoTool (string_bytes path)
warning_view (warning.OfLine path number concern) = OfLine (string_bytes path) number concern
warning_view (warning.Missing path number program reason) =
    Missing (string_bytes path) number (string_bytes program) reason.items

abbrev pub warning_views : List code.Warning → List Warning
warning_views warnings = map warning_view warnings

-- The faults of a pqact.conf.
use Rattle.std.specs.Prelude.{◌≡◌, ℕ, zero, suc, ◌+◌, ◌-◌, Bool, ◌||◌, if◌then◌else◌, List, [], ◌∷◌, length, Ok, Err}
use Rattle.ldm_pqact_conf.specs.declared.fault.PqactFault.{PqactFault}
use Rattle.ldm_pqact_conf.specs.declared.fault.PqactKind.{PqactKind}
use Rattle.ldm_pqact_conf.specs.Entries.{EntryView, entries_from}
use Rattle.ldm_pqact_conf.specs.Lines.{is_continuation, is_skipped}

-- a fault of an entry: the number and the text of its first line, and what is wrong
pub record Found : Type 0 where
  pub number : ℕ
  pub text : List ℕ
  pub kind : PqactKind

-- whether no entry begins in a line: it belongs to the one before it, or to none
abbrev pub goes_on : List ℕ → Bool
goes_on line = is_skipped line || is_continuation line

-- lines from the first on in which an entry begins
abbrev pub from_entry : List (List ℕ) → List (List ℕ)
from_entry [] = []
from_entry (line ∷ lines) = if goes_on line then from_entry lines else line ∷ lines

-- the line behind so many, and the lines behind that one
abbrev pub line_behind : ℕ → List (List ℕ) → List ℕ
line_behind n [] = []
line_behind zero (line ∷ lines) = line
line_behind (suc n) (line ∷ lines) = line_behind n lines

abbrev pub lines_behind : ℕ → List (List ℕ) → List (List ℕ)
lines_behind n [] = []
lines_behind zero (line ∷ lines) = lines
lines_behind (suc n) (line ∷ lines) = lines_behind n lines

-- the lines from the next entry on, behind the line of that number, from 1
abbrev pub behind_entry : ℕ → List (List ℕ) → List (List ℕ)
behind_entry number lines = from_entry (lines_behind (number - 1) lines)

-- how many lines a text has more than what is left of it
abbrev pub lines_passed : List (List ℕ) → List (List ℕ) → ℕ
lines_passed lines left = length lines - length left

-- a fault of lines that stand behind so many others
abbrev pub found_at : ℕ → List (List ℕ) → PqactFault → Found
found_at before lines fault = record {
  number = before + fault.line;
  text = line_behind (fault.line - 1) lines;
  kind = fault.kind;
}

-- These are the faults of lines that stand behind so many others: none where they mean entries; else the fault that their meaning is, and
-- then the faults of the lines from the next entry on.
abbrev pub HasFaults : ℕ → List (List ℕ) → List Found → Type 0
HasFaults before lines [] = (entries : List EntryView) × (entries_from 1 lines ≡ Ok entries)
HasFaults before lines (found ∷ more) =
    (fault : PqactFault) × (entries_from 1 lines ≡ Err fault) × (found ≡ found_at before lines fault)
    × HasFaults (before + lines_passed lines (behind_entry fault.line lines)) (behind_entry fault.line lines) more

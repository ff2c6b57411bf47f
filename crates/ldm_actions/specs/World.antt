-- What actions change: files, children, and which of these run under PIPE.
use Rattle.std.specs.Prelude.{ℕ, ◌+◌, Bool, false, List, [], ◌∷◌, ◌++◌, Option, option_map}
use Rattle.std.specs.List.{join_with_byte}
use Rattle.ldm_outside.specs.declared.launcher.ChildNo.{ChildNo}
use Rattle.ldm_outside.specs.Launcher.{Child, with_fed, with_input_shut, with_waited}
use Rattle.ldm_outside.specs.Store.{File, with_changed, with_made}

-- files and children
pub record Outside : Type 0 where
  -- all files, where the store tells them
  pub files : Option (List File)
  -- the number of the child that is started next
  pub next : ℕ
  -- all children that were ever started, where the launcher tells them
  pub children : Option (List Child)

-- what actions change
pub record World : Type 0 where
  pub outside : Outside
  -- the children that run under PIPE, each under its command: the one that was written last comes first
  pub piped : List (List ℕ × ℕ)

-- a command: words joined by one blank (32)
abbrev pub command_of : List (List ℕ) → List ℕ
command_of words = join_with_byte 32 words

abbrev pub child_no : ℕ → ChildNo
child_no number = record { 0 = number }

-- the file of a path is there: an empty one, where there was none
abbrev pub made : List ℕ → Outside → Outside
made path outside = record outside { files = option_map (with_made path) outside.files }

-- it has no bytes any more
abbrev pub emptied : List ℕ → Outside → Outside
emptied path outside = record outside { files = option_map (with_changed path (λ _. [])) outside.files }

-- it has more bytes at its end
abbrev pub appended : List ℕ → List ℕ → Outside → Outside
appended path bytes outside = record outside { files = option_map (with_changed path (λ before. before ++ bytes)) outside.files }

-- one child more
abbrev pub started : List (List ℕ) → Bool → Outside → Outside
started words piped outside = record outside {
  next = outside.next + 1;
  children = option_map (λ children. children ++ record { words = words; piped = piped; given = []; shut = false; waited = false } ∷ [])
      outside.children;
}

-- a child was given more bytes
abbrev pub fed : ℕ → List ℕ → Outside → Outside
fed child bytes outside = record outside { children = option_map (with_fed (child_no child) bytes) outside.children }

-- its input was shut
abbrev pub input_shut : ℕ → Outside → Outside
input_shut child outside = record outside { children = option_map (with_input_shut (child_no child)) outside.children }

-- it was waited for
abbrev pub waited : ℕ → Outside → Outside
waited child outside = record outside { children = option_map (with_waited (child_no child)) outside.children }

-- it is over: its input was shut, and then it was waited for
abbrev pub over : ℕ → Outside → Outside
over child outside = waited child (input_shut child outside)

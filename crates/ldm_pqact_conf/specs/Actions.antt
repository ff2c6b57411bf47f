-- Actions, their options, and how many words each takes.
use Rattle.std.specs.Prelude.{ℕ, Bool, ◌==◌, nat_le, List, [], ◌∷◌, codes, bytes_eq, Option}
use Rattle.std.specs.List.{find, list_any}
use Rattle.std.specs.Str.{str_eq_ignore_ascii_case}
use Rattle.ldm_text.specs.Blanks.{begins_with}
use Rattle.ldm_pqact_conf.specs.declared.action.ActionKind.{ActionKind}
use Rattle.ldm_pqact_conf.specs.declared.action.ActionKind.TheVariants.{File, StdioFile, Pipe, Exec, Noop}
use Rattle.ldm_pqact_conf.specs.declared.options.Options.{Options}

abbrev pub action_name : ActionKind → List ℕ
action_name File = codes "FILE"
action_name StdioFile = codes "STDIOFILE"
action_name Pipe = codes "PIPE"
action_name Exec = codes "EXEC"
action_name Noop = codes "NOOP"

abbrev pub actions : List ActionKind
actions = File ∷ StdioFile ∷ Pipe ∷ Exec ∷ Noop ∷ []

abbrev pub has_name : List ℕ → ActionKind → Bool
has_name field action = str_eq_ignore_ascii_case (action_name action) field

-- the action that a field names, in letters of either case
unfoldable pub action_of : List ℕ → Option ActionKind
action_of field = find (has_name field) actions

-- the options that an action has
abbrev pub options_for : ActionKind → List (List ℕ)
options_for File = codes "-overwrite" ∷ codes "-close" ∷ codes "-flush" ∷ codes "-strip" ∷ []
options_for StdioFile = codes "-overwrite" ∷ codes "-close" ∷ codes "-flush" ∷ codes "-strip" ∷ []
options_for Pipe = codes "-close" ∷ codes "-flush" ∷ codes "-strip" ∷ []
options_for Exec = codes "-wait" ∷ []
options_for Noop = []

-- it is an option of the action
unfoldable pub is_option : ActionKind → List ℕ → Bool
is_option action word = list_any (bytes_eq word) (options_for action)

-- it begins with `-` (45), so at the front of the words it is an option or a fault
abbrev pub is_dashed : List ℕ → Bool
is_dashed word = begins_with 45 word

-- the options that these words name
abbrev pub options_in : List (List ℕ) → Options
options_in words = record {
  overwrite = list_any (bytes_eq (codes "-overwrite")) words;
  close = list_any (bytes_eq (codes "-close")) words;
  flush = list_any (bytes_eq (codes "-flush")) words;
  strip = list_any (bytes_eq (codes "-strip")) words;
  wait = list_any (bytes_eq (codes "-wait")) words;
}

-- an action takes so many words behind its options
abbrev pub takes : ActionKind → ℕ → Bool
takes File count = count == 1
takes StdioFile count = count == 1
takes Pipe count = nat_le 1 count
takes Exec count = nat_le 1 count
takes Noop count = count == 0

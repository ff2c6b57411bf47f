-- Worlds and actions of the worked examples.
use Rattle.std.specs.Prelude.{ℕ, zero, suc, Bool, true, false, List, [], ◌∷◌, codes, Option, Some, None, option_map, slice_get}
use Rattle.ldm_outside.specs.Launcher.{Child}
use Rattle.ldm_outside.specs.Store.{File}
use Rattle.ldm_actions.specs.declared.options.FileOptions.{FileOptions}
use Rattle.ldm_actions.specs.Effects.{Action, ToFile, ToProgram, acted, effects}
use Rattle.ldm_actions.specs.World.{World}

-- no file, and no child
abbrev pub nothing_yet : World
nothing_yet = record { outside = record { files = Some []; next = 0; children = Some [] }; piped = [] }

abbrev pub file_options : Bool → Bool → FileOptions
file_options overwrite strip = record { overwrite = overwrite; close = false; flush = false; strip = strip }

abbrev pub to_a : Bool → Bool → Action
to_a overwrite strip = ToFile (codes "a") (file_options overwrite strip)

abbrev pub to_b : Action
to_b = ToFile (codes "b") (file_options false false)

-- all files after these actions
abbrev pub files_after : List (Action × List ℕ) → Option (List File)
files_after actions = (effects actions nothing_yet).outside.files

abbrev pub file_of : List ℕ → List ℕ → File
file_of path bytes = record { path = path; bytes = bytes }

abbrev pub to_sort : Bool → Action
to_sort close = ToProgram (codes "sort" ∷ codes "-r" ∷ []) (record { close = close; strip = false })

abbrev pub sort_given : List ℕ → Bool → Child
sort_given bytes over = record { words = codes "sort" ∷ codes "-r" ∷ []; piped = true; given = bytes; shut = over; waited = over }

abbrev pub program_of : List (List ℕ) → Action
program_of words = ToProgram words (record { close = false; strip = false })

-- after a byte was given to so many programs, the n-th of which has the name of that byte
abbrev pub fed_many : ℕ → World
fed_many zero = nothing_yet
fed_many (suc n) = acted (program_of ((n ∷ []) ∷ [])) (n ∷ []) (fed_many n)

-- whether each child was waited for
abbrev pub waits : Option (List Child) → ℕ → Option Bool
waits None child = None
waits (Some children) child = option_map (λ (it : Child). it.waited) (slice_get children child)

abbrev pub waited_in : World → ℕ → Option Bool
waited_in world child = waits world.outside.children child

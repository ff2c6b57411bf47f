-- The words of the program: which command they ask for.
use Rattle.std.specs.Prelude.{ℕ, ◌-◌, ◌^◌, ◌||◌, Bool, false, List, [], ◌∷◌, codes, bytes_eq, Option, Some, None, option_map, if◌then◌else◌}
use Rattle.ldm_answers.specs.Number.{number_up_to}
use Rattle.ldm_words.specs.Checking.{CheckForm, check_form}
use Rattle.ldm_words.specs.Forms.{ActForm, CatForm, ChainForm, InsertForm, MonForm, NodeForm, NoticesForm, SaveForm, StatsForm, WmoForm}
use Rattle.ldm_words.specs.Forms.{act_form, cat_form, chain_form, file_form, insert_form, mon_form, node_form, notices_form, save_form, stats_form, wmo_form}

-- What the words of the program ask for.
pub data Form : Type 0 where
  -- to play a script over a queue whose arena has so many bytes, and which has so many slots
  Play : (arena slots : ℕ) → Form
  -- to play a script over such a queue, each actor's lines on one of so many workers
  Crowd : (arena slots workers : ℕ) → Form
  -- to play so many orders that are drawn from a number, and sum the answers up
  Exercise : (number count : ℕ) → Form
  -- to feed a chain of queues from a script
  Chain : (chain : ChainForm) → Form
  -- to run a node
  Node : (node : NodeForm) → Form
  -- to act on the products of a node
  Pqact : (act : ActForm) → Form
  -- to put files into the queue of a node
  Pqinsert : (insert : InsertForm) → Form
  -- to write the bodies of the products of a node
  Pqcat : (cat : CatForm) → Form
  -- to write a line for each product of a node
  Notifyme : (notices : NoticesForm) → Form
  -- to write the figures of a node's queue, once or again and again
  Pqmon : (mon : MonForm) → Form
  -- to put the bulletins of a stream into the queue of a node
  Wmo : (wmo : WmoForm) → Form
  -- to write how much of the products of a node came in each hour
  Pqstats : (stats : StatsForm) → Form
  -- to play a script over a queue, and save the queue in a file
  Save : (save : SaveForm) → Form
  -- to open the queue in a file, play a script over it, and save it there
  Resume : (file : List ℕ) → Form
  -- to write the figures of the queue in a file
  Pqcheck : (file : List ℕ) → Form
  -- to write what is wrong with configuration files
  Check : (check : CheckForm) → Form

-- a play, where both numbers could be read
abbrev pub play_with : Option ℕ → Option ℕ → Option Form
play_with (Some arena) (Some slots) = Some (Play arena slots)
play_with _ _ = None

-- `ARENA SLOTS`, behind `play`: a number of eight bytes and one of four
abbrev pub play_of : List (List ℕ) → Option Form
play_of (arena ∷ slots ∷ []) = play_with (number_up_to (2 ^ 64 - 1) arena) (number_up_to (2 ^ 32 - 1) slots)
play_of _ = None

-- a crowd, where all three numbers could be read
abbrev pub crowd_with : Option ℕ → Option ℕ → Option ℕ → Option Form
crowd_with (Some arena) (Some slots) (Some workers) = Some (Crowd arena slots workers)
crowd_with _ _ _ = None

-- `ARENA SLOTS WORKERS`, behind `crowd`: a number of eight bytes and two of four
abbrev pub crowd_of : List (List ℕ) → Option Form
crowd_of (arena ∷ slots ∷ workers ∷ []) =
    crowd_with (number_up_to (2 ^ 64 - 1) arena) (number_up_to (2 ^ 32 - 1) slots) (number_up_to (2 ^ 32 - 1) workers)
crowd_of _ = None

-- an exercise, where both numbers could be read
abbrev pub exercise_with : Option ℕ → Option ℕ → Option Form
exercise_with (Some number) (Some count) = Some (Exercise number count)
exercise_with _ _ = None

-- `NUMBER COUNT`, behind `exercise`: a number of eight bytes and one up to a million
abbrev pub exercise_of : List (List ℕ) → Option Form
exercise_of (number ∷ count ∷ []) = exercise_with (number_up_to (2 ^ 64 - 1) number) (number_up_to 1000000 count)
exercise_of _ = None

-- The command of a first word that is about files, and not about a node, with the words behind it.
abbrev pub with_file : List ℕ → List (List ℕ) → Option Form
with_file first others =
    if bytes_eq first (codes "save") then option_map Save (save_form others)
    else if bytes_eq first (codes "resume") then option_map Resume (file_form others)
    else if bytes_eq first (codes "pqcheck") then option_map Pqcheck (file_form others)
    else if bytes_eq first (codes "check") then option_map Check (check_form others)
    else None

-- whether a first word is that of such a command
abbrev pub has_file : List ℕ → Bool
has_file first = bytes_eq first (codes "save") || (bytes_eq first (codes "resume") || (bytes_eq first (codes "pqcheck") || bytes_eq first (codes "check")))

-- The command of a first word whose words are read as options and words of a command line, with the words behind it.
abbrev pub with_options : List ℕ → List (List ℕ) → Option Form
with_options first others =
    if bytes_eq first (codes "node") then option_map Node (node_form others)
    else if bytes_eq first (codes "pqact") then option_map Pqact (act_form others)
    else if bytes_eq first (codes "pqinsert") then option_map Pqinsert (insert_form others)
    else if bytes_eq first (codes "pqcat") then option_map Pqcat (cat_form others)
    else if bytes_eq first (codes "notifyme") then option_map Notifyme (notices_form others)
    else if bytes_eq first (codes "pqmon") then option_map Pqmon (mon_form others)
    else if bytes_eq first (codes "wmo") then option_map Wmo (wmo_form others)
    else if bytes_eq first (codes "pqstats") then option_map Pqstats (stats_form others)
    else with_file first others

-- whether a first word is that of such a command
abbrev pub has_options : List ℕ → Bool
has_options first =
    bytes_eq first (codes "node") || (bytes_eq first (codes "pqact") || (bytes_eq first (codes "pqinsert") || (bytes_eq first (codes "pqcat")
    || (bytes_eq first (codes "notifyme") || (bytes_eq first (codes "pqmon") || (bytes_eq first (codes "wmo") || (bytes_eq first (codes "pqstats")
    || has_file first)))))))

-- whether reading words takes memory, by their first one: those of a chain and those of a command with options
abbrev pub take_memory : List (List ℕ) → Bool
take_memory [] = false
take_memory (first ∷ others) = bytes_eq first (codes "chain") || has_options first

-- The command that the words of the program are, its own name apart: the first word says which, in the case in
-- which it is spelled here, and the words behind it have the form that the command has.
abbrev pub command_of : List (List ℕ) → Option Form
command_of [] = None
command_of (first ∷ others) =
    if bytes_eq first (codes "play") then play_of others
    else if bytes_eq first (codes "crowd") then crowd_of others
    else if bytes_eq first (codes "exercise") then exercise_of others
    else if bytes_eq first (codes "chain") then option_map Chain (chain_form others)
    else with_options first others

-- The commands, as `clap` reads words by them: each by the rules of its options and words, and how their matches are found.
use Rattle.std.specs.Prelude.{◌≡◌, true, List, [], ◌∷◌, Option, Some, None, codes, if◌then◌else◌, slice_get}
use Rattle.std.specs.List.{list_all}
use Rattle.clap.specs.Words.{App, Row, Rule, Text, built, is_simple_and_free, matches_of, new_rule, takes}
use Rattle.clap.specs.Takes.{default_passes}
use Rattle.clap.specs.Simple.{new_shape}
use Rattle.clap.specs.declared.builder.action.ArgAction.TheVariants.{Set, Append, SetTrue}

-- an option of one letter that takes one value, at most once
abbrev pub option_rule : Text → Text → Rule
option_rule name letter = record (new_rule name) { short = slice_get letter 0; action = Some Set }

-- such an option, and its value where it is left out
abbrev pub option_or_rule : Text → Text → Text → Rule
option_or_rule name letter default = record (option_rule name letter) { defaults = default ∷ [] }

-- an option of one letter without a value, used at most once
abbrev pub flag_rule : Text → Text → Rule
flag_rule name letter = record (new_rule name) { short = slice_get letter 0; action = Some SetTrue }

-- a word that has to come
abbrev pub word_rule : Text → Rule
word_rule name = record (new_rule name) { required = true; action = Some Set }

-- words of which one has to come
abbrev pub words_rule : Text → Rule
words_rule name = record (new_rule name) { required = true; action = Some Append }

-- A command with these options and words alone: it has no flags for help and version, and reads the words behind its name.
abbrev pub command_of : Text → List Rule → App
command_of name rules = record {
  top = record (new_shape name) { rules = rules; no_binary_name = true; disable_help_flag = true; disable_version_flag = true };
  subs = [];
}

abbrev pub peer_rule : Rule
peer_rule = option_or_rule (codes "peer") (codes "q") (codes "127.0.0.1:388")

abbrev pub pattern_rule : Rule
pattern_rule = option_or_rule (codes "pattern") (codes "p") (codes ".*")

abbrev pub feed_rule : Text → Rule
feed_rule default = option_or_rule (codes "feed") (codes "f") default

abbrev pub count_rule : Rule
count_rule = option_rule (codes "count") (codes "c")

-- the sizes of a queue
abbrev pub arena_rule : Rule
arena_rule = option_or_rule (codes "arena") (codes "a") (codes "67108864")

abbrev pub slots_rule : Rule
slots_rule = option_or_rule (codes "slots") (codes "S") (codes "16384")

abbrev pub conf_rule : Rule
conf_rule = word_rule (codes "conf")

abbrev pub file_rule : Rule
file_rule = word_rule (codes "file")

abbrev pub origin_rule : Rule
origin_rule = option_or_rule (codes "origin") (codes "o") (codes "localhost")

-- `node [-a ARENA] [-S SLOTS] [-p PORT] [-w WORKERS] [-n SESSIONS] [-x IDLES] [-q FILE] [-e] CONF`
unfoldable pub node_command : App
node_command = command_of (codes "node")
    (arena_rule
    ∷ slots_rule
    ∷ option_or_rule (codes "port") (codes "p") (codes "388")
    ∷ option_or_rule (codes "workers") (codes "w") (codes "4")
    ∷ option_or_rule (codes "sessions") (codes "n") (codes "4294967295")
    ∷ option_rule (codes "idles") (codes "x")
    ∷ option_rule (codes "journal") (codes "q")
    ∷ flag_rule (codes "input") (codes "e")
    ∷ conf_rule ∷ [])

-- `pqact [-f FEED] [-p PATTERN] [-c COUNT] [-a ARENA] [-S SLOTS] [-s STATE] CONF HOST:PORT`
unfoldable pub pqact_command : App
pqact_command = command_of (codes "pqact")
    (feed_rule (codes "ANY")
    ∷ pattern_rule
    ∷ count_rule
    ∷ arena_rule
    ∷ slots_rule
    ∷ option_rule (codes "state") (codes "s")
    ∷ conf_rule ∷ word_rule (codes "peer") ∷ [])

-- `pqinsert [-f FEED] [-p IDENT] [-o ORIGIN] [-i] [-q HOST:PORT] FILE..`
unfoldable pub pqinsert_command : App
pqinsert_command = command_of (codes "pqinsert")
    (feed_rule (codes "EXP")
    ∷ option_rule (codes "ident") (codes "p")
    ∷ origin_rule
    ∷ flag_rule (codes "sign") (codes "i")
    ∷ peer_rule ∷ words_rule (codes "files") ∷ [])

-- `pqcat [-f FEED] [-p PATTERN] [-c COUNT] [-a ARENA] [-S SLOTS] [-q HOST:PORT]`
unfoldable pub pqcat_command : App
pqcat_command = command_of (codes "pqcat")
    (feed_rule (codes "ANY") ∷ pattern_rule ∷ count_rule ∷ arena_rule ∷ slots_rule ∷ peer_rule ∷ [])

-- `notifyme [-f FEED] [-p PATTERN] [-c COUNT] [-t] [-q HOST:PORT]`
unfoldable pub notifyme_command : App
notifyme_command = command_of (codes "notifyme")
    (feed_rule (codes "ANY") ∷ pattern_rule ∷ count_rule ∷ flag_rule (codes "text") (codes "t") ∷ peer_rule ∷ [])

-- `pqmon [-i SECONDS] [-q HOST:PORT]`
unfoldable pub pqmon_command : App
pqmon_command = command_of (codes "pqmon") (option_rule (codes "every") (codes "i") ∷ peer_rule ∷ [])

-- `save FILE ARENA SLOTS`
unfoldable pub save_command : App
save_command = command_of (codes "save") (file_rule ∷ word_rule (codes "arena") ∷ word_rule (codes "slots") ∷ [])

-- `FILE`, behind `resume` and `pqcheck`
unfoldable pub file_command : App
file_command = command_of (codes "file") (file_rule ∷ [])

-- `wmo [-f FEED] [-o ORIGIN] [-s] [-q HOST:PORT]`
unfoldable pub wmo_command : App
wmo_command = command_of (codes "wmo") (feed_rule (codes "IDS") ∷ origin_rule ∷ flag_rule (codes "socket") (codes "s") ∷ peer_rule ∷ [])

-- `pqstats [-f FEED] [-p PATTERN] [-c COUNT] [-w HOURS] [-s] [-q HOST:PORT]`
unfoldable pub pqstats_command : App
pqstats_command = command_of (codes "pqstats")
    (feed_rule (codes "ANY")
    ∷ pattern_rule
    ∷ count_rule
    ∷ option_or_rule (codes "hours") (codes "w") (codes "24")
    ∷ flag_rule (codes "send") (codes "s")
    ∷ peer_rule ∷ [])

-- the matches that a command has of words, where it takes them
unfoldable pub matched : App → List Text → Option (List Row)
matched command words = if takes command words then Some (matches_of command words) else None

-- A command of which `clap` says when it takes words: it is simple and has no subcommands, and no argument has a rule on another
-- or a value by default that does not pass.
pub record IsPlain (command : App) : Type 0 where
  pub simple : is_simple_and_free command ≡ true
  pub alone : (built command).subs ≡ []
  pub defaults : list_all default_passes (built command).top.rules ≡ true

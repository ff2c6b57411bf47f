-- The entries of a text, or its first fault.
use Rattle.std.specs.Prelude.{ℕ, Bool, ◌||◌, is_some, if◌then◌else◌, List, [], ◌∷◌, ◌++◌, length, take, drop, codes, bytes_eq, Option, Some, None, Result, Ok, Err}
use Rattle.std.specs.List.{list_all, prefix_len}
use Rattle.std.specs.Option.{ok_or}
use Rattle.ldm_text.specs.Lines.{lines_of}
use Rattle.ldm_feedtype.specs.Reading.{feed_number}
use Rattle.ldm_pattern.specs.Patterns.{pattern_meaning}
use Rattle.ldm_pqact_conf.specs.declared.action.ActionKind.{ActionKind}
use Rattle.ldm_pqact_conf.specs.declared.options.Options.{Options}
use Rattle.ldm_pqact_conf.specs.declared.fault.PqactFault.{PqactFault}
use Rattle.ldm_pqact_conf.specs.declared.fault.PqactKind.{PqactKind}
use Rattle.ldm_pqact_conf.specs.declared.fault.PqactKind.TheVariants as kind
use Rattle.ldm_pqact_conf.specs.Lines.{Raw, raw_entries, stray}
use Rattle.ldm_pqact_conf.specs.Fields.{Fields, fields_of}
use Rattle.ldm_pqact_conf.specs.Arguments.{arguments_of}
use Rattle.ldm_pqact_conf.specs.Actions.{action_of, is_dashed, is_option, options_in, takes}

-- an entry that was read
pub record EntryView : Type 0 where
  -- its first line
  pub line : ℕ
  -- a set of feedtypes, as a number whose bits are the members
  pub feed : ℕ
  -- the pattern, or None in an `_ELSE_` entry
  pub pattern : Option (List ℕ)
  pub action : ActionKind
  pub options : Options
  -- the words behind the options
  pub words : List (List ℕ)

infixl 10 ◌>>=◌
abbrev pub ◌>>=◌ : {A B : Type 0} → Result A PqactKind → (A → Result B PqactKind) → Result B PqactKind
(Ok x) >>= more = more x
(Err fault) >>= more = Err fault

abbrev pub is_else : List ℕ → Bool
is_else pattern = bytes_eq pattern (codes "_ELSE_") || bytes_eq pattern (codes "^_ELSE_$")

-- the pattern of an entry, which is none in an `_ELSE_` entry, if it means something
unfoldable pub pattern_of : List ℕ → Result (Option (List ℕ)) PqactKind
pattern_of pattern =
    if is_else pattern then Ok None
    else if is_some (pattern_meaning pattern) then Ok (Some pattern)
    else Err kind.Pattern

-- how many options stand at the front of the words of an action
abbrev pub dashes : List (List ℕ) → ℕ
dashes words = prefix_len is_dashed words

-- the options at the front of the words of an action, if it has them all
abbrev pub options_of : ActionKind → List (List ℕ) → Result Options PqactKind
options_of action words =
    let front = take (dashes words) words in
    if list_all (is_option action) front then Ok (options_in front) else Err kind.Option

-- the words behind the options, if they are as many as the action takes
abbrev pub words_behind : ActionKind → List (List ℕ) → Result (List (List ℕ)) PqactKind
words_behind action words =
    let behind = drop (dashes words) words in
    if takes action (length behind) then Ok behind else Err kind.Fields

-- an entry of these fields and words, which begins in that line
unfoldable pub with_fields : ℕ → Fields → List (List ℕ) → Result EntryView PqactKind
with_fields line fields words =
    ok_or (feed_number fields.feedtype) kind.Feed >>= λ feed.
    pattern_of fields.pattern >>= λ pattern.
    ok_or (action_of fields.action) kind.Action >>= λ action.
    options_of action words >>= λ options.
    words_behind action words >>= λ behind.
    Ok (record { line = line; feed = feed; pattern = pattern; action = action; options = options; words = behind })

-- what the lines of an entry mean, or what is wrong with it
unfoldable pub entry_of : Raw → Result EntryView PqactKind
entry_of raw =
    ok_or (fields_of raw.text) kind.Fields >>= λ fields.
    ok_or (arguments_of fields.arguments) kind.Fields >>= λ words.
    with_fields raw.line fields words

-- entries in front of others, if these read
abbrev pub in_front : List EntryView → Result (List EntryView) PqactFault → Result (List EntryView) PqactFault
in_front entries (Ok others) = Ok (entries ++ others)
in_front entries (Err fault) = Err fault

-- an entry that begins in that line, in front of others
abbrev pub first_of : ℕ → Result EntryView PqactKind → Result (List EntryView) PqactFault → Result (List EntryView) PqactFault
first_of line (Ok entry) others = in_front (entry ∷ []) others
first_of line (Err fault) others = Err (record { line = line; kind = fault })

-- the entries, or the fault of the first that is wrong
abbrev pub entries_of : List Raw → Result (List EntryView) PqactFault
entries_of [] = Ok []
entries_of (raw ∷ raws) = first_of raw.line (entry_of raw) (entries_of raws)

abbrev pub unless_stray : Option ℕ → Result (List EntryView) PqactFault → Result (List EntryView) PqactFault
unless_stray None entries = entries
unless_stray (Some line) entries = Err (record { line = line; kind = kind.Fields })

-- the entries of lines, the first of which has that number
abbrev pub entries_from : ℕ → List (List ℕ) → Result (List EntryView) PqactFault
entries_from n lines = unless_stray (stray n lines) (entries_of (raw_entries n lines))

-- the entries of a text, or its first fault
unfoldable pub pqact_entries : List ℕ → Result (List EntryView) PqactFault
pqact_entries text = entries_from 1 (lines_of text)

-- The words of `check`.
use Rattle.std.specs.Prelude.{◌==◌, ◌&&◌, if◌then◌else◌, List, [], ◌∷◌, length, Option, Some, None, codes, slice_get}
use Rattle.clap.specs.Words.{App, Row, Rule, Text, all_of, new_rule}
use Rattle.clap.specs.declared.builder.action.ArgAction.TheVariants.{Append}
use Rattle.ldm_words.specs.Commands.{command_of, matched}
use Rattle.ldm_words.specs.Values.{◌>>=◌, texts_of}
use Rattle.ldm_words.specs.declared.check.CheckWords.{CheckWords}

-- an option of one letter that takes one value, used as often as wanted
abbrev pub options_rule : Text → Text → Rule
options_rule name letter = record (new_rule name) { short = slice_get letter 0; action = Some Append }

-- words of which none has to come
abbrev pub some_words_rule : Text → Rule
some_words_rule name = record (new_rule name) { action = Some Append }

-- `check [-p PQACTCONF].. [CONF]..`
unfoldable pub check_command : App
check_command = command_of (codes "check") (options_rule (codes "pqacts") (codes "p") ∷ some_words_rule (codes "confs") ∷ [])

-- The files to look at.
pub record CheckForm : Type 0 where
  -- the paths of those that are each an ldmd.conf
  pub confs : List Text
  -- and of those that are each a pqact.conf
  pub pqacts : List Text

-- the values of an option or of words, of which none has to come
abbrev pub given : Option (List Text) → List Text
given None = []
given (Some texts) = texts

-- at least one file is named
abbrev pub some_file : List Text → List Text → Option CheckForm
some_file confs pqacts =
    if (length confs == 0) && (length pqacts == 0) then None else Some (record { confs = confs; pqacts = pqacts })

abbrev pub check_of : List Row → Option CheckForm
check_of rows = some_file (given (all_of (codes "confs") rows)) (given (all_of (codes "pqacts") rows))

abbrev pub check_form : List Text → Option CheckForm
check_form words = matched check_command words >>= check_of

abbrev pub check_view : CheckWords → CheckForm
check_view words = record { confs = texts_of words.confs.items; pqacts = texts_of words.pqacts.items }

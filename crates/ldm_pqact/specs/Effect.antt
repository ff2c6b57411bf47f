-- What an action does that pqact.conf chose.
use Rattle.std.specs.Prelude.{ℕ, List, [], ◌∷◌}
use Rattle.ldm_pqact_conf.specs.declared.action.ActionKind.{ActionKind}
use Rattle.ldm_pqact_conf.specs.declared.action.ActionKind.TheVariants.{File, StdioFile, Pipe, Exec, Noop}
use Rattle.ldm_pqact_conf.specs.declared.options.Options.{Options}
use Rattle.ldm_pqact_match.specs.ActionView.{ActionView}
use Rattle.ldm_actions.specs.declared.options.FileOptions.{FileOptions}
use Rattle.ldm_actions.specs.declared.options.PipeOptions.{PipeOptions}
use Rattle.ldm_actions.specs.Effects.{Action, ToFile, ToProgram, Start, Nothing}

abbrev pub file_options : Options → FileOptions
file_options options = record { overwrite = options.overwrite; close = options.close; flush = options.flush; strip = options.strip }

-- a program's input is never held back, so there is nothing to flush
abbrev pub pipe_options : Options → PipeOptions
pipe_options options = record { close = options.close; strip = options.strip }

abbrev pub first_word : List (List ℕ) → List ℕ
first_word [] = []
first_word (word ∷ words) = word

abbrev pub effect_by : ActionKind → Options → List (List ℕ) → Action
-- the body goes to the end of the file of that path
effect_by File options words = ToFile (first_word words) (file_options options)
effect_by StdioFile options words = ToFile (first_word words) (file_options options)
-- the body goes to the program that runs under these words
effect_by Pipe options words = ToProgram words (pipe_options options)
-- a program is started
effect_by Exec options words = Start words options.wait
effect_by Noop options words = Nothing

-- what a chosen action does
abbrev pub effect_of : ActionView → Action
effect_of action = effect_by action.kind action.options action.words

-- What contracts see of an `Action`.
use Rattle.std.specs.Prelude.{◌≡◌, ℕ, true, List, length, map, string_bytes}
use Rattle.ldm_pqact_conf.specs.declared.action.ActionKind.{ActionKind}
use Rattle.ldm_pqact_conf.specs.declared.options.Options.{Options}
use Rattle.ldm_pqact_conf.specs.Actions.{takes}
use Rattle.ldm_pqact_match.specs.declared.action.Action.TheInside.{Inside}

pub record ActionView : Type 0 where
  pub kind : ActionKind
  pub options : Options
  -- each is UTF-8
  pub words : List (List ℕ)

abbrev pub action_view : Inside → ActionView
action_view action = record { kind = action.kind; options = action.options; words = map string_bytes action.words.items }

-- an action has as many words as its kind takes
abbrev pub TakesItsWords : Inside → Type 0
TakesItsWords action = takes action.kind (length action.words.items) ≡ true

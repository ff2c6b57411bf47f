-- The passes of a queue, by the last of which a journal was put back.
use Rattle.std.specs.Prelude.{◌≡◌, ◌-◌, List, [], ◌∷◌, ◌++◌, map, Option}
use Rattle.std.specs.List.{range_with_len}
use Rattle.ldm_types.specs.declared.signature.Signature.{Signature}
use Rattle.ldm_shared.specs.Passes.{IsPassOf, IsSamePass, PassView, SharedView, new_pass}
use Rattle.ldm_conf.specs.Confs.{ConfView}
use Rattle.ldm_node.specs.Clerks.{ClerkRecord}
use Rattle.ldm_node_command.specs.Restoring.{Restored}
use Rattle.ldm_node_command.specs.Setup.{Setup}

module _ (setup : Setup) (conf : ConfView) where
  -- The passes are new but for the last, by which what the journal kept was put back.
  pub record IsPutBack (shared : SharedView) (passes : List PassView) (clerk : Option ClerkRecord) (lasts : List (Option Signature)) : Type 0 where
    pub pass : PassView
    pub are : passes ≡ map (new_pass shared) (range_with_len 0 (shared.passes - 1)) ++ pass ∷ []
    pub of : IsPassOf shared pass
    pub same : IsSamePass (new_pass shared (shared.passes - 1)) pass
    pub restored : Restored setup conf (new_pass shared (shared.passes - 1)) pass clerk lasts

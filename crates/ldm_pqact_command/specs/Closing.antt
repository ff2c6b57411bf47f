-- What closing the outputs did, and writing the last state behind that.
use Rattle.ldm_actions.specs.declared.answers.Done.{Done}
use Rattle.ldm_actions.specs.Outputs.{Closes, OutputsView, Standing, no_outputs, standing}
use Rattle.ldm_outside.specs.Launcher.{LauncherRecord}
use Rattle.ldm_outside.specs.Store.{StoreRecord}
use Rattle.ldm_gather.specs.declared.end.GatherEnd.{GatherEnd}
use Rattle.ldm_pqact_command.specs.ActerView.{ActerView}
use Rattle.ldm_pqact_command.specs.State.{KeepsLast, state_deeds}

-- The outputs were closed, and the store and the launcher tell this then.
pub record ClosesOutputs (answer : Done) (old : Standing) (store : StoreRecord) (launcher : LauncherRecord) : Type 0 where
  pub left : OutputsView
  pub closes : Closes answer old (standing left store launcher)

-- The outputs were closed; and where acting on products stopped, the state of the last product is written then, if one is kept.
pub record ClosesAll (gathered : GatherEnd) (acter : ActerView) (old : Standing) (store : StoreRecord) (launcher : LauncherRecord) : Type 0 where
  -- what the closing answered, and what the store and the launcher told then
  pub answer : Done
  pub shut_store : StoreRecord
  pub shut_launcher : LauncherRecord
  pub closes : ClosesOutputs answer old shut_store shut_launcher
  pub keeps : KeepsLast gathered (state_deeds acter.state acter.last) (standing no_outputs shut_store shut_launcher) store launcher

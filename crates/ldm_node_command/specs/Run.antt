-- How the command `node` ends.
use Rattle.std.specs.Prelude.{ℕ, Result}
use Rattle.ldm_outside.specs.Station.{StationRecord}
use Rattle.ldm_node_command.specs.declared.ending.NodeFault.{NodeFault}
use Rattle.ldm_node_command.specs.declared.ending.Ran.{Ran}
use Rattle.ldm_node_command.specs.Ending.{NodeEnds}
use Rattle.ldm_node_command.specs.Outside.{Outside}
use Rattle.ldm_node_command.specs.Setup.{Setup}
use Rattle.ldm_node_command.specs.Statuses.{Tells, status_of_node}

module _ {S : Type 0} (tells : S → StationRecord) where
  -- A node with that setup was run as far as it came, and the number and the log tell how it ended.
  abbrev pub NodeRuns : Setup → ℕ → Outside S → Outside S → Type 0
  NodeRuns setup code old new =
      (ending : Result Ran NodeFault) × NodeEnds tells ending setup old new × Tells (status_of_node ending) code old.log new.log

-- How the command `crowd` ends.
use Rattle.std.specs.Prelude.{ℕ, Result}
use Rattle.ldm_status.specs.Streams.{StreamsRecord}
use Rattle.ldm_status.specs.Status.{Reports}
use Rattle.ldm_crowd.specs.declared.crowd_command.CrowdFault.{CrowdFault}
use Rattle.ldm_crowd.specs.CrowdEnding.{CrowdSize, CrowdEnds}
use Rattle.ldm_crowd.specs.Statuses.{status_of_crowd}

-- A script was played by a crowd of that size, as far as it went, and the number and the log tell how it ended.
abbrev pub CrowdRuns : CrowdSize → ℕ → StreamsRecord → StreamsRecord → Type 0
CrowdRuns size code old new =
    (ending : Result (Unit {0}) CrowdFault) × CrowdEnds ending size old new × Reports (status_of_crowd ending) code old.log new.log

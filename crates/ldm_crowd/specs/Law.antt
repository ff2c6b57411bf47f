-- The law of the queue, of what a crowd writes.
use Rattle.std.specs.Prelude.{◌⊎◌, ℕ, List}
use Rattle.ldm_outside.specs.Count.{Rose}
use Rattle.ldm_outside.specs.Io.{Takes, WritesFront}
use Rattle.ldm_status.specs.Status.{Reports}
use Rattle.ldm_status.specs.Streams.{StreamsRecord}
use Rattle.ldm_crowd.specs.declared.crowd_command.CrowdFault.{CrowdFault}
use Rattle.ldm_crowd.specs.declared.crowd_command.CrowdFault.TheVariants as stop
use Rattle.ldm_crowd.specs.CrowdEnding.{CrowdSize, CrowdStops, PlaysWhole}
use Rattle.ldm_crowd.specs.Statuses.{status_of_crowd_stop}

-- The answers of a crowd are written: all of them, or a front where the sink failed. They are those of one history of all calls,
-- which obeys the law of the queue.
pub record CrowdWritesLawful (size : CrowdSize) (old new : StreamsRecord) : Type 0 where
  pub answers : List ℕ
  pub plays : PlaysWhole size answers old.source new.source
  pub front : WritesFront old.sink answers new.sink
  pub whole : ¬ (Rose old.sink.faults new.sink.faults) → Takes old.sink answers new.sink

-- Why no crowd has played a script to its end. What was read then is said, and that nothing was written.
abbrev pub IsNotPlayed : CrowdFault → CrowdSize → StreamsRecord → StreamsRecord → Type 0
-- no queue was made
IsNotPlayed (stop.NotMade fault) size old new = CrowdStops (stop.NotMade fault) size old new
-- the script was not taken whole
IsNotPlayed (stop.ScriptFault why) size old new = CrowdStops (stop.ScriptFault why) size old new
-- a line is outside the grammar, or there is no memory
IsNotPlayed (stop.PlayFault why) size old new = CrowdStops (stop.PlayFault why) size old new
-- where the sink failed a crowd had played it
IsNotPlayed stop.SinkFault size old new = ⊥

-- No crowd has played a script to its end, and the number and the log tell why: no number that a crowd ends with which has.
pub record CrowdWritesNothing (size : CrowdSize) (code : ℕ) (old new : StreamsRecord) : Type 0 where
  pub why : CrowdFault
  pub cause : IsNotPlayed why size old new
  pub told : Reports (status_of_crowd_stop why) code old.log new.log

-- What a crowd writes obeys the law, and where nothing is owed there is a cause that is told.
abbrev pub ObeysCrowdLaw : CrowdSize → ℕ → StreamsRecord → StreamsRecord → Type 0
ObeysCrowdLaw size code old new = CrowdWritesNothing size code old new ⊎ CrowdWritesLawful size old new

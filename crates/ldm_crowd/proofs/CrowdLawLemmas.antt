-- What a crowd writes obeys the law of the queue: for `ObeysCrowdLaw`.
use Rattle.std.proofs.Common.{ℕ, [], Result, Ok, Err, inl, inr}
use Rattle.std.proofs.lemmas.List.{append-nil}
use Rattle.ldm_status.specs.Status.{Reports}
use Rattle.ldm_status.specs.Streams.{StreamsRecord}
use Rattle.ldm_crowd.specs.declared.crowd_command.CrowdFault.{CrowdFault}
use Rattle.ldm_crowd.specs.declared.crowd_command.CrowdFault.TheVariants as stop
use Rattle.ldm_crowd.specs.CrowdEnding.{CrowdSize, CrowdStops, CrowdEnds}
use Rattle.ldm_crowd.specs.Law.{ObeysCrowdLaw}
use Rattle.ldm_crowd.specs.Statuses.{status_of_crowd, status_of_crowd_stop}

module _ (size : CrowdSize) (code : ℕ) (old new : StreamsRecord) where
  stops : (why : CrowdFault) → CrowdStops why size old new → Reports (status_of_crowd_stop why) code old.log new.log → ObeysCrowdLaw size code old new
  stops (stop.NotMade fault) stopped told = inl (record { why = stop.NotMade fault; cause = stopped; told = told })
  stops (stop.ScriptFault why) stopped told = inl (record { why = stop.ScriptFault why; cause = stopped; told = told })
  stops (stop.PlayFault why) stopped told = inl (record { why = stop.PlayFault why; cause = stopped; told = told })
  stops stop.SinkFault (answers, plays, rose, front) told = inr (record { answers = answers; plays = plays; front = front; whole = λ works. absurd (works rose) })

  pub crowd_obeys : (ending : Result (Unit {0}) CrowdFault) → CrowdEnds ending size old new → Reports (status_of_crowd ending) code old.log new.log
      → ObeysCrowdLaw size code old new
  crowd_obeys (Ok done) (answers, plays, takes) told =
      inr (record { answers = answers; plays = plays; front = (answers, [], append-nil answers, takes); whole = λ works. takes })
  crowd_obeys (Err why) stopped told = stops why stopped told

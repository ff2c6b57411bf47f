-- The whole course of a recorder, up to its end.
use Rattle.std.specs.Prelude.{◌≡◌, ℕ, List, [], ◌∷◌, ◌++◌, Option, Result, Ok, Err}
use Rattle.std.specs.List.{flat_map}
use Rattle.ldm_outside.specs.declared.gate.Go.{Go}
use Rattle.ldm_outside.specs.declared.gate.Go.TheVariants as go
use Rattle.ldm_outside.specs.Gate.{GateRecord}
use Rattle.ldm_outside.specs.Io.{SinkRecord}
use Rattle.ldm_session.specs.Exchange.{IdledAll}
use Rattle.ldm_recorder.specs.declared.end.RecordEnd.{RecordEnd}
use Rattle.ldm_recorder.specs.declared.end.RecordEnd.TheVariants as end
use Rattle.ldm_recorder.specs.Turns.{Turn, CaughtUp, Who}
use Rattle.ldm_recorder.specs.Recording.{Does, Sight, Stops}
use Rattle.ldm_recorder.specs.Failing.{TellsFault}

-- what is seen of a recorder, with what its gate tells
pub record Gated : Type 0 where
  pub sight : Sight
  pub gate : GateRecord

abbrev pub gated_of : Sight → GateRecord → Gated
gated_of sight gate = record { sight = sight; gate = gate }

-- The gate is asked where nothing was left and all that was given is committed, and nowhere else.
abbrev pub asks : Turn → List Go
asks (CaughtUp at lasts) = go.On ∷ []
asks _ = []

-- The gate said to stop behind the last turn, at which the queue had admitted so many.
pub record StopsWell (at : ℕ) (who : Who) (old new : Gated) : Type 0 where
  pub earlier : List Turn
  pub lasts : Option (List ℕ)
  pub does : Does who (earlier ++ CaughtUp at lasts ∷ []) old.sight new.sight
  pub idled : IdledAll (flat_map asks earlier ++ go.Stop ∷ []) old.gate new.gate

-- The turns up to a moment are whole, and then one broke off. Behind it the log was told where the journal failed.
pub record BreaksOffThen (why : RecordEnd) (who : Who) (old new : Gated) : Type 0 where
  pub whole : List Turn
  pub mid : Sight
  pub does : Does who whole old.sight mid
  pub log : SinkRecord
  pub stops : Stops why who mid (record new.sight { log = log })
  pub told : TellsFault why log new.sight.log
  pub idled : IdledAll (flat_map asks whole) old.gate new.gate

abbrev pub RecordsBy : RecordEnd → Who → Gated → Gated → Type 0
RecordsBy (end.Stopped at) who old new = StopsWell at who old new
RecordsBy why who old new = BreaksOffThen why who old new

-- what holds where the gate said to stop
abbrev pub IfStopped : RecordEnd → (ℕ → Type 0) → Type 0
IfStopped (end.Stopped at) P = P at
IfStopped _ P = Unit {0}

-- What was given is committed where the last commit was long ago.
abbrev pub SavesLate : Result (Unit {0}) RecordEnd → Who → Sight → Sight → Type 0
SavesLate (Ok done) who old new = (turns : List Turn) × (flat_map asks turns ≡ []) × Does who turns old new
SavesLate (Err why) who old new = Stops why who old new

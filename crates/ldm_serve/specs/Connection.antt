-- A connection up to a moment, before it becomes a feeding, a notifying or a receiving.
use Rattle.std.specs.Prelude.{◌≡◌, ℕ, Bool, List, ◌++◌, map}
use Rattle.ldm_model.specs.declared.event.Entry.{Entry}
use Rattle.ldm_outside.specs.Session.{SessionRecord}
use Rattle.ldm_relay.specs.Sent.{Sent}
use Rattle.ldm_rpc.specs.Streams.{Placed, records_in}
use Rattle.ldm_shared.specs.Passes.{PassView, Calls}
use Rattle.ldm_session.specs.Exchange.{Exchanged, AnsweredAll}
use Rattle.ldm_session.specs.Part.{IsPart}
use Rattle.ldm_relay.specs.Spelling.{records_of}
use Rattle.ldm_serve.specs.Client.{Client}
use Rattle.ldm_serve.specs.InTurn.{InTurn}
use Rattle.ldm_serve.specs.Steps.{Step, AreSteps, entries_of, instants_of, messages_of}
use Rattle.ldm_serve.specs.Outlived.{Outlived, AreOutlived, instants_for_all, messages_for_all, step_of}
use Rattle.ldm_serve.specs.ServingView.{beginning}

-- What a connection finds or leaves: its pass, and what its outside tells.
pub record ServingMoment : Type 0 where
  pub pass : PassView
  pub outside : SessionRecord

abbrev pub moment_of : PassView → SessionRecord → ServingMoment
moment_of pass outside = record { pass = pass; outside = outside }

-- The records that were answered: those that the session outlived, and behind them the last one, where it is known that the session does not
-- outlive it.
pub record Answers : Type 0 where
  pub outlived : List Outlived
  pub last : List Step

-- all their steps, in order
abbrev pub steps_in : Answers → List Step
steps_in answers = map step_of answers.outlived ++ answers.last

-- the records of the stream
abbrev pub placed_in : Answers → List Placed
placed_in answers = map (λ (step : Step). step.placed) (steps_in answers)

-- the calls of the queue
abbrev pub entries_in : Answers → List Entry
entries_in answers = entries_of (steps_in answers)

-- the messages that the peer is owed
abbrev pub messages_in : Client → Answers → List Sent
messages_in client answers = messages_for_all client answers.outlived ++ messages_of answers.last

-- what the clock said
abbrev pub instants_in : Client → Answers → List ℕ
instants_in client answers = instants_for_all client answers.outlived ++ instants_of client answers.last

-- A connection came to here. The link gave these bytes, and `ahead` behind them, which nobody looked at. The answers are those to the records
-- that the bytes complete: to all of them, or, where something broke off, to the first ones. Just their calls were made, the clock was asked
-- just for them, and what the peer is owed for them was sent: all of it, or a front; in turn, so that no more came before what was owed by then
-- was sent. Nothing was logged, and the gate was not asked.
pub record Reaches (all whole : Bool) (client : Client) (answers : Answers) (taken ahead : List ℕ) (old now : ServingMoment) : Type 0 where
  pub by : old.pass.actor ≡ client.actor
  pub outlived : AreOutlived client answers.outlived
  pub last : AreSteps client answers.last
  pub records : IsPart all (placed_in answers) (records_in beginning taken)
  pub calls : Calls old.pass now.pass (entries_in answers)
  pub sent : List ℕ
  pub sent_part : IsPart whole sent (records_of (messages_in client answers))
  pub exchanged : Exchanged old.outside.link sent (taken ++ ahead) now.outside.link
  pub clock : AnsweredAll (instants_in client answers) old.outside.clock now.outside.clock
  pub log : now.outside.log.written ≡ old.outside.log.written
  pub gate : now.outside.gate ≡ old.outside.gate
  pub in_turn : InTurn client answers.outlived (record { given = taken ++ ahead; sent = sent }) old.outside.link now.outside.link

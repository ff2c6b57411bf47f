-- Records that a server answered, one behind the other.
use Rattle.std.specs.Prelude.{◌≡◌, ℕ, Bool, true, false, List, [], ◌∷◌, ◌++◌, map}
use Rattle.std.specs.List.{flat_map, list_all}
use Rattle.ldm_rpc.specs.Streams.{Placed}
use Rattle.ldm_model.specs.declared.event.Entry.{Entry}
use Rattle.ldm_relay.specs.Sent.{Sent}
use Rattle.ldm_shared.specs.Passes.{Calls}
use Rattle.ldm_session.specs.Exchange.{AnsweredAll}
use Rattle.ldm_intake.specs.Course.{Leads}
use Rattle.ldm_relay.specs.Spelling.{records_of}
use Rattle.ldm_serve.specs.declared.responded.Responded.{Responded}
use Rattle.ldm_serve.specs.declared.responded.Responded.TheVariants as responded
use Rattle.ldm_serve.specs.Answering.{answering}
use Rattle.ldm_serve.specs.Client.{Client}
use Rattle.ldm_serve.specs.Respond.{respond}
use Rattle.ldm_serve.specs.Response.{Response, Puts}
use Rattle.ldm_serve.specs.Responds.{Standing, goes_on}

-- A record that was answered.
pub record Step : Type 0 where
  -- where in the stream it begins, and its content
  pub placed : Placed
  -- what the clock said, where it was asked
  pub now : ℕ
  -- the calls of the queue, each with its reply
  pub made : List Entry
  -- the messages that the peer is owed
  pub messages : List Sent

abbrev pub response_of : Client → Step → Response
response_of client step = respond client step.placed.content

-- the calls are just those that the record asks for, and the messages those that it then comes to
abbrev pub IsStep : Client → Step → Type 0
IsStep client step = Leads client.actor (answering (response_of client step) step.now) step.made step.messages

abbrev pub AreSteps : Client → List Step → Type 0
AreSteps client [] = Unit {0}
AreSteps client (step ∷ steps) = IsStep client step × AreSteps client steps

-- whether the next record is read
abbrev pub is_on : Responded → Bool
is_on responded.GoesOn = true
is_on (responded.Feeds ask) = false
is_on (responded.Receives class) = false
is_on (responded.Notifies ask) = false
is_on responded.Refused = false
is_on (responded.Denied rule) = false

-- whether the session outlives a record
abbrev pub is_outlived : Client → Step → Bool
is_outlived client step = is_on (goes_on (response_of client step))

-- the clock is asked for each product that is inserted
abbrev pub asked_for : Response → ℕ → List ℕ
asked_for (Puts xid info body) now = now ∷ []
asked_for _ now = []

abbrev pub instants_of : Client → List Step → List ℕ
instants_of client steps = flat_map (λ (step : Step). asked_for (response_of client step) step.now) steps

abbrev pub placed_of : List Step → List Placed
placed_of steps = map (λ (step : Step). step.placed) steps

abbrev pub entries_of : List Step → List Entry
entries_of steps = flat_map (λ (step : Step). step.made) steps

abbrev pub messages_of : List Step → List Sent
messages_of steps = flat_map (λ (step : Step). step.messages) steps

-- These steps were done, in order, and what the peer is owed stands behind what was owed before.
pub record Does (client : Client) (steps : List Step) (old new : Standing) : Type 0 where
  pub by : old.pass.actor ≡ client.actor
  pub are : AreSteps client steps
  pub calls : Calls old.pass new.pass (entries_of steps)
  pub clock : AnsweredAll (instants_of client steps) old.clock new.clock
  pub sends : new.out ≡ old.out ++ records_of (messages_of steps)

-- the session outlives each of them
abbrev pub AllOutlived : Client → List Step → Type 0
AllOutlived client steps = list_all (is_outlived client) steps ≡ true

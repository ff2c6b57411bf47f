-- The records of a connection that its session outlives, one behind the other.
use Rattle.std.specs.Prelude.{◌≡◌, ℕ, true, false, List, [], ◌∷◌, ◌++◌}
use Rattle.std.specs.List.{flat_map}
use Rattle.ldm_types.specs.declared.class.ClassSpec.{ClassSpec}
use Rattle.ldm_class.specs.Access.{reduce}
use Rattle.ldm_class.specs.Rules.{rules_for}
use Rattle.ldm_class.specs.declared.answers.Reduced.TheVariants.{Fewer}
use Rattle.ldm_relay.specs.Sent.{Sent}
use Rattle.ldm_relay.specs.Sent as sent
use Rattle.ldm_relay.specs.declared.message.ClassAnswer.TheVariants as class_answer
use Rattle.ldm_serve.specs.Response.{Response, Feeds, Notifies}
use Rattle.ldm_serve.specs.Client.{Client}
use Rattle.ldm_serve.specs.Steps.{Step, IsStep, asked_for, is_outlived, response_of}

-- A record that the session outlived.
pub data Outlived : Type 0 where
  -- it was answered, as its response says
  Answered : (step : Step) → Outlived
  -- It is a request for a class of which that part is left to the host. The peer was told so, and then the clock said that.
  Narrowed : (step : Step) (fewer : ClassSpec) (at : ℕ) → Outlived

abbrev pub step_of : Outlived → Step
step_of (Answered step) = step
step_of (Narrowed step fewer at) = step

-- a request for a class of which the ALLOW rules leave that part
abbrev pub IsNarrowedTo : Client → Response → ClassSpec → Type 0
IsNarrowedTo client (Feeds xid class max_hereis) fewer = reduce (rules_for false client.rules) client.host class ≡ Fewer fewer
IsNarrowedTo client (Notifies xid class) fewer = reduce (rules_for false client.rules) client.host class ≡ Fewer fewer
IsNarrowedTo client _ fewer = ⊥

-- what the peer is told then
abbrev pub narrower : Response → ClassSpec → List Sent
narrower (Feeds xid class max_hereis) fewer = sent.FeedmeReply xid (class_answer.Reclass fewer) ∷ []
narrower (Notifies xid class) fewer = sent.NotifymeReply xid (class_answer.Reclass fewer) ∷ []
narrower _ fewer = []

abbrev pub IsOutlived : Client → Outlived → Type 0
IsOutlived client (Answered step) = IsStep client step × (is_outlived client step ≡ true)
IsOutlived client (Narrowed step fewer at) = IsStep client step × IsNarrowedTo client (response_of client step) fewer

abbrev pub AreOutlived : Client → List Outlived → Type 0
AreOutlived client [] = Unit {0}
AreOutlived client (first ∷ others) = IsOutlived client first × AreOutlived client others

-- the messages that the peer is owed for it
abbrev pub messages_for : Client → Outlived → List Sent
messages_for client (Answered step) = step.messages
messages_for client (Narrowed step fewer at) = step.messages ++ narrower (response_of client step) fewer

-- what the clock is asked for it: for each product that is inserted, and once after a narrower class was told
abbrev pub instants_for : Client → Outlived → List ℕ
instants_for client (Answered step) = asked_for (response_of client step) step.now
instants_for client (Narrowed step fewer at) = asked_for (response_of client step) step.now ++ at ∷ []

abbrev pub messages_for_all : Client → List Outlived → List Sent
messages_for_all client outlived = flat_map (messages_for client) outlived

abbrev pub instants_for_all : Client → List Outlived → List ℕ
instants_for_all client outlived = flat_map (instants_for client) outlived

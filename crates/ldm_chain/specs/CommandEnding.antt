-- How a chain ends, and what stands then.
use Rattle.std.specs.Prelude.{◌≡◌, ◌≤◌, ℕ, ◌+◌, List, [], ◌∷◌, ◌++◌, length, Some, None, Result, Ok, Err}
use Rattle.std.specs.List.{AllByRecursion}
use Rattle.ldm_outside.specs.Count.{Rose}
use Rattle.ldm_outside.specs.Io.{Takes, WritesFront}
use Rattle.ldm_model.specs.declared.event.Entry.{Entry}
use Rattle.ldm_model.specs.State.{State}
use Rattle.ldm_model.specs.History.{after, IsLegal}
use Rattle.ldm_class.specs.Rules.{Rules}
use Rattle.ldm_book.specs.Limits.{IsGoodArena, IsGoodSlots}
use Rattle.ldm_session.specs.Exchange.{AnsweredAll}
use Rattle.ldm_chain.specs.declared.node.ChainEnd.{ChainEnd}
use Rattle.ldm_status.specs.WholeScript.{TakesWhole, TakesPart}
use Rattle.ldm_chain.specs.Script.{script_played}
use Rattle.ldm_chain.specs.declared.fault.ChainFault.{ChainFault}
use Rattle.ldm_chain.specs.declared.fault.ChainFault.TheVariants as stop
use Rattle.ldm_chain.specs.declared.setup.TheConstants.{LARGEST_CHAIN_ARENA}
use Rattle.ldm_chain.specs.Work.{ChainOutside, ChainWork, IsGoodSize}
use Rattle.ldm_chain.specs.Policy.{TakesNoRules, TakesRules}
use Rattle.ldm_chain.specs.CommandQueues.{chain_queues, nodes_text}
use Rattle.ldm_chain.specs.Unfed.{UnfedCause}

-- The rules were taken, and then the script, whole.
pub record HasTaken (work : ChainWork) (script : List ℕ) (old new : ChainOutside) : Type 0 where
  pub good : IsGoodSize work
  pub rules : Rules
  pub taken_rules : TakesRules work.conf rules old.store new.store
  pub taken : TakesWhole script old.streams.source new.streams.source

-- The calls of a queue are a legal history, and it stands so after them.
pub record IsLegalQueue (work : ChainWork) (queue : State) : Type 0 where
  pub history : List Entry
  pub legal : IsLegal work.arena work.slots history
  pub state : queue ≡ after work.arena work.slots history

-- The script was played to its end, and each node was fed, once: the queues of the nodes from 1 on are these.
pub record Chains (work : ChainWork) (queues : List State) (old new : ChainOutside) : Type 0 where
  pub script : List ℕ
  pub taken : HasTaken work script old new
  pub played : (script_played work.arena work.slots script).stop ≡ None
  pub script_legal : IsLegal work.arena work.slots (script_played work.arena work.slots script).playing.history
  pub instants : List ℕ
  pub one_each : length instants ≡ length work.classes
  pub answered : AnsweredAll instants old.clock new.clock
  pub queues_are : queues ≡ chain_queues taken.rules work script instants
  pub queues_legal : AllByRecursion (IsLegalQueue work) queues

-- The script was played to its end, and those nodes were fed, once each, that are before one whose feeding ended so: its cause is under the
-- rules that were taken. These are the queues of those before it, as they stood then.
pub record ChainsUpTo (work : ChainWork) (end : ChainEnd) (old new : ChainOutside) : Type 0 where
  pub script : List ℕ
  pub taken : HasTaken work script old new
  pub played : (script_played work.arena work.slots script).stop ≡ None
  pub script_legal : IsLegal work.arena work.slots (script_played work.arena work.slots script).playing.history
  -- one for each node that was fed, and the last one for that which was not
  pub instants : List ℕ
  pub last : ℕ
  pub answered : AnsweredAll (instants ++ last ∷ []) old.clock new.clock
  pub queues : List State
  pub one_each : length queues ≡ length instants
  pub queues_are : queues ≡ chain_queues taken.rules work script instants
  pub queues_legal : AllByRecursion (IsLegalQueue work) queues
  pub cause : UnfedCause end taken.rules work (length instants + 1)

-- Nothing was read and nothing was written, the log apart, and the clock was not asked.
pub record IsUntouched (old new : ChainOutside) : Type 0 where
  pub source : new.streams.source ≡ old.streams.source
  pub sink : new.streams.sink ≡ old.streams.sink
  pub clock : new.clock ≡ old.clock

-- Why a chain stopped, and what was read then. Where the sink did not fail nothing was written.
abbrev pub ChainStops : ChainFault → ChainWork → ChainOutside → ChainOutside → Type 0
-- no queue of a chain has such an arena
ChainStops (stop.BadArena arena) work old new =
    (arena ≡ work.arena) × ¬ (IsGoodArena work.arena × (work.arena ≤ LARGEST_CHAIN_ARENA)) × IsUntouched old new × (new.store ≡ old.store)
-- no queue has so many slots
ChainStops (stop.BadSlots slots) work old new =
    (slots ≡ work.slots) × IsGoodArena work.arena × ¬ (IsGoodSlots work.slots) × IsUntouched old new × (new.store ≡ old.store)
-- the configuration was not taken
ChainStops (stop.ConfNotTaken why) work old new = IsGoodSize work × TakesNoRules why work.conf old.store new.store × IsUntouched old new
-- the script was not taken whole
ChainStops (stop.ScriptFault why) work old new =
    IsGoodSize work × ((rules : Rules) × TakesRules work.conf rules old.store new.store) × TakesPart why old.streams.source new.streams.source
    × (new.streams.sink ≡ old.streams.sink) × (new.clock ≡ old.clock)
-- a line is outside the grammar
ChainStops (stop.BadLine line column) work old new =
    (script : List ℕ) × HasTaken work script old new × ((script_played work.arena work.slots script).stop ≡ Some (record { line = line; column = column }))
    × (new.streams.sink ≡ old.streams.sink) × (new.clock ≡ old.clock)
-- not each node was fed
ChainStops (stop.NotFed end) work old new = ChainsUpTo work end old new × (new.streams.sink ≡ old.streams.sink)
-- the sink failed, and a front of the text was written
ChainStops stop.SinkFault work old new =
    (queues : List State) × Chains work queues old new × Rose old.streams.sink.faults new.streams.sink.faults
    × WritesFront old.streams.sink (nodes_text 1 queues) new.streams.sink
-- there is no memory
ChainStops stop.OutOfMemory work old new = new.streams.sink ≡ old.streams.sink

-- How a chain ends.
abbrev pub ChainEnds : Result (Unit {0}) ChainFault → ChainWork → ChainOutside → ChainOutside → Type 0
-- each node was fed, and the text of all is written
ChainEnds (Ok done) work old new = (queues : List State) × Chains work queues old new × Takes old.streams.sink (nodes_text 1 queues) new.streams.sink
ChainEnds (Err why) work old new = ChainStops why work old new

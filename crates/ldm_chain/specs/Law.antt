-- The law of the queue, of what a chain writes.
use Rattle.std.specs.Prelude.{◌≡◌, ◌⊎◌, ℕ, List}
use Rattle.std.specs.List.{AllByRecursion}
use Rattle.ldm_outside.specs.Count.{Rose}
use Rattle.ldm_outside.specs.Io.{Takes, WritesFront}
use Rattle.ldm_model.specs.declared.event.Entry.{Entry}
use Rattle.ldm_model.specs.State.{State}
use Rattle.ldm_model.specs.History.{after}
use Rattle.ldm_status.specs.Status.{Reports}
use Rattle.ldm_model.specs.Lawful.{IsLawful}
use Rattle.ldm_chain.specs.Script.{script_played}
use Rattle.ldm_chain.specs.declared.fault.ChainFault.{ChainFault}
use Rattle.ldm_chain.specs.declared.fault.ChainFault.TheVariants as stop
use Rattle.ldm_chain.specs.Work.{ChainOutside, ChainWork}
use Rattle.ldm_chain.specs.CommandQueues.{nodes_text}
use Rattle.ldm_chain.specs.CommandEnding.{Chains, ChainsUpTo, ChainStops}
use Rattle.ldm_chain.specs.Statuses.{status_of_stop}

-- The calls of a queue are a history that obeys the law, and it stands so after them.
pub record IsLawfulQueue (work : ChainWork) (queue : State) : Type 0 where
  pub history : List Entry
  pub lawful : IsLawful work.arena work.slots history
  pub state : queue ≡ after work.arena work.slots history

-- The text of all nodes is written, or a front where the sink failed. The calls of the script are a history that obeys the law, and so
-- are the calls of each node's queue.
pub record ChainWritesLawful (work : ChainWork) (old new : ChainOutside) : Type 0 where
  pub queues : List State
  pub chains : Chains work queues old new
  pub script_lawful : IsLawful work.arena work.slots (script_played work.arena work.slots chains.script).playing.history
  pub queues_lawful : AllByRecursion (IsLawfulQueue work) queues
  pub front : WritesFront old.streams.sink (nodes_text 1 queues) new.streams.sink
  pub whole : ¬ (Rose old.streams.sink.faults new.streams.sink.faults) → Takes old.streams.sink (nodes_text 1 queues) new.streams.sink

-- Why not each node was fed. What was read then is said, and that nothing was written.
abbrev pub IsUnchained : ChainFault → ChainWork → ChainOutside → ChainOutside → Type 0
-- no queue of a chain has such an arena, or so many slots
IsUnchained (stop.BadArena arena) work old new = ChainStops (stop.BadArena arena) work old new
IsUnchained (stop.BadSlots slots) work old new = ChainStops (stop.BadSlots slots) work old new
-- the configuration or the script was not taken whole
IsUnchained (stop.ConfNotTaken why) work old new = ChainStops (stop.ConfNotTaken why) work old new
IsUnchained (stop.ScriptFault why) work old new = ChainStops (stop.ScriptFault why) work old new
-- a line is outside the grammar
IsUnchained (stop.BadLine line column) work old new = ChainStops (stop.BadLine line column) work old new
-- a node was not fed, which has its cause; the calls of the script are a history that obeys the law, and so are those of each queue before it
IsUnchained (stop.NotFed end) work old new =
    (chains : ChainsUpTo work end old new) × IsLawful work.arena work.slots (script_played work.arena work.slots chains.script).playing.history
    × AllByRecursion (IsLawfulQueue work) chains.queues × (new.streams.sink ≡ old.streams.sink)
-- where the sink failed each node was fed
IsUnchained stop.SinkFault work old new = ⊥
-- there is no memory
IsUnchained stop.OutOfMemory work old new = ChainStops stop.OutOfMemory work old new

-- Not each node was fed, and the number and the log tell why: no number that a chain ends with which fed each.
pub record ChainWritesNothing (work : ChainWork) (code : ℕ) (old new : ChainOutside) : Type 0 where
  pub why : ChainFault
  pub cause : IsUnchained why work old new
  pub told : Reports (status_of_stop why) code old.streams.log new.streams.log

-- What a chain writes obeys the law, and where nothing is owed there is a cause that is told.
abbrev pub ObeysChainLaw : ChainWork → ℕ → ChainOutside → ChainOutside → Type 0
ObeysChainLaw work code old new = ChainWritesNothing work code old new ⊎ ChainWritesLawful work old new

-- The nodes of a chain: how they are made, and how they stand once they were fed. No caller needs it.
use Rattle.std.specs.Prelude.{◌≡◌, ℕ, ◌+◌, ◌≤◌, List, [], ◌∷◌, ◌++◌, length, map, Some, None}
use Rattle.std.specs.List.{AllByRecursion}
use Rattle.ldm_types.specs.declared.class.ClassSpec.{ClassSpec}
use Rattle.ldm_outside.specs.Clock.{ClockRecord}
use Rattle.ldm_model.specs.State.{State}
use Rattle.ldm_model.specs.History.{IsLegal}
use Rattle.ldm_class.specs.Rules.{Rules}
use Rattle.ldm_book.specs.Limits.{IsGoodArena, IsGoodSlots}
use Rattle.ldm_shared.specs.Passes.{new_pass}
use Rattle.ldm_session.specs.Exchange.{AnsweredAll}
use Rattle.ldm_between_ends.specs.OnePass.{IsOnlyPass, state_of}
use Rattle.ldm_chain.specs.Script.{script_played}
use Rattle.ldm_chain.specs.declared.node.ChainEnd.{ChainEnd}
use Rattle.ldm_chain.specs.declared.node.ChainNode.{ChainNode}
use Rattle.ldm_chain.specs.Nodes.{IsNode}
use Rattle.ldm_chain.specs.declared.fault.ChainFault.{ChainFault}
use Rattle.ldm_chain.specs.declared.fault.ChainFault.TheVariants as stop
use Rattle.ldm_chain.specs.declared.setup.TheConstants.{LARGEST_CHAIN_ARENA}
use Rattle.ldm_chain.specs.Work.{ChainWork}
use Rattle.ldm_chain.specs.CommandQueues.{chain_queues, first_queue}
use Rattle.ldm_chain.specs.CommandEnding.{IsLegalQueue}
use Rattle.ldm_chain.specs.Unfed.{UnfedCause}

-- ---- sizes

-- why there are no such queues in a chain
abbrev pub IsBadSize : ℕ → ℕ → ChainFault → Type 0
IsBadSize arena slots (stop.BadArena a) = (a ≡ arena) × ¬ (IsGoodArena arena × (arena ≤ LARGEST_CHAIN_ARENA))
IsBadSize arena slots (stop.BadSlots n) = (n ≡ slots) × IsGoodArena arena × ¬ (IsGoodSlots slots)
IsBadSize arena slots _ = ⊥

-- ---- nodes that are made

-- A node on a new queue of that size.
pub record IsNew (arena slots max_hereis : ℕ) (class : ClassSpec) (node : ChainNode) : Type 0 where
  pub of : IsNode node
  pub pass : node.pass ≡ new_pass node.shared 0
  pub arena_is : node.shared.arena ≡ arena
  pub slots_is : node.shared.slots ≡ slots
  pub passes_is : node.shared.passes ≡ 1
  pub class_is : node.class ≡ class
  pub max_is : node.max_hereis ≡ max_hereis

-- one node for each class
abbrev pub AreNew : ℕ → ℕ → ℕ → List ClassSpec → List ChainNode → Type 0
AreNew arena slots max_hereis [] [] = Unit {0}
AreNew arena slots max_hereis [] (node ∷ nodes) = ⊥
AreNew arena slots max_hereis (class ∷ classes) [] = ⊥
AreNew arena slots max_hereis (class ∷ classes) (node ∷ nodes) = IsNew arena slots max_hereis class node × AreNew arena slots max_hereis classes nodes

-- The script was played to its end, and the first node has its products.
pub record IsFirst (arena slots : ℕ) (script : List ℕ) (node : ChainNode) : Type 0 where
  pub played : (script_played arena slots script).stop ≡ None
  pub legal : IsLegal arena slots (script_played arena slots script).playing.history
  pub arena_is : node.pass.arena ≡ arena
  pub slots_is : node.pass.slots ≡ slots
  pub of : IsNode node
  pub only : IsOnlyPass node.pass
  pub state : state_of node.pass ≡ first_queue arena slots script
  -- it was called for each of them alone
  pub few : length node.pass.seen ≤ slots

-- ---- nodes that were fed

-- its pass is the only one of a queue of that size
pub record IsSole (arena slots : ℕ) (node : ChainNode) : Type 0 where
  pub of : IsNode node
  pub passes : node.pass.passes ≡ 1
  pub actor : node.pass.actor ≡ 0
  pub arena_is : node.pass.arena ≡ arena
  pub slots_is : node.pass.slots ≡ slots

abbrev pub AreSole : ℕ → ℕ → List ChainNode → Type 0
AreSole arena slots [] = Unit {0}
AreSole arena slots (node ∷ nodes) = IsSole arena slots node × AreSole arena slots nodes

-- the calls of its queue are a legal history
abbrev pub HasLegal : ChainNode → Type 0
HasLegal node = IsLegal node.pass.arena node.pass.slots node.pass.seen

-- the queue of a node
abbrev pub queue_of : ChainNode → State
queue_of node = state_of node.pass

-- All nodes were fed: these are those from 1 on.
pub record AreFed (work : ChainWork) (rules : Rules) (script : List ℕ) (nodes : List ChainNode) (old new : ClockRecord) : Type 0 where
  pub played : (script_played work.arena work.slots script).stop ≡ None
  pub legal : IsLegal work.arena work.slots (script_played work.arena work.slots script).playing.history
  pub few : length nodes ≤ 7
  pub instants : List ℕ
  pub one_each : length instants ≡ length work.classes
  pub answered : AnsweredAll instants old new
  pub sole : AreSole work.arena work.slots nodes
  pub queues : map queue_of nodes ≡ chain_queues rules work script instants

-- The nodes before one were fed, and these were their queues then. That one was not fed, and it ended so.
pub record AreFedUpTo (end : ChainEnd) (work : ChainWork) (rules : Rules) (script : List ℕ) (old new : ClockRecord) : Type 0 where
  pub played : (script_played work.arena work.slots script).stop ≡ None
  pub legal : IsLegal work.arena work.slots (script_played work.arena work.slots script).playing.history
  pub instants : List ℕ
  pub last : ℕ
  pub answered : AnsweredAll (instants ++ last ∷ []) old new
  pub queues : List State
  pub one_each : length queues ≡ length instants
  pub queues_are : queues ≡ chain_queues rules work script instants
  pub queues_legal : AllByRecursion (IsLegalQueue work) queues
  pub cause : UnfedCause end rules work (length instants + 1)

-- why not all were fed
abbrev pub AreNotFed : ChainFault → ChainWork → Rules → List ℕ → ClockRecord → ClockRecord → Type 0
AreNotFed (stop.BadLine line column) work rules script old new = ((script_played work.arena work.slots script).stop ≡ Some (record { line = line; column = column })) × (new ≡ old)
AreNotFed (stop.NotFed end) work rules script old new = AreFedUpTo end work rules script old new
AreNotFed stop.OutOfMemory work rules script old new = Unit {0}
AreNotFed _ work rules script old new = ⊥

-- why the first node was not made
abbrev pub IsNotFirst : ChainFault → ℕ → ℕ → List ℕ → Type 0
IsNotFirst (stop.BadLine line column) arena slots script = (script_played arena slots script).stop ≡ Some (record { line = line; column = column })
IsNotFirst stop.OutOfMemory arena slots script = Unit {0}
IsNotFirst _ arena slots script = ⊥

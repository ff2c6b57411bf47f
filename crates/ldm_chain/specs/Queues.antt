-- What stands in the queues of a chain.
use Rattle.std.specs.Prelude.{◌≡◌, ◌⊎◌, ℕ, ◌+◌, true, List, [], ◌∷◌, map, None}
use Rattle.std.specs.List.{list_all}
use Rattle.ldm_types.specs.declared.class.ClassSpec.{ClassSpec}
use Rattle.ldm_model.specs.Product.{Product}
use Rattle.ldm_model.specs.State.{State, empty}
use Rattle.ldm_class.specs.Access.{reduce}
use Rattle.ldm_class.specs.Classes.{is_resumption, resumed}
use Rattle.ldm_class.specs.Rules.{Rules}
use Rattle.ldm_class.specs.declared.answers.Reduced.{Reduced}
use Rattle.ldm_class.specs.declared.answers.Reduced.TheVariants.{Same, Fewer, Nothing}
use Rattle.ldm_sender.specs.Asked.{Asked}
use Rattle.ldm_upstream.specs.Turn.{Given}
use Rattle.ldm_between_ends.specs.Queue.{passed_all}
use Rattle.ldm_between_ends.specs.Alone.{due_rows}
use Rattle.ldm_between_ends.specs.OnePass.{IsOnlyPass, state_of}
use Rattle.ldm_chain.specs.declared.node.ChainNode.{ChainNode}
use Rattle.ldm_chain.specs.Linking.{asked_by, host_name}

-- ---- one node from the one before it

-- What is asked for where that is left of the class: where it is a part, that part is asked for by a second call.
abbrev pub left_to : Reduced → Asked → Asked
left_to Same asked = asked
left_to (Fewer fewer) asked = record asked { xid = 2; class = fewer }
left_to (Nothing rule) asked = asked

-- what is asked for, as the rules leave it
abbrev pub as_reduced : Asked → Asked
as_reduced asked = left_to (reduce asked.rules asked.host asked.class) asked

-- the products of a queue that are due, in the order of their numbers
abbrev pub products_due : Asked → State → List Product
products_due asked s = map (λ (given : Given). given.product) (due_rows asked s)

-- What a queue comes to that is fed from one which stands so, by the only pass of each: the products that are due, one after another, each at
-- that moment.
abbrev pub fed_from : State → Asked → ℕ → State → State
fed_from from asked now queue = passed_all 0 asked.max_hereis now (products_due (as_reduced asked) from) queue

-- ---- nodes that are to be fed

-- It asks for all times, and names no product to go on behind where it asks for anything else.
pub record IsForAllTimes (class : ClassSpec) : Type 0 where
  pub from : class.from ≡ 0
  pub names : (resumed class.specs.items ≡ None) ⊎ (list_all is_resumption class.specs.items ≡ true)

-- A node that is to be fed: its pass is the only one of its queue, which was not called yet.
pub record IsToBeFed (node : ChainNode) : Type 0 where
  pub only : IsOnlyPass node.pass
  pub not_called : node.pass.seen ≡ []
  pub class : IsForAllTimes node.class

abbrev pub AreToBeFed : List ChainNode → Type 0
AreToBeFed [] = Unit {0}
AreToBeFed (node ∷ nodes) = IsToBeFed node × AreToBeFed nodes

-- The first node may have been called before. The others are to be fed.
abbrev pub IsChain : List ChainNode → Type 0
IsChain [] = Unit {0}
IsChain (first ∷ others) = IsOnlyPass first.pass × AreToBeFed others

-- ---- all nodes

-- a queue before its first call
abbrev pub new_queue : ChainNode → State
new_queue node = empty node.pass.arena node.pass.slots

-- In the queue of each node, of which the first has that number, stands what an empty queue comes to that is fed from the one before it. The
-- queue before the first one stands so.
abbrev pub QueuesEach : ℕ → Rules → State → (olds news : List ChainNode) → List ℕ → Type 0
QueuesEach i rules from [] [] [] = Unit {0}
QueuesEach i rules from (old ∷ olds) (new ∷ news) (now ∷ instants) =
    (state_of new.pass ≡ fed_from from (asked_by (host_name i) rules 1 old.class old.max_hereis) now (new_queue old))
    × QueuesEach (i + 1) rules (state_of new.pass) olds news instants
QueuesEach i rules from olds news instants = ⊥

-- The queue of the first node is as it was.
abbrev pub QueuesAll : ℕ → Rules → (olds news : List ChainNode) → List ℕ → Type 0
QueuesAll i rules [] [] instants = instants ≡ []
QueuesAll i rules (old ∷ olds) (new ∷ news) instants = (state_of new.pass ≡ state_of old.pass) × QueuesEach i rules (state_of old.pass) olds news instants
QueuesAll i rules olds news instants = ⊥

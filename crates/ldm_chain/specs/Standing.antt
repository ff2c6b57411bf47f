-- What stands in the queues of a chain that ended before each node was fed.
use Rattle.std.specs.Prelude.{◌≡◌, ◌<◌, ℕ, List, [], ◌∷◌, ◌++◌, length}
use Rattle.std.specs.List.{AllByRecursion}
use Rattle.ldm_class.specs.Rules.{Rules}
use Rattle.ldm_between_ends.specs.OnePass.{IsOnlyPass, state_of}
use Rattle.ldm_between_ends.specs.Reading.{KeepsProducts}
use Rattle.ldm_chain.specs.declared.node.ChainNode.{ChainNode}
use Rattle.ldm_chain.specs.Nodes.{KeepsNodes}
use Rattle.ldm_chain.specs.Queues.{QueuesAll}

-- In the queue of each node all is as it was, but for cursor places.
abbrev pub KeepQueues : List ChainNode → List ChainNode → Type 0
KeepQueues [] [] = Unit {0}
KeepQueues [] (node ∷ news) = ⊥
KeepQueues (node ∷ olds) [] = ⊥
KeepQueues (old ∷ olds) (new ∷ news) = KeepsProducts (state_of old.pass) (state_of new.pass) × KeepQueues olds news

-- The chain broke at a node. Those in front of it stood as in a chain that is `Done` when that node was to be fed, and have all that still,
-- whatever cursor is left open. Those behind it are as they were.
pub record StandsUpTo (rules : Rules) (olds news : List ChainNode) (instants : List ℕ) : Type 0 where
  -- as the chain found them
  pub front : List ChainNode
  pub broken : ChainNode
  pub behind : List ChainNode
  pub olds_are : olds ≡ front ++ broken ∷ behind
  -- the first node is fed by none
  pub some : 0 < length front
  -- those in front, as they stood once they were fed, each at its instant
  pub fed : List ChainNode
  pub moments : List ℕ
  pub same : KeepsNodes front fed
  pub only : AllByRecursion (λ (node : ChainNode). IsOnlyPass node.pass) fed
  pub queues : QueuesAll 1 rules front fed moments
  -- at the last instant the chain broke
  pub last : ℕ
  pub instants_are : instants ≡ moments ++ last ∷ []
  -- as the chain left them
  pub left : List ChainNode
  pub kept : KeepQueues fed left
  pub part : ChainNode
  pub news_are : news ≡ left ++ part ∷ behind

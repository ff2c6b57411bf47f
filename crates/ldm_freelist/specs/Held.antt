-- What the nodes of a set of pairs keep: a balanced search tree, and a chain of the nodes that are free.
use Rattle.std.specs.Prelude.{◌≡◌, ◌≢◌, ℕ, ◌+◌, ◌≤◌, List, [], ◌∷◌, length, cond, eqb}
use Rattle.std.proofs.Common.{zero, suc}
use Rattle.std.specs.List.{AllByRecursion}
use Rattle.ldm_freelist.specs.Nodes.{node_at, pair_at, height_at}
use Rattle.ldm_freelist.specs.Tree.{Tree, Leaf, Fork, pairs_of, IsNumber, IsTree}
use Rattle.ldm_freelist.specs.declared.node_table.Node.{Node}
use Rattle.ldm_freelist.specs.declared.node_table.TheConstants.{NONE}

-- the tree below a root, as far as so many levels
abbrev pub tree_within : ℕ → List Node → ℕ → Tree
tree_within zero nodes root = Leaf
tree_within (suc levels) nodes root =
    cond (eqb root NONE) Leaf (Fork root (pair_at nodes root) (tree_within levels nodes (node_at nodes root).left) (tree_within levels nodes (node_at nodes root).right))

-- the tree below a root
unfoldable pub tree_at : List Node → ℕ → Tree
tree_at nodes root = tree_within (height_at nodes root) nodes root

-- the free nodes from the first on, each of which links to the next
abbrev pub IsChain : List Node → ℕ → List ℕ → Type 0
IsChain nodes first [] = first ≡ NONE
IsChain nodes first (i ∷ is) = (first ≡ i) × IsNumber nodes i × ((node_at nodes i).height ≡ 0) × AllByRecursion (λ j. i ≢ j) is × IsChain nodes (node_at nodes i).left is

-- each node is in the tree or free
pub record IsHeld (nodes : List Node) (root free : ℕ) (tree : Tree) (chain : List ℕ) : Type 0 where
  pub tree_is : IsTree nodes root tree
  pub chain_is : IsChain nodes free chain
  pub whole : length (pairs_of tree) + length chain ≡ length nodes
  pub numbered : length nodes ≤ NONE

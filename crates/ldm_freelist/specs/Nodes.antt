-- The nodes of a table: what is read of them, and what each call leaves.
use Rattle.std.specs.Prelude.{◌≢◌, ℕ, ◌+◌, ◌<◌, max, List, [], ◌∷◌, ◌++◌, length, cond, eqb, slice_set, slice_index_or}
use Rattle.std.proofs.Common.{zero, suc}
use Rattle.ldm_freelist.specs.declared.node_table.Node.{Node}
use Rattle.ldm_freelist.specs.declared.node_table.TheConstants.{NONE}

-- a free node, in front of the next free one
abbrev pub free_node : ℕ → Node
free_node next = record { extent = 0; offset = 0; left = next; right = NONE; height = 0 }

-- a pair with no sides
abbrev pub leaf_node : ℕ → ℕ → Node
leaf_node extent offset = record { extent = extent; offset = offset; left = NONE; right = NONE; height = 1 }

-- the node of a number
abbrev pub node_at : List Node → ℕ → Node
node_at nodes number = slice_index_or nodes number (free_node NONE)

-- its pair
abbrev pub pair_at : List Node → ℕ → ℕ × ℕ
pair_at nodes number = ((node_at nodes number).extent, (node_at nodes number).offset)

-- its height, and 0 where there is no node
unfoldable pub height_at : List Node → ℕ → ℕ
height_at nodes number = cond (eqb number NONE) 0 (node_at nodes number).height

-- a node and two others, or none, that it can get as its sides
pub record CanJoin (nodes : List Node) (number left right : ℕ) : Type 0 where
  pub node : number < length nodes
  pub left_side : left ≢ NONE → left < length nodes
  pub right_side : right ≢ NONE → right < length nodes
  pub height_fits : max (height_at nodes left) (height_at nodes right) < 255

-- what is left where a node gets these sides
unfoldable pub joined : List Node → ℕ → ℕ → ℕ → List Node
joined nodes number left right =
    slice_set nodes number (record (node_at nodes number) { left = left; right = right; height = max (height_at nodes left) (height_at nodes right) + 1 })

-- the number before a number
abbrev pub before : ℕ → ℕ
before zero = NONE
before (suc number) = number

-- so many free nodes, each in front of the one before it
abbrev pub free_nodes : ℕ → List Node
free_nodes zero = []
free_nodes (suc count) = free_nodes count ++ free_node (before count) ∷ []

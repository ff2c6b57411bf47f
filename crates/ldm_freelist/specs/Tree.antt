-- Search trees of pairs, and how a table of nodes spells one.
use Rattle.std.specs.Prelude.{◌≡◌, ◌≢◌, ℕ, ◌+◌, ◌<◌, ◌≤◌, ◌⊎◌, max, nat_lt, if◌then◌else◌, List, [], ◌∷◌, ◌++◌, length, Option, Some, None}
use Rattle.std.specs.List.{AllByRecursion}
use Rattle.std.specs.List.Sorted.{IsStrictlySortedBy}
use Rattle.std.specs.declared.cmp.Ordering.TheVariants.{Equal}
use Rattle.ldm_freelist.specs.Pairs.{pair_cmp, first_from_bound}
use Rattle.ldm_freelist.specs.Nodes.{node_at, pair_at, leaf_node}
use Rattle.ldm_freelist.specs.declared.node_table.Node.{Node}
use Rattle.ldm_freelist.specs.declared.node_table.TheConstants.{NONE}

-- a fork has the number of its node, a pair, and two sides
pub data Tree : Type 0 where
  Leaf : Tree
  Fork : (number : ℕ) (pair : ℕ × ℕ) (left right : Tree) → Tree

abbrev pub height : Tree → ℕ
height Leaf = 0
height (Fork number pair left right) = max (height left) (height right) + 1

-- the number of the node at the top
abbrev pub root_of : Tree → ℕ
root_of Leaf = NONE
root_of (Fork number pair left right) = number

-- the pairs, from the leftmost to the rightmost
abbrev pub pairs_of : Tree → List (ℕ × ℕ)
pairs_of Leaf = []
pairs_of (Fork number pair left right) = pairs_of left ++ pair ∷ pairs_of right

-- a node of a tree
abbrev pub Has : ℕ → Tree → Type 0
Has i Leaf = ⊥
Has i (Fork number pair left right) = (i ≡ number) ⊎ (Has i left ⊎ Has i right)

-- neither is more than this above the other
abbrev pub DifferByAtMost : ℕ → ℕ → ℕ → Type 0
DifferByAtMost by a b = (a ≤ b + by) × (b ≤ a + by)

-- at each fork the heights of the sides differ by at most one
abbrev pub IsBalanced : Tree → Type 0
IsBalanced Leaf = Unit {0}
IsBalanced (Fork number pair left right) = DifferByAtMost 1 (height left) (height right) × IsBalanced left × IsBalanced right

-- the node of a fork
abbrev pub fork_node : ℕ × ℕ → Tree → Tree → Node
fork_node pair left right = record { extent = pair.0; offset = pair.1; left = root_of left; right = root_of right; height = max (height left) (height right) + 1 }

-- a number names a node of the table
pub record IsNumber (nodes : List Node) (number : ℕ) : Type 0 where
  pub within : number < length nodes
  pub named : number ≢ NONE

-- each fork of a tree is spelled by its node
abbrev pub Spells : List Node → Tree → Type 0
Spells nodes Leaf = Unit {0}
Spells nodes (Fork number pair left right) = IsNumber nodes number × (node_at nodes number ≡ fork_node pair left right) × Spells nodes left × Spells nodes right

-- a table has a balanced search tree below a root
pub record IsTree (nodes : List Node) (root : ℕ) (tree : Tree) : Type 0 where
  pub root_is : root ≡ root_of tree
  pub spelled : Spells nodes tree
  pub balanced : IsBalanced tree
  pub rising : IsStrictlySortedBy pair_cmp (pairs_of tree)

-- heights stay below this, far from the end of a byte
abbrev pub high : ℕ
high = 200

-- a table changes at the nodes of these numbers alone, and no pair of it changes
pub record IsKept (old new : List Node) (Inside : ℕ → Type 0) : Type 0 where
  pub as_long : length new ≡ length old
  pub same_pairs : (i : ℕ) → pair_at new i ≡ pair_at old i
  pub others : (i : ℕ) → ¬ Inside i → node_at new i ≡ node_at old i

-- a node and two trees that it can be put over, whose heights differ by at most two
pub record IsLoose (nodes : List Node) (number left right : ℕ) (less more : Tree) : Type 0 where
  pub is_number : IsNumber nodes number
  pub left_tree : IsTree nodes left less
  pub right_tree : IsTree nodes right more
  pub rising : IsStrictlySortedBy pair_cmp (pairs_of less ++ pair_at nodes number ∷ pairs_of more)
  pub near : DifferByAtMost 2 (height less) (height more)
  pub low : max (height less) (height more) < high

-- the height h of what two trees of these heights become
abbrev pub IsHeightOver : ℕ → ℕ → ℕ → Type 0
IsHeightOver l r h = (max l r ≤ h) × (h ≤ max l r + 1) × (DifferByAtMost 1 l r → h ≡ max l r + 1)

-- a node and two trees became a balanced tree of the same pairs and nodes
pub record IsBalancedOver (old new : List Node) (number root : ℕ) (less more made : Tree) : Type 0 where
  pub tree : IsTree new root made
  pub same : pairs_of made ≡ pairs_of less ++ pair_at old number ∷ pairs_of more
  pub inside : (i : ℕ) → Has i made → Has i (Fork number (pair_at old number) less more)
  pub kept : IsKept old new (λ i. Has i (Fork number (pair_at old number) less more))
  pub height_is : IsHeightOver (height less) (height more) (height made)

-- that, whichever trees they were
abbrev pub Balances : List Node → List Node → ℕ → ℕ → ℕ → ℕ → Type 0
Balances old new number left right root =
    (less more : Tree) → IsLoose old number left right less more → (made : Tree) × IsBalancedOver old new number root less more made

-- the same, where the left one is two higher, and its sides are these
pub record IsLeaningLeft (nodes : List Node) (number left right : ℕ) (outer inner more : Tree) : Type 0 where
  pub loose : IsLoose nodes number left right (Fork left (pair_at nodes left) outer inner) more
  pub higher : height (Fork left (pair_at nodes left) outer inner) ≡ height more + 2

-- the same, where the right one is two higher
pub record IsLeaningRight (nodes : List Node) (number left right : ℕ) (less inner outer : Tree) : Type 0 where
  pub loose : IsLoose nodes number left right less (Fork right (pair_at nodes right) inner outer)
  pub higher : height (Fork right (pair_at nodes right) inner outer) ≡ height less + 2

-- what is left where the left one leans and its outer side is no lower than its inner one
abbrev pub RaisesLeft : List Node → List Node → ℕ → ℕ → ℕ → ℕ → Type 0
RaisesLeft old new number left right root =
    (outer inner more : Tree) → IsLeaningLeft old number left right outer inner more → height inner ≤ height outer →
    (made : Tree) × IsBalancedOver old new number root (Fork left (pair_at old left) outer inner) more made

-- what is left where its inner side is the higher one
abbrev pub RaisesLeftInner : List Node → List Node → ℕ → ℕ → ℕ → ℕ → Type 0
RaisesLeftInner old new number left right root =
    (outer inner more : Tree) → IsLeaningLeft old number left right outer inner more → height outer < height inner →
    (made : Tree) × IsBalancedOver old new number root (Fork left (pair_at old left) outer inner) more made

abbrev pub RaisesRight : List Node → List Node → ℕ → ℕ → ℕ → ℕ → Type 0
RaisesRight old new number left right root =
    (less inner outer : Tree) → IsLeaningRight old number left right less inner outer → height inner ≤ height outer →
    (made : Tree) × IsBalancedOver old new number root less (Fork right (pair_at old right) inner outer) made

abbrev pub RaisesRightInner : List Node → List Node → ℕ → ℕ → ℕ → ℕ → Type 0
RaisesRightInner old new number left right root =
    (less inner outer : Tree) → IsLeaningRight old number left right less inner outer → height outer < height inner →
    (made : Tree) × IsBalancedOver old new number root less (Fork right (pair_at old right) inner outer) made

-- a list with a pair, and without it
pub record IsWith (pair : ℕ × ℕ) (more less : List (ℕ × ℕ)) : Type 0 where
  pub front : List (ℕ × ℕ)
  pub back : List (ℕ × ℕ)
  pub more_is : more ≡ front ++ pair ∷ back
  pub less_is : less ≡ front ++ back

-- a tree, and a node of a new pair that is to go into it
pub record IsAddable (nodes : List Node) (root fresh : ℕ) (pair : ℕ × ℕ) (tree : Tree) : Type 0 where
  pub tree_is : IsTree nodes root tree
  pub is_number : IsNumber nodes fresh
  pub fresh_is : node_at nodes fresh ≡ leaf_node pair.0 pair.1
  pub apart : ¬ Has fresh tree
  pub new : AllByRecursion (λ p. pair_cmp p pair ≢ Equal) (pairs_of tree)
  pub low : height tree + 1 < high

-- a tree with one pair more
pub record IsAdded (old new : List Node) (root fresh : ℕ) (pair : ℕ × ℕ) (tree made : Tree) : Type 0 where
  pub tree_is : IsTree new root made
  pub more : IsWith pair (pairs_of made) (pairs_of tree)
  pub inside : (i : ℕ) → Has i made → (i ≡ fresh) ⊎ Has i tree
  pub kept : IsKept old new (λ i. (i ≡ fresh) ⊎ Has i tree)
  pub height_is : (height tree ≤ height made) × (height made ≤ height tree + 1)

-- that, whichever tree it was
abbrev pub Adds : List Node → List Node → ℕ → ℕ → ℕ × ℕ → ℕ → Type 0
Adds old new root fresh pair answer = (tree : Tree) → IsAddable old root fresh pair tree → (made : Tree) × IsAdded old new answer fresh pair tree made

-- a tree that is to lose a node
pub record IsLow (nodes : List Node) (root : ℕ) (tree : Tree) : Type 0 where
  pub tree_is : IsTree nodes root tree
  pub low : height tree < high

-- a tree that lost a node
pub record IsTaken (old new : List Node) (root taken : ℕ) (tree rest : Tree) : Type 0 where
  pub tree_is : IsTree new root rest
  pub less : IsWith (pair_at old taken) (pairs_of tree) (pairs_of rest)
  pub inside : (i : ℕ) → Has i rest → Has i tree
  pub taken_is : Has taken tree
  pub kept : IsKept old new (λ i. Has i tree)
  pub height_is : (height rest ≤ height tree) × (height tree ≤ height rest + 1)

-- what is left where a tree loses its first node, whichever tree it was
abbrev pub TakesFirst : List Node → List Node → ℕ → ℕ × ℕ → Type 0
TakesFirst old new root answer =
    (tree : Tree) → IsLow old root tree → (rest : Tree) × IsTaken old new answer.0 answer.1 tree rest × (pairs_of tree ≡ pair_at old answer.1 ∷ pairs_of rest)

-- what is left where a tree loses its top node
abbrev pub TakesTop : List Node → List Node → ℕ → ℕ → ℕ → ℕ → Type 0
TakesTop old new number left right answer =
    (less more : Tree) → IsLow old number (Fork number (pair_at old number) less more) → left ≡ root_of less → right ≡ root_of more →
    (rest : Tree) × IsTaken old new answer number (Fork number (pair_at old number) less more) rest

-- a pair of a tree
abbrev pub HasPair : ℕ × ℕ → Tree → Type 0
HasPair pair Leaf = ⊥
HasPair pair (Fork number p left right) = (p ≡ pair) ⊎ (HasPair pair left ⊎ HasPair pair right)

-- what is left where a tree loses the node of a pair
abbrev pub Takes : List Node → List Node → ℕ → ℕ × ℕ → ℕ × ℕ → Type 0
Takes old new root pair answer =
    (tree : Tree) → IsLow old root tree → HasPair pair tree → (rest : Tree) × IsTaken old new answer.0 answer.1 tree rest × (pair_at old answer.1 ≡ pair)

-- a found pair, or else another
abbrev pub found_or : Option (ℕ × ℕ) → Option (ℕ × ℕ) → Option (ℕ × ℕ)
found_or None other = other
found_or (Some pair) other = Some pair

-- the first pair of a tree that does not precede a bound, or else another
abbrev pub Finds : List Node → ℕ → ℕ × ℕ → Option (ℕ × ℕ) → Option (ℕ × ℕ) → Type 0
Finds nodes root bound other answer = (tree : Tree) → IsTree nodes root tree → answer ≡ found_or (first_from_bound bound (pairs_of tree)) other

-- the last pair of a list, of those whose extent is at most a bound
abbrev pub last_to_bound : ℕ → List (ℕ × ℕ) → Option (ℕ × ℕ)
last_to_bound most [] = None
last_to_bound most (pair ∷ pairs) = if nat_lt most pair.0 then last_to_bound most pairs else found_or (last_to_bound most pairs) (Some pair)

-- the last pair of a tree whose extent is at most a bound, or else another
abbrev pub FindsTo : List Node → ℕ → ℕ → Option (ℕ × ℕ) → Option (ℕ × ℕ) → Type 0
FindsTo nodes root most other answer = (tree : Tree) → IsTree nodes root tree → answer ≡ found_or (last_to_bound most (pairs_of tree)) other

-- the last node of a tree
abbrev pub IsLast : List Node → ℕ → ℕ → Type 0
IsLast nodes root number = (tree : Tree) → IsTree nodes root tree → Has number tree × ((front : List (ℕ × ℕ)) × (pairs_of tree ≡ front ++ pair_at nodes number ∷ []))

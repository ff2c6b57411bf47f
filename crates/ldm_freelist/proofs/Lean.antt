-- A tree that is two higher than the one beside it has a root with two sides.
use Rattle.std.proofs.Common.{◌≡◌, ◌≢◌, ℕ, ◌+◌, ◌<◌, List, length, sym, ap, ◌∙◌, subst, arith}
use Rattle.ldm_freelist.specs.Nodes.{node_at, pair_at, height_at}
use Rattle.ldm_freelist.specs.declared.node_table.TheConstants.{NONE}
use Rattle.ldm_freelist.specs.Tree.{Tree, Fork, height, root_of, Spells, IsTree, IsLoose, IsLeaningLeft, IsLeaningRight, IsBalancedOver}
use Rattle.ldm_freelist.specs.declared.node_table.Node.{Node}
use Rattle.ldm_freelist.proofs.Spelled.{height_at-root, root_within, opened_side, left_told, right_told}

pub tree_height : (nodes : List Node) (root : ℕ) (t : Tree) → IsTree nodes root t → height_at nodes root ≡ height t
tree_height nodes root t is = ap (height_at nodes) is.root_is ∙ height_at-root nodes t is.spelled

pub tree_within : (nodes : List Node) (root : ℕ) (t : Tree) → IsTree nodes root t → root ≢ NONE → root < length nodes
tree_within nodes root t is named = subst (λ i. i < length nodes) (sym is.root_is) (root_within nodes t is.spelled (λ e. named (is.root_is ∙ e)))

-- a tree that is not empty, by its root
pub opened_at : (nodes : List Node) (root : ℕ) (t : Tree) → IsTree nodes root t → 0 < height t → (sides : Tree × Tree) × (t ≡ Fork root (pair_at nodes root) sides.0 sides.1)
opened_at nodes root t is h = opened_side nodes root t is.spelled is.root_is h

-- what the table tells of the sides of a fork
side_height : (nodes : List Node) (side : ℕ) (t : Tree) → Spells nodes t → side ≡ root_of t → height_at nodes side ≡ height t
side_height nodes side t s is = ap (height_at nodes) is ∙ height_at-root nodes t s

side_within : (nodes : List Node) (side : ℕ) (t : Tree) → Spells nodes t → side ≡ root_of t → side ≢ NONE → side < length nodes
side_within nodes side t s is named = subst (λ i. i < length nodes) (sym is) (root_within nodes t s (λ e. named (is ∙ e)))

module _ {nodes : List Node} {i : ℕ} {p : ℕ × ℕ} (l r : Tree) (s : Spells nodes (Fork i p l r)) where
  pub left_height : {left : ℕ} → left ≡ (node_at nodes i).left → height_at nodes left ≡ height l
  left_height {left} is = side_height nodes left l s.2 (left_told nodes i p l r s left is)

  pub right_height : {right : ℕ} → right ≡ (node_at nodes i).right → height_at nodes right ≡ height r
  right_height {right} is = side_height nodes right r s.3 (right_told nodes i p l r s right is)

  pub left_within : {left : ℕ} → left ≡ (node_at nodes i).left → left ≢ NONE → left < length nodes
  left_within {left} is = side_within nodes left l s.2 (left_told nodes i p l r s left is)

  pub right_within : {right : ℕ} → right ≡ (node_at nodes i).right → right ≢ NONE → right < length nodes
  right_within {right} is = side_within nodes right r s.3 (right_told nodes i p l r s right is)

module _ {nodes : List Node} {number left right : ℕ} {less more : Tree} (loose : IsLoose nodes number left right less more) where
  pub open_left : height_at nodes left ≡ height_at nodes right + 2
      → (sides : Tree × Tree) × IsLeaningLeft nodes number left right sides.0 sides.1 more × (less ≡ Fork left (pair_at nodes left) sides.0 sides.1)
  open_left higher =
      let two : height less ≡ height more + 2 = omega (arith, higher, tree_height nodes left less loose.left_tree, tree_height nodes right more loose.right_tree) in
      let found = opened_at nodes left less loose.left_tree (omega (arith, two)) in
      (found.0, record { loose = subst (λ t. IsLoose nodes number left right t more) found.1 loose; higher = ap height {x = Fork left (pair_at nodes left) found.0.0 found.0.1} (sym found.1) ∙ two }, found.1)

  pub open_right : height_at nodes right ≡ height_at nodes left + 2
      → (sides : Tree × Tree) × IsLeaningRight nodes number left right less sides.0 sides.1 × (more ≡ Fork right (pair_at nodes right) sides.0 sides.1)
  open_right higher =
      let two : height more ≡ height less + 2 = omega (arith, higher, tree_height nodes left less loose.left_tree, tree_height nodes right more loose.right_tree) in
      let found = opened_at nodes right more loose.right_tree (omega (arith, two)) in
      (found.0, record { loose = subst (IsLoose nodes number left right less) found.1 loose; higher = ap height {x = Fork right (pair_at nodes right) found.0.0 found.0.1} (sym found.1) ∙ two }, found.1)

-- what became of the opened trees became of these
pub closed : {old new : List Node} {number root : ℕ} {less more less' more' : Tree} → less ≡ less' → more ≡ more' → (made : Tree) × IsBalancedOver old new number root less' more' made →
    (made : Tree) × IsBalancedOver old new number root less more made
closed {old} {new} {number} {root} {less} {more} {less'} {more'} less_is more_is is =
    subst (λ t. (made : Tree) × IsBalancedOver old new number root t more made) (sym less_is)
    (subst (λ t. (made : Tree) × IsBalancedOver old new number root less' t made) (sym more_is) is)

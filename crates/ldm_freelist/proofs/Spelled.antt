-- What a table that spells a tree says of its nodes, and what is left of it where nodes change.
use Rattle.std.proofs.Common.{◌≡◌, ◌≢◌, ℕ, inl, inr, ◌+◌, ◌<◌, max, List, length, refl, sym, ap, ◌∙◌, subst, arith}
use Rattle.std.proofs.lemmas.List.{get_or-set_other, get_or-set_same}
use Rattle.std.specs.List.{AllByRecursion}
use Rattle.std.proofs.lemmas.List.{length-set}
use Rattle.std.proofs.lemmas.Bool.{ne_eqb, cases_eq, both_ways}
use Rattle.std.proofs.lemmas.Cmp.{tied_itself}
use Rattle.std.specs.Ordering.{is_lt}
use Rattle.std.specs.declared.cmp.Ordering.TheVariants.{Less}
use Rattle.ldm_freelist.specs.Pairs.{pair_cmp}
use Rattle.ldm_freelist.proofs.Sorted.{pairs_total}
use Rattle.ldm_freelist.specs.Nodes.{node_at, pair_at, height_at, joined, free_node, CanJoin}
use Rattle.ldm_freelist.specs.Tree.{Tree, Leaf, Fork, height, root_of, pairs_of, Has, IsNumber, Spells, IsKept}
use Rattle.ldm_freelist.proofs.Order.{parts_of_all, IsCut}
use Rattle.ldm_freelist.specs.declared.node_table.Node.{Node}
use Rattle.ldm_freelist.specs.declared.node_table.TheConstants.{NONE}

pub height_at-NONE : (nodes : List Node) → height_at nodes NONE ≡ 0
unfolding height_at
height_at-NONE nodes = refl

pub height_at-number : (nodes : List Node) (i : ℕ) → i ≢ NONE → height_at nodes i ≡ (node_at nodes i).height
unfolding height_at
height_at-number nodes i named = rw (ne_eqb i NONE named)

-- the height that a root has in the table is that of the tree
pub height_at-root : (nodes : List Node) (t : Tree) → Spells nodes t → height_at nodes (root_of t) ≡ height t
height_at-root nodes Leaf s = height_at-NONE nodes
height_at-root nodes (Fork i p l r) s = height_at-number nodes i s.0.named ∙ ap (λ (n : Node). n.height) s.1

pub root_within : (nodes : List Node) (t : Tree) → Spells nodes t → root_of t ≢ NONE → root_of t < length nodes
root_within nodes Leaf s named = absurd (named refl)
root_within nodes (Fork i p l r) s named = s.0.within

pub pair_at-root : (nodes : List Node) (i : ℕ) (p : ℕ × ℕ) (l r : Tree) → Spells nodes (Fork i p l r) → pair_at nodes i ≡ p
pair_at-root nodes i p l r s = ap (λ (n : Node). let q : ℕ × ℕ = (n.extent, n.offset) in q) s.1

-- what holds of each pair of a tree holds of that of each of its nodes
pub pair_of_node : (nodes : List Node) (P : ℕ × ℕ → Type 0) (t : Tree) (i : ℕ) → Spells nodes t → AllByRecursion P (pairs_of t) → Has i t → P (pair_at nodes i)
pair_of_node nodes P Leaf i s all has = absurd has
pair_of_node nodes P (Fork k p l r) i s all has =
    let parts = parts_of_all P (pairs_of l) p (pairs_of r) all in
    elim has as (λ _. P (pair_at nodes i)) [
      | inl here ↦ subst P (sym (ap (pair_at nodes) here ∙ pair_at-root nodes k p l r s)) parts.1
      | inr (inl left) ↦ pair_of_node nodes P l i s.2 parts.0 left
      | inr (inr right) ↦ pair_of_node nodes P r i s.3 parts.2 right
    ]

pub number_of_node : (nodes : List Node) (t : Tree) (i : ℕ) → Spells nodes t → Has i t → IsNumber nodes i
number_of_node nodes Leaf i s has = absurd has
number_of_node nodes (Fork k p l r) i s has =
    elim has as (λ _. IsNumber nodes i) [
      | inl here ↦ subst (IsNumber nodes) (sym here) s.0
      | inr (inl left) ↦ number_of_node nodes l i s.2 left
      | inr (inr right) ↦ number_of_node nodes r i s.3 right
    ]

pub number_kept : {old new : List Node} {i : ℕ} → length new ≡ length old → IsNumber old i → IsNumber new i
number_kept same h = record { within = omega (arith, same, h.within); named = h.named }

-- a tree none of whose nodes changes stays
pub spells_kept : (old new : List Node) (t : Tree) → length new ≡ length old → ((i : ℕ) → Has i t → node_at new i ≡ node_at old i) → Spells old t → Spells new t
spells_kept old new Leaf long same s = tt
spells_kept old new (Fork k p l r) long same s = (
  number_kept long s.0,
  same k (inl refl) ∙ s.1,
  spells_kept old new l long (λ i h. same i (inr (inl h))) s.2,
  spells_kept old new r long (λ i h. same i (inr (inr h))) s.3,
)

pub length-joined : (nodes : List Node) (i left right : ℕ) → length (joined nodes i left right) ≡ length nodes
unfolding joined
length-joined nodes i left right = length-set nodes i _

pub joined-other : (nodes : List Node) (i left right k : ℕ) → k ≢ i → node_at (joined nodes i left right) k ≡ node_at nodes k
unfolding joined
joined-other nodes i left right k other = get_or-set_other nodes i k _ (free_node NONE) other

pub joined-same : (nodes : List Node) (i left right : ℕ) → i < length nodes → node_at (joined nodes i left right) i ≡ record (node_at nodes i)
    { left = left; right = right; height = max (height_at nodes left) (height_at nodes right) + 1 }
unfolding joined
joined-same nodes i left right within = get_or-set_same nodes i _ (free_node NONE) within

pub not_less : (p : ℕ × ℕ) → ¬ (pair_cmp p p ≡ Less)
not_less p e = both_ways (is_lt (pair_cmp p p)) (ap is_lt (tied_itself pairs_total p)) (ap is_lt e)

-- one node gets two trees as its sides, neither of which has it
pub record IsPlaced (old new : List Node) (number : ℕ) (less more : Tree) : Type 0 where
  pub spelled : Spells new (Fork number (pair_at old number) less more)
  pub kept : IsKept old new (λ i. i ≡ number)

pub can_join : (nodes : List Node) (i : ℕ) (l r : Tree) → IsNumber nodes i → Spells nodes l → Spells nodes r → max (height l) (height r) < 255 → CanJoin nodes i (root_of l) (root_of r)
can_join nodes i l r h sl sr low = record {
  node = h.within;
  left_side = root_within nodes l sl;
  right_side = root_within nodes r sr;
  height_fits = rw (height_at-root nodes l sl, height_at-root nodes r sr) low;
}

pub placed : (nodes : List Node) (i : ℕ) (l r : Tree) → IsNumber nodes i → Spells nodes l → Spells nodes r → ¬ Has i l → ¬ Has i r → IsPlaced nodes (joined nodes i (root_of l) (root_of r)) i l r
placed nodes i l r h sl sr apart_l apart_r =
    let new = joined nodes i (root_of l) (root_of r) in
    let long = length-joined nodes i (root_of l) (root_of r) in
    let same : (k : ℕ) → ¬ (k ≡ i) → node_at new k ≡ node_at nodes k = λ k other. joined-other nodes i (root_of l) (root_of r) k other in
    let here = joined-same nodes i (root_of l) (root_of r) h.within in
    record {
      spelled = (
        number_kept long h,
        here ∙ ap (λ (k : ℕ). record (node_at nodes i) { left = root_of l; right = root_of r; height = max k (height_at nodes (root_of r)) + 1 }) (height_at-root nodes l sl)
            ∙ ap (λ (k : ℕ). record (node_at nodes i) { left = root_of l; right = root_of r; height = max (height l) k + 1 }) (height_at-root nodes r sr),
        spells_kept nodes new l long (λ k has. same k (λ e. apart_l (subst (λ j. Has j l) e has))) sl,
        spells_kept nodes new r long (λ k has. same k (λ e. apart_r (subst (λ j. Has j r) e has))) sr,
      );
      kept = record {
        as_long = long;
        same_pairs = λ k. elim (cases_eq k i) [
          | inl e ↦ ap (pair_at new) e ∙ ap (λ (n : Node). let q : ℕ × ℕ = (n.extent, n.offset) in q) here ∙ sym (ap (pair_at nodes) e)
          | inr other ↦ ap (λ (n : Node). let q : ℕ × ℕ = (n.extent, n.offset) in q) (same k other)
        ];
        others = same;
      };
    }

-- trees apart, from the pairs between which they lie
pub apart_below : (nodes : List Node) (t : Tree) (i : ℕ) → Spells nodes t → AllByRecursion (λ x. pair_cmp x (pair_at nodes i) ≡ Less) (pairs_of t) → ¬ Has i t
apart_below nodes t i s below has = not_less (pair_at nodes i) (pair_of_node nodes (λ x. pair_cmp x (pair_at nodes i) ≡ Less) t i s below has)

pub apart_above : (nodes : List Node) (t : Tree) (i : ℕ) → Spells nodes t → AllByRecursion (λ x. pair_cmp (pair_at nodes i) x ≡ Less) (pairs_of t) → ¬ Has i t
apart_above nodes t i s above has = not_less (pair_at nodes i) (pair_of_node nodes (λ x. pair_cmp (pair_at nodes i) x ≡ Less) t i s above has)

-- of two tables with the same pairs each may spell one of the trees
pub apart_tables : (a b : List Node) (l r : Tree) (p : ℕ × ℕ) (i : ℕ) → pair_at a i ≡ pair_at b i → Spells a l → Spells b r → AllByRecursion (λ x. pair_cmp x p ≡ Less) (pairs_of l) →
    AllByRecursion (λ x. pair_cmp p x ≡ Less) (pairs_of r) → Has i l → ¬ Has i r
apart_tables a b l r p i same sl sr below above in_l in_r =
    not_less (pair_at a i)
    (pairs_total.trans (pair_at a i) p (pair_at a i) (pair_of_node a (λ x. pair_cmp x p ≡ Less) l i sl below in_l)
    (subst (λ x. pair_cmp p x ≡ Less) (sym same) (pair_of_node b (λ x. pair_cmp p x ≡ Less) r i sr above in_r)))

pub apart_sides : (nodes : List Node) (l r : Tree) (p : ℕ × ℕ) (i : ℕ) → Spells nodes l → Spells nodes r → IsCut (pairs_of l) p (pairs_of r) → Has i l → ¬ Has i r
apart_sides nodes l r p i sl sr c = apart_tables nodes nodes l r p i refl sl sr c.below c.above

-- a change at some nodes is one at more, and after another it is one at both
pub kept_more : {old new : List Node} {P Q : ℕ → Type 0} → ((i : ℕ) → P i → Q i) → IsKept old new P → IsKept old new Q
kept_more f k = record { as_long = k.as_long; same_pairs = k.same_pairs; others = λ i out. k.others i (λ h. out (f i h)) }

pub kept_twice : {old mid new : List Node} {P : ℕ → Type 0} → IsKept old mid P → IsKept mid new P → IsKept old new P
kept_twice a b = record {
  as_long = b.as_long ∙ a.as_long;
  same_pairs = λ i. b.same_pairs i ∙ a.same_pairs i;
  others = λ i out. b.others i out ∙ a.others i out;
}

pub spells_outside : (old new : List Node) (P : ℕ → Type 0) (t : Tree) → IsKept old new P → ((i : ℕ) → Has i t → ¬ P i) → Spells old t → Spells new t
spells_outside old new P t k out s = spells_kept old new t k.as_long (λ i has. k.others i (out i has)) s

-- a tree that is not empty has a node at the top
pub opened : (nodes : List Node) (t : Tree) → Spells nodes t → 0 < height t → (sides : Tree × Tree) × (t ≡ Fork (root_of t) (pair_at nodes (root_of t)) sides.0 sides.1)
opened nodes Leaf s h = absurd (omega (arith, h))
opened nodes (Fork k p l r) s h = ((l, r), ap (λ q. Fork k q l r) (sym (pair_at-root nodes k p l r s)))

-- the same, by the name that the code has of its root
pub opened_side : (nodes : List Node) (root : ℕ) (t : Tree) → Spells nodes t → root ≡ root_of t → 0 < height t → (sides : Tree × Tree) × (t ≡ Fork root (pair_at nodes root) sides.0 sides.1)
opened_side nodes root t s is h = subst (λ i. (sides : Tree × Tree) × (t ≡ Fork i (pair_at nodes i) sides.0 sides.1)) (sym is) (opened nodes t s h)

-- what the table tells of the sides of a fork
pub left_told : (nodes : List Node) (i : ℕ) (p : ℕ × ℕ) (l r : Tree) → Spells nodes (Fork i p l r) → (left : ℕ) → left ≡ (node_at nodes i).left → left ≡ root_of l
left_told nodes i p l r s left is = is ∙ ap (λ (n : Node). n.left) s.1

pub right_told : (nodes : List Node) (i : ℕ) (p : ℕ × ℕ) (l r : Tree) → Spells nodes (Fork i p l r) → (right : ℕ) → right ≡ (node_at nodes i).right → right ≡ root_of r
right_told nodes i p l r s right is = is ∙ ap (λ (n : Node). n.right) s.1

-- Trees that a table gets as nodes get sides, one node after another, and what is left of the table.
use Rattle.std.proofs.Common.{◌≡◌, ℕ, inl, inr, ◌⊎◌, ◌<◌, max, List, ◌∷◌, ◌++◌, refl, sym, ap, ◌∙◌, subst}
use Rattle.std.specs.List.{AllByRecursion}
use Rattle.std.specs.declared.cmp.Ordering.TheVariants.{Less}
use Rattle.ldm_freelist.specs.Pairs.{pair_cmp}
use Rattle.ldm_freelist.specs.Nodes.{pair_at, joined, CanJoin}
use Rattle.ldm_freelist.specs.Tree.{Tree, Fork, height, root_of, pairs_of, Has, IsBalanced, IsNumber, Spells, IsKept, IsHeightOver, IsBalancedOver}
use Rattle.ldm_freelist.specs.declared.node_table.Node.{Node}
use Rattle.ldm_freelist.proofs.Order.{Rises, IsCut}
use Rattle.ldm_freelist.proofs.Spelled.{can_join, placed, number_kept, apart_below, apart_above, apart_tables, kept_more, kept_twice, spells_outside}

-- a tree, no node outside which changed
pub record IsBuilt (old new : List Node) (t : Tree) : Type 0 where
  pub spelled : Spells new t
  pub kept : IsKept old new (λ i. Has i t)

-- two trees, no node outside which changed
pub record AreBuilt (old new : List Node) (less more : Tree) : Type 0 where
  pub left : Spells new less
  pub right : Spells new more
  pub kept : IsKept old new (λ i. Has i less ⊎ Has i more)

nothing_changed : {nodes : List Node} {P : ℕ → Type 0} → IsKept nodes nodes P
nothing_changed = record { as_long = refl; same_pairs = λ i. refl; others = λ i out. refl }

pub untouched : {nodes : List Node} {t : Tree} → Spells nodes t → IsBuilt nodes nodes t
untouched s = record { spelled = s; kept = nothing_changed }

pub both_untouched : {nodes : List Node} {less more : Tree} → Spells nodes less → Spells nodes more → AreBuilt nodes nodes less more
both_untouched left right = record { left = left; right = right; kept = nothing_changed }

-- what lies behind the tree that was built, or in front of it, stays
pub stays_behind : {old new : List Node} {less : Tree} (t : Tree) (p : ℕ × ℕ) → IsBuilt old new less → AllByRecursion (λ x. pair_cmp x p ≡ Less) (pairs_of less) →
    AllByRecursion (λ x. pair_cmp p x ≡ Less) (pairs_of t) → Spells old t → Spells new t
stays_behind {old} {new} {less} t p built below above s =
    spells_outside old new (λ i. Has i less) t built.kept (λ i in_t in_less. apart_tables new old less t p i (built.kept.same_pairs i) built.spelled s below above in_less in_t) s

stays_before : {old new : List Node} {more : Tree} (t : Tree) (p : ℕ × ℕ) → IsBuilt old new more → AllByRecursion (λ x. pair_cmp x p ≡ Less) (pairs_of t) →
    AllByRecursion (λ x. pair_cmp p x ≡ Less) (pairs_of more) → Spells old t → Spells new t
stays_before {old} {new} {more} t p built below above s =
    spells_outside old new (λ i. Has i more) t built.kept (λ i in_t in_more. apart_tables old new t more p i (sym (built.kept.same_pairs i)) s built.spelled below above in_t in_more) s

-- first the one in front, and then the one behind
pub side_by_side : {old mid new : List Node} {less more : Tree} {p : ℕ × ℕ} → IsCut (pairs_of less) p (pairs_of more) → IsBuilt old mid less → IsBuilt mid new more → AreBuilt old new less more
side_by_side {less = less} {p = p} around front back = record {
  left = stays_before less p back around.below around.above front.spelled;
  right = back.spelled;
  kept = kept_twice (kept_more (λ i h. inl h) front.kept) (kept_more (λ i h. inr h) back.kept);
}

-- a node over two trees, as the code names their roots
pub can_fork : {old mid : List Node} {number left right : ℕ} {less more : Tree} → AreBuilt old mid less more → IsNumber old number → left ≡ root_of less → right ≡ root_of more →
    max (height less) (height more) < 255 → CanJoin mid number left right
can_fork {old} {mid} {number} {left} {right} {less} {more} built is_number left_is right_is low =
    subst (λ j. CanJoin mid number j right) (sym left_is)
    (subst (CanJoin mid number (root_of less)) (sym right_is) (can_join mid number less more (number_kept built.kept.as_long is_number) built.left built.right low))

pub forked : {old mid new : List Node} {number left right : ℕ} {less more : Tree} → AreBuilt old mid less more → IsNumber old number →
    IsCut (pairs_of less) (pair_at old number) (pairs_of more) → left ≡ root_of less → right ≡ root_of more → new ≡ joined mid number left right →
    IsBuilt old new (Fork number (pair_at old number) less more)
forked {old} {mid} {new} {number} {left} {right} {less} {more} built is_number around left_is right_is new_is =
    let is : joined mid number (root_of less) (root_of more) ≡ new =
    sym (new_is ∙ ap (λ j. joined mid number j right) left_is ∙ ap (joined mid number (root_of less)) right_is) in
    let same = built.kept.same_pairs number in
    let made = placed mid number less more (number_kept built.kept.as_long is_number) built.left built.right
    (apart_below mid less number built.left (subst (λ p. AllByRecursion (λ x. pair_cmp x p ≡ Less) (pairs_of less)) (sym same) around.below))
    (apart_above mid more number built.right (subst (λ p. AllByRecursion (λ x. pair_cmp p x ≡ Less) (pairs_of more)) (sym same) around.above)) in
    subst (λ ns. IsBuilt old ns (Fork number (pair_at old number) less more)) is (record {
      spelled = subst (λ p. Spells (joined mid number (root_of less) (root_of more)) (Fork number p less more)) same made.spelled;
      kept = kept_twice (kept_more (λ i h. inr h) built.kept) (kept_more (λ i e. inl e) made.kept);
    })

-- what was built of a node and two trees
pub over : {nodes new : List Node} {number root : ℕ} {less more made : Tree} → IsBuilt nodes new made → root ≡ root_of made →
    pairs_of made ≡ pairs_of less ++ pair_at nodes number ∷ pairs_of more → Rises (pairs_of less ++ pair_at nodes number ∷ pairs_of more) → IsBalanced made →
    ((i : ℕ) → Has i made → Has i (Fork number (pair_at nodes number) less more)) → IsHeightOver (height less) (height more) (height made) →
    IsBalancedOver nodes new number root less more made
over built root_is same rising balanced inside high = record {
  tree = record { root_is = root_is; spelled = built.spelled; balanced = balanced; rising = subst Rises (sym same) rising };
  same = same;
  inside = inside;
  kept = kept_more inside built.kept;
  height_is = high;
}

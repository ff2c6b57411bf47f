-- A node of a new pair goes into a tree.
use Rattle.std.proofs.Common.{◌≡◌, ◌≢◌, ℕ, Bool, true, false, inl, inr, ◌⊎◌, ◌+◌, ◌<◌, ◌≤◌, max, List, [], ◌∷◌, ◌++◌, length, refl, sym, ap, ◌∙◌, subst, append_assoc, arith}
use Rattle.std.specs.List.{AllByRecursion}
use Rattle.std.specs.List.Sorted.{IsStrictlySortedBy}
use Rattle.std.specs.Ordering.{ordering_reverse, is_gt}
use Rattle.std.specs.declared.cmp.Ordering.{Ordering}
use Rattle.std.specs.declared.cmp.Ordering.TheVariants.{Less, Equal, Greater}
use Rattle.std.proofs.lemmas.Bool.{cases_lt}
use Rattle.ldm_freelist.specs.Pairs.{pair_cmp}
use Rattle.ldm_freelist.specs.Nodes.{node_at, pair_at, height_at}
use Rattle.ldm_freelist.specs.declared.node_table.Node.{Node}
use Rattle.ldm_freelist.specs.declared.node_table.TheConstants.{NONE}
use Rattle.ldm_freelist.specs.Tree.{Tree, Leaf, Fork, height, root_of, pairs_of, Has, IsTree, IsLoose, IsHeightOver, DifferByAtMost, Balances, IsWith, IsAddable, IsAdded, Adds}
use Rattle.ldm_freelist.proofs.Sorted.{pairs_total}
use Rattle.ldm_freelist.proofs.Order.{Rises, IsCut, cut, uncut, parts_of_all}
use Rattle.ldm_freelist.proofs.Spelled.{number_kept, apart_sides, kept_more, kept_twice, spells_outside}
use Rattle.ldm_freelist.proofs.Lean.{tree_height, opened_at}

pub empty_at : (nodes : List Node) (root : ℕ) (t : Tree) → IsTree nodes root t → root ≡ NONE → t ≡ Leaf
empty_at nodes root Leaf is e = refl
empty_at nodes root (Fork k p l r) is e = absurd (is.spelled.0.named (sym is.root_is ∙ e))

pub some_at : (nodes : List Node) (root : ℕ) (t : Tree) → IsTree nodes root t → root ≢ NONE → 0 < height t
some_at nodes root Leaf is named = absurd (named is.root_is)
some_at nodes root (Fork k p l r) is named = omega arith

-- a tree below a root that is a node
pub open_root : (nodes : List Node) (root : ℕ) (t : Tree) → IsTree nodes root t → root ≢ NONE → (sides : Tree × Tree) × (t ≡ Fork root (pair_at nodes root) sides.0 sides.1)
open_root nodes root t is named = opened_at nodes root t is (some_at nodes root t is named)

pub height_grown : (l l' r h : ℕ) → DifferByAtMost 1 l r → l ≤ l' → l' ≤ l + 1 → IsHeightOver l' r h → (max l r + 1 ≤ h) × (h ≤ max l r + 1 + 1)
height_grown l l' r h near up one over =
    elim (cases_lt (r + 1) l') [
      | inl far ↦ (omega (arith, near, up, one, over.0, over.1), omega (arith, near, up, one, over.0, over.1))
      | inr close ↦
          let exact = over.2 (close, omega (arith, near, up)) in
          (omega (arith, near, up, one, exact), omega (arith, near, up, one, exact))
    ]

pub height_grown_right : (l r r' h : ℕ) → DifferByAtMost 1 l r → r ≤ r' → r' ≤ r + 1 → IsHeightOver l r' h → (max l r + 1 ≤ h) × (h ≤ max l r + 1 + 1)
height_grown_right l r r' h near up one over =
    elim (cases_lt (l + 1) r') [
      | inl far ↦ (omega (arith, near, up, one, over.0, over.1), omega (arith, near, up, one, over.0, over.1))
      | inr close ↦
          let exact = over.2 (omega (arith, near, up), close) in
          (omega (arith, near, up, one, exact), omega (arith, near, up, one, exact))
    ]

-- what holds of each pair, with one pair more
pub all_with : (P : ℕ × ℕ → Type 0) (pair : ℕ × ℕ) (more less : List (ℕ × ℕ)) → IsWith pair more less → AllByRecursion P less → P pair → AllByRecursion P more
all_with P pair more less w all here = subst (AllByRecursion P) (sym w.more_is) (among w.front w.back (subst (AllByRecursion P) w.less_is all)) where
  among : (xs ys : List (ℕ × ℕ)) → AllByRecursion P (xs ++ ys) → AllByRecursion P (xs ++ pair ∷ ys)
  among [] ys rest = (here, rest)
  among (x ∷ xs) ys rest = (rest.0, among xs ys rest.1)

-- one pair more on the left, or on the right, is one more in all
pub with_left : (pair : ℕ × ℕ) (more less : List (ℕ × ℕ)) (k : ℕ × ℕ) (rest : List (ℕ × ℕ)) → IsWith pair more less → IsWith pair (more ++ k ∷ rest) (less ++ k ∷ rest)
with_left pair more less k rest w = record {
  front = w.front;
  back = w.back ++ k ∷ rest;
  more_is = ap (λ xs. xs ++ k ∷ rest) w.more_is ∙ append_assoc w.front (pair ∷ w.back) (k ∷ rest);
  less_is = ap (λ xs. xs ++ k ∷ rest) w.less_is ∙ append_assoc w.front w.back (k ∷ rest);
}

pub with_right : (pair : ℕ × ℕ) (more less : List (ℕ × ℕ)) (k : ℕ × ℕ) (rest : List (ℕ × ℕ)) → IsWith pair more less → IsWith pair (rest ++ k ∷ more) (rest ++ k ∷ less)
with_right pair more less k rest w = record {
  front = rest ++ k ∷ w.front;
  back = w.back;
  more_is = ap (λ xs. rest ++ k ∷ xs) w.more_is ∙ sym (append_assoc rest (k ∷ w.front) (pair ∷ w.back));
  less_is = ap (λ xs. rest ++ k ∷ xs) w.less_is ∙ sym (append_assoc rest (k ∷ w.front) w.back);
}

pub with_same : (pair : ℕ × ℕ) (more more' less : List (ℕ × ℕ)) → more' ≡ more → IsWith pair more less → IsWith pair more' less
with_same pair more more' less e w = record { front = w.front; back = w.back; more_is = e ∙ w.more_is; less_is = w.less_is }

-- the pair goes where there is nothing
pub add_first : (nodes : List Node) (root fresh : ℕ) (pair : ℕ × ℕ) (t : Tree) → root ≡ NONE → IsAddable nodes root fresh pair t → (made : Tree) × IsAdded nodes nodes fresh fresh pair t made
unfolding IsStrictlySortedBy
add_first nodes root fresh pair t e can =
    subst (λ s. (made : Tree) × IsAdded nodes nodes fresh fresh pair s made) (sym (empty_at nodes root t can.tree_is e)) (
      Fork fresh pair Leaf Leaf,
      record {
        tree_is = record {
          root_is = refl;
          spelled = (can.is_number, can.fresh_is, tt, tt);
          balanced = ((omega arith, omega arith), tt, tt);
          rising = (tt, tt);
        };
        more = record { front = []; back = []; more_is = refl; less_is = refl };
        inside = λ i h. elim h [ inl e ↦ inl e | inr (inl b) ↦ absurd b | inr (inr b) ↦ absurd b ];
        kept = record { as_long = refl; same_pairs = λ i. refl; others = λ i out. refl };
        height_is = (omega arith, omega arith);
      },
    )

greater_back : (x y : ℕ × ℕ) → pair_cmp x y ≡ Greater → pair_cmp y x ≡ Less
greater_back x y e = pairs_total.antisymm y x ∙ ap ordering_reverse e

less_left : (x y : ℕ × ℕ) → pair_cmp x y ≢ Greater → pair_cmp x y ≢ Equal → pair_cmp x y ≡ Less
less_left x y above tied =
    elim (pair_cmp x y) as (λ o. (o ≡ Greater → ⊥) → (o ≡ Equal → ⊥) → o ≡ Less) [ Less ↦ λ _ _. refl | Equal ↦ λ _ t. absurd (t refl) | Greater ↦ λ a _. absurd (a refl) ] above tied

module _ (nodes : List Node) (root fresh : ℕ) (pair : ℕ × ℕ) (l r : Tree) (can : IsAddable nodes root fresh pair (Fork root (pair_at nodes root) l r)) where
  around : IsCut (pairs_of l) (pair_at nodes root) (pairs_of r)
  around = cut (pairs_of l) (pair_at nodes root) (pairs_of r) can.tree_is.rising

  parts : AllByRecursion (λ p. pair_cmp p pair ≢ Equal) (pairs_of l) × (pair_cmp (pair_at nodes root) pair ≢ Equal) × AllByRecursion (λ p. pair_cmp p pair ≢ Equal) (pairs_of r)
  parts = parts_of_all (λ p. pair_cmp p pair ≢ Equal) (pairs_of l) (pair_at nodes root) (pairs_of r) can.new

  told_left : (left : ℕ) → left ≡ (node_at nodes root).left → left ≡ root_of l
  told_left left is = is ∙ ap (λ (n : Node). n.left) can.tree_is.spelled.1

  told_right : (right : ℕ) → right ≡ (node_at nodes root).right → right ≡ root_of r
  told_right right is = is ∙ ap (λ (n : Node). n.right) can.tree_is.spelled.1

  left_tree : (left : ℕ) → left ≡ (node_at nodes root).left → IsTree nodes left l
  left_tree left is = record { root_is = told_left left is; spelled = can.tree_is.spelled.2; balanced = can.tree_is.balanced.1; rising = around.front }

  right_tree : (right : ℕ) → right ≡ (node_at nodes root).right → IsTree nodes right r
  right_tree right is = record { root_is = told_right right is; spelled = can.tree_is.spelled.3; balanced = can.tree_is.balanced.2; rising = around.back }

  root_height : height_at nodes root ≡ max (height l) (height r) + 1
  root_height = tree_height nodes root (Fork root (pair_at nodes root) l r) can.tree_is

  left_lower : (left : ℕ) → left ≡ (node_at nodes root).left → height_at nodes left < height_at nodes root
  left_lower left is = omega (arith, root_height, tree_height nodes left l (left_tree left is))

  right_lower : (right : ℕ) → right ≡ (node_at nodes root).right → height_at nodes right < height_at nodes root
  right_lower right is = omega (arith, root_height, tree_height nodes right r (right_tree right is))

  can_left : (left : ℕ) → left ≡ (node_at nodes root).left → IsAddable nodes left fresh pair l
  can_left left is = record {
    tree_is = left_tree left is;
    is_number = can.is_number;
    fresh_is = can.fresh_is;
    apart = λ h. can.apart (inr (inl h));
    new = parts.0;
    low = omega (arith, can.low);
  }

  can_right : (right : ℕ) → right ≡ (node_at nodes root).right → IsAddable nodes right fresh pair r
  can_right right is = record {
    tree_is = right_tree right is;
    is_number = can.is_number;
    fresh_is = can.fresh_is;
    apart = λ h. can.apart (inr (inr h));
    new = parts.2;
    low = omega (arith, can.low);
  }

  module _ (mid : List Node) (grown_root left right : ℕ) (is_left : left ≡ (node_at nodes root).left) (is_right : right ≡ (node_at nodes root).right) where
    loose_left : pair_cmp (pair_at nodes root) pair ≡ Greater → (l' : Tree) → IsAdded nodes mid grown_root fresh pair l l' → IsLoose mid root grown_root right l' r
    loose_left order l' added = record {
      is_number = number_kept added.kept.as_long can.tree_is.spelled.0;
      left_tree = added.tree_is;
      right_tree = record {
        root_is = told_right right is_right;
        spelled = spells_outside nodes mid (λ i. (i ≡ fresh) ⊎ Has i l) r added.kept
            (λ i in_r out. elim out [
              | inl e ↦ can.apart (inr (inr (subst (λ j. Has j r) e in_r)))
              | inr in_l ↦ apart_sides nodes l r (pair_at nodes root) i can.tree_is.spelled.2
                  can.tree_is.spelled.3 around in_l in_r
            ])
            can.tree_is.spelled.3;
        balanced = can.tree_is.balanced.2;
        rising = around.back;
      };
      rising = subst (λ k. Rises (pairs_of l' ++ k ∷ pairs_of r)) (sym (added.kept.same_pairs root))
          (uncut (pairs_of l') (pair_at nodes root) (pairs_of r) (record {
            front = added.tree_is.rising;
            below = all_with (λ x. pair_cmp x (pair_at nodes root) ≡ Less) pair (pairs_of l') (pairs_of l) added.more around.below (greater_back (pair_at nodes root) pair order);
            above = around.above;
            back = around.back;
          }));
      near = (omega (arith, can.tree_is.balanced.0, added.height_is), omega (arith, can.tree_is.balanced.0, added.height_is));
      low = omega (arith, can.low, added.height_is);
    }

    loose_right : pair_cmp (pair_at nodes root) pair ≢ Greater → (r' : Tree) → IsAdded nodes mid grown_root fresh pair r r' → IsLoose mid root left grown_root l r'
    loose_right order r' added = record {
      is_number = number_kept added.kept.as_long can.tree_is.spelled.0;
      left_tree = record {
        root_is = told_left left is_left;
        spelled = spells_outside nodes mid (λ i. (i ≡ fresh) ⊎ Has i r) l added.kept
            (λ i in_l out. elim out [
              | inl e ↦ can.apart (inr (inl (subst (λ j. Has j l) e in_l)))
              | inr in_r ↦ apart_sides nodes l r (pair_at nodes root) i can.tree_is.spelled.2
                  can.tree_is.spelled.3 around in_l in_r
            ])
            can.tree_is.spelled.2;
        balanced = can.tree_is.balanced.1;
        rising = around.front;
      };
      right_tree = added.tree_is;
      rising = subst (λ k. Rises (pairs_of l ++ k ∷ pairs_of r')) (sym (added.kept.same_pairs root))
          (uncut (pairs_of l) (pair_at nodes root) (pairs_of r') (record {
            front = around.front;
            below = around.below;
            above = all_with (λ x. pair_cmp (pair_at nodes root) x ≡ Less) pair (pairs_of r') (pairs_of r) added.more around.above (less_left (pair_at nodes root) pair order parts.1);
            back = added.tree_is.rising;
          }));
      near = (omega (arith, can.tree_is.balanced.0, added.height_is), omega (arith, can.tree_is.balanced.0, added.height_is));
      low = omega (arith, can.low, added.height_is);
    }

    grown_left : (new : List Node) (top : ℕ) → pair_cmp (pair_at nodes root) pair ≡ Greater → (l' : Tree) → IsAdded nodes mid grown_root fresh pair l l' →
        Balances mid new root grown_root right top → (made : Tree) × IsAdded nodes new top fresh pair (Fork root (pair_at nodes root) l r) made
    grown_left new top order l' added balances =
        let over = balances l' r (loose_left order l' added) in (
          over.0,
          record {
            tree_is = over.1.tree;
            more = with_same pair (pairs_of l' ++ pair_at nodes root ∷ pairs_of r) (pairs_of over.0) (pairs_of l ++ pair_at nodes root ∷ pairs_of r)
                (over.1.same ∙ ap (λ k. pairs_of l' ++ k ∷ pairs_of r) (added.kept.same_pairs root)) (with_left pair (pairs_of l') (pairs_of l) (pair_at nodes root) (pairs_of r) added.more);
            inside = λ i h. elim (over.1.inside i h) [
              | inl e ↦ inr (inl e)
              | inr (inl in_l) ↦ elim (added.inside i in_l) [ inl e ↦ inl e | inr h ↦ inr (inr (inl h)) ]
              | inr (inr in_r) ↦ inr (inr (inr in_r))
            ];
            kept = kept_twice (kept_more (λ i h. elim h [ inl e ↦ inl e | inr in_l ↦ inr (inr (inl in_l)) ]) added.kept)
                (kept_more (λ i h. elim h [
                  | inl e ↦ inr (inl e)
                  | inr (inl in_l) ↦ elim (added.inside i in_l) [ inl e ↦ inl e | inr h ↦ inr (inr (inl h)) ]
                  | inr (inr in_r) ↦ inr (inr (inr in_r))
                ]) over.1.kept);
            height_is = height_grown (height l) (height l') (height r) (height over.0) can.tree_is.balanced.0 added.height_is.0 added.height_is.1 over.1.height_is;
          },
        )

    grown_right : (new : List Node) (top : ℕ) → pair_cmp (pair_at nodes root) pair ≢ Greater → (r' : Tree) → IsAdded nodes mid grown_root fresh pair r r' →
        Balances mid new root left grown_root top → (made : Tree) × IsAdded nodes new top fresh pair (Fork root (pair_at nodes root) l r) made
    grown_right new top order r' added balances =
        let over = balances l r' (loose_right order r' added) in (
          over.0,
          record {
            tree_is = over.1.tree;
            more = with_same pair (pairs_of l ++ pair_at nodes root ∷ pairs_of r') (pairs_of over.0) (pairs_of l ++ pair_at nodes root ∷ pairs_of r)
                (over.1.same ∙ ap (λ k. pairs_of l ++ k ∷ pairs_of r') (added.kept.same_pairs root)) (with_right pair (pairs_of r') (pairs_of r) (pair_at nodes root) (pairs_of l) added.more);
            inside = λ i h. elim (over.1.inside i h) [
              | inl e ↦ inr (inl e)
              | inr (inl in_l) ↦ inr (inr (inl in_l))
              | inr (inr in_r) ↦ elim (added.inside i in_r) [ inl e ↦ inl e | inr h ↦ inr (inr (inr h)) ]
            ];
            kept = kept_twice (kept_more (λ i h. elim h [ inl e ↦ inl e | inr in_r ↦ inr (inr (inr in_r)) ]) added.kept)
                (kept_more (λ i h. elim h [
                  | inl e ↦ inr (inl e)
                  | inr (inl in_l) ↦ inr (inr (inl in_l))
                  | inr (inr in_r) ↦ elim (added.inside i in_r) [ inl e ↦ inl e | inr h ↦ inr (inr (inr h)) ]
                ]) over.1.kept);
            height_is = height_grown_right (height l) (height r) (height r') (height over.0) can.tree_is.balanced.0 added.height_is.0 added.height_is.1 over.1.height_is;
          },
        )

-- the same for any tree whose root is a node
module _ (nodes : List Node) (root fresh : ℕ) (pair : ℕ × ℕ) (t : Tree) (can : IsAddable nodes root fresh pair t) (named : root ≢ NONE) where
  abbrev sides : Tree × Tree
  sides = (open_root nodes root t can.tree_is named).0

  t_is : t ≡ Fork root (pair_at nodes root) sides.0 sides.1
  t_is = (open_root nodes root t can.tree_is named).1

  can_open : IsAddable nodes root fresh pair (Fork root (pair_at nodes root) sides.0 sides.1)
  can_open = subst (IsAddable nodes root fresh pair) t_is can

  pub root_within : root < length nodes
  root_within = can_open.tree_is.spelled.0.within

  pub root_in_use : 0 < (node_at nodes root).height
  root_in_use = subst (λ (n : Node). 0 < n.height) (sym can_open.tree_is.spelled.1) (omega arith)

  pub addable_left : (left : ℕ) → left ≡ (node_at nodes root).left → (s : Tree) × IsAddable nodes left fresh pair s
  addable_left left is = (sides.0, can_left nodes root fresh pair sides.0 sides.1 can_open left is)

  pub addable_right : (right : ℕ) → right ≡ (node_at nodes root).right → (s : Tree) × IsAddable nodes right fresh pair s
  addable_right right is = (sides.1, can_right nodes root fresh pair sides.0 sides.1 can_open right is)

  pub lower_left : (left : ℕ) → left ≡ (node_at nodes root).left → height_at nodes left < height_at nodes root
  lower_left left is = left_lower nodes root fresh pair sides.0 sides.1 can_open left is

  pub lower_right : (right : ℕ) → right ≡ (node_at nodes root).right → height_at nodes right < height_at nodes root
  lower_right right is = right_lower nodes root fresh pair sides.0 sides.1 can_open right is

  pub loose_after_left : (mid : List Node) (grown left right : ℕ) → left ≡ (node_at nodes root).left → right ≡ (node_at nodes root).right → pair_cmp (pair_at nodes root) pair ≡ Greater →
      Adds nodes mid left fresh pair grown → (trees : Tree × Tree) × IsLoose mid root grown right trees.0 trees.1
  loose_after_left mid grown left right is_left is_right order adds =
      let added = adds sides.0 (can_left nodes root fresh pair sides.0 sides.1 can_open left is_left) in
      ((added.0, sides.1), loose_left nodes root fresh pair sides.0 sides.1 can_open mid grown left right is_left is_right order added.0 added.1)

  pub loose_after_right : (mid : List Node) (grown left right : ℕ) → left ≡ (node_at nodes root).left → right ≡ (node_at nodes root).right → pair_cmp (pair_at nodes root) pair ≢ Greater →
      Adds nodes mid right fresh pair grown → (trees : Tree × Tree) × IsLoose mid root left grown trees.0 trees.1
  loose_after_right mid grown left right is_left is_right order adds =
      let added = adds sides.1 (can_right nodes root fresh pair sides.0 sides.1 can_open right is_right) in
      ((sides.0, added.0), loose_right nodes root fresh pair sides.0 sides.1 can_open mid grown left right is_left is_right order added.0 added.1)

  pub added_left : (mid new : List Node) (grown left right top : ℕ) → left ≡ (node_at nodes root).left → right ≡ (node_at nodes root).right → pair_cmp (pair_at nodes root) pair ≡ Greater →
      Adds nodes mid left fresh pair grown → Balances mid new root grown right top → (made : Tree) × IsAdded nodes new top fresh pair t made
  added_left mid new grown left right top is_left is_right order adds balances =
      let added = adds sides.0 (can_left nodes root fresh pair sides.0 sides.1 can_open left is_left) in
      subst (λ s. (made : Tree) × IsAdded nodes new top fresh pair s made) (sym t_is)
      (grown_left nodes root fresh pair sides.0 sides.1 can_open mid grown left right is_left is_right new top order added.0 added.1 balances)

  pub added_right : (mid new : List Node) (grown left right top : ℕ) → left ≡ (node_at nodes root).left → right ≡ (node_at nodes root).right → pair_cmp (pair_at nodes root) pair ≢ Greater →
      Adds nodes mid right fresh pair grown → Balances mid new root left grown top → (made : Tree) × IsAdded nodes new top fresh pair t made
  added_right mid new grown left right top is_left is_right order adds balances =
      let added = adds sides.1 (can_right nodes root fresh pair sides.0 sides.1 can_open right is_right) in
      subst (λ s. (made : Tree) × IsAdded nodes new top fresh pair s made) (sym t_is)
      (grown_right nodes root fresh pair sides.0 sides.1 can_open mid grown left right is_left is_right new top order added.0 added.1 balances)

-- what the test of an order says
is_Greater : (o : Ordering) → is_gt o ≡ true → o ≡ Greater
is_Greater o e = elim o as (λ q. is_gt q ≡ true → q ≡ Greater) [ Less ↦ λ h. cc | Equal ↦ λ h. cc | Greater ↦ λ h. refl ] e

not_Greater : (o : Ordering) → is_gt o ≡ false → o ≢ Greater
not_Greater o e = elim o as (λ q. is_gt q ≡ false → q ≡ Greater → ⊥) [ Less ↦ λ h g. cc | Equal ↦ λ h g. cc | Greater ↦ λ h g. cc ] e

pub order_Greater : {told order : Ordering} {b : Bool} → told ≡ order → b ≡ is_gt told → b ≡ true → order ≡ Greater
order_Greater {told} is test holds = sym is ∙ is_Greater told (sym test ∙ holds)

pub order_not_Greater : {told order : Ordering} {b : Bool} → told ≡ order → b ≡ is_gt told → b ≡ false → order ≢ Greater
order_not_Greater {told} is test fails e = not_Greater told (sym test ∙ fails) (is ∙ e)

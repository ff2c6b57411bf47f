-- A node goes out of a tree.
use Rattle.std.proofs.Common.{◌≡◌, ◌≢◌, ℕ, inl, inr, ◌+◌, ◌<◌, ◌≤◌, max, List, [], ◌∷◌, ◌++◌, length, refl, sym, ap, ◌∙◌, subst, arith}
use Rattle.std.specs.List.{AllByRecursion}
use Rattle.std.specs.declared.cmp.Ordering.{Ordering}
use Rattle.std.specs.declared.cmp.Ordering.TheVariants.{Less, Equal, Greater}
use Rattle.std.proofs.lemmas.Bool.{cases_lt}
use Rattle.std.proofs.lemmas.Cmp.{tied_itself}
use Rattle.std.proofs.lemmas.List.{append-nil}
use Rattle.ldm_freelist.specs.Pairs.{pair_cmp}
use Rattle.ldm_freelist.specs.Nodes.{node_at, pair_at, height_at}
use Rattle.ldm_freelist.specs.declared.node_table.Node.{Node}
use Rattle.ldm_freelist.specs.declared.node_table.TheConstants.{NONE}
use Rattle.ldm_freelist.specs.Tree.{Tree, Leaf, Fork, height, root_of, pairs_of, Has, HasPair, IsTree}
use Rattle.ldm_freelist.specs.Tree.{IsLoose, IsHeightOver, DifferByAtMost, Balances, IsWith, IsLow, IsTaken, TakesFirst, TakesTop, Takes}
use Rattle.ldm_freelist.proofs.Sorted.{pairs_total, exact_pair}
use Rattle.ldm_freelist.proofs.Order.{Rises, IsCut, cut, uncut, uncut_less, parts_of_all}
use Rattle.ldm_freelist.proofs.Spelled.{number_kept, number_of_node, apart_sides, kept_more, kept_twice, spells_outside, not_less}
use Rattle.ldm_freelist.proofs.Lean.{tree_height}
use Rattle.ldm_freelist.proofs.Insert.{empty_at, open_root, with_left, with_right}

pub height_shrunk : (l l' r h : ℕ) → DifferByAtMost 1 l r → l' ≤ l → l ≤ l' + 1 → IsHeightOver l' r h → (h ≤ max l r + 1) × (max l r + 1 ≤ h + 1)
height_shrunk l l' r h near down one over =
    elim (cases_lt (l' + 1) r) [
      | inl far ↦ (omega (arith, near, down, one, over.0, over.1), omega (arith, near, down, one, over.0, over.1))
      | inr close ↦
          let exact = over.2 (omega (arith, near, down), close) in
          (omega (arith, near, down, one, exact), omega (arith, near, down, one, exact))
    ]

pub height_shrunk_right : (l r r' h : ℕ) → DifferByAtMost 1 l r → r' ≤ r → r ≤ r' + 1 → IsHeightOver l r' h → (h ≤ max l r + 1) × (max l r + 1 ≤ h + 1)
height_shrunk_right l r r' h near down one over =
    elim (cases_lt (r' + 1) l) [
      | inl far ↦ (omega (arith, near, down, one, over.0, over.1), omega (arith, near, down, one, over.0, over.1))
      | inr close ↦
          let exact = over.2 (close, omega (arith, near, down)) in
          (omega (arith, near, down, one, exact), omega (arith, near, down, one, exact))
    ]

-- what holds of each pair, with one pair less
pub all_without : (P : ℕ × ℕ → Type 0) (pair : ℕ × ℕ) (more less : List (ℕ × ℕ)) → IsWith pair more less → AllByRecursion P more → AllByRecursion P less
all_without P pair more less w all = subst (AllByRecursion P) (sym w.less_is) (among w.front w.back (subst (AllByRecursion P) w.more_is all)) where
  among : (xs ys : List (ℕ × ℕ)) → AllByRecursion P (xs ++ pair ∷ ys) → AllByRecursion P (xs ++ ys)
  among [] ys rest = rest.1
  among (x ∷ xs) ys rest = (rest.0, among xs ys rest.1)

pub without_same : (pair : ℕ × ℕ) (more less less' : List (ℕ × ℕ)) → less' ≡ less → IsWith pair more less → IsWith pair more less'
without_same pair more less less' e w = record { front = w.front; back = w.back; more_is = w.more_is; less_is = e ∙ w.less_is }

-- what holds of each pair of a tree holds of one that it has
pub pair_in : (P : ℕ × ℕ → Type 0) (pair : ℕ × ℕ) (t : Tree) → AllByRecursion P (pairs_of t) → HasPair pair t → P pair
pair_in P pair Leaf all has = absurd has
pair_in P pair (Fork k p l r) all has =
    let parts = parts_of_all P (pairs_of l) p (pairs_of r) all in
    elim has as (λ _. P pair) [ inl here ↦ subst P here parts.1 | inr (inl left) ↦ pair_in P pair l parts.0 left | inr (inr right) ↦ pair_in P pair r parts.2 right ]

module _ (nodes : List Node) (root : ℕ) (l r : Tree) (low : IsLow nodes root (Fork root (pair_at nodes root) l r)) where
  abbrev k : ℕ × ℕ
  k = pair_at nodes root

  around : IsCut (pairs_of l) k (pairs_of r)
  around = cut (pairs_of l) k (pairs_of r) low.tree_is.rising

  pub told_left : (left : ℕ) → left ≡ (node_at nodes root).left → left ≡ root_of l
  told_left left is = is ∙ ap (λ (n : Node). n.left) low.tree_is.spelled.1

  pub told_right : (right : ℕ) → right ≡ (node_at nodes root).right → right ≡ root_of r
  told_right right is = is ∙ ap (λ (n : Node). n.right) low.tree_is.spelled.1

  pub left_tree : (left : ℕ) → left ≡ root_of l → IsTree nodes left l
  left_tree left is = record { root_is = is; spelled = low.tree_is.spelled.2; balanced = low.tree_is.balanced.1; rising = around.front }

  pub right_tree : (right : ℕ) → right ≡ root_of r → IsTree nodes right r
  right_tree right is = record { root_is = is; spelled = low.tree_is.spelled.3; balanced = low.tree_is.balanced.2; rising = around.back }

  pub left_low : (left : ℕ) → left ≡ root_of l → IsLow nodes left l
  left_low left is = record { tree_is = left_tree left is; low = omega (arith, low.low) }

  pub right_low : (right : ℕ) → right ≡ root_of r → IsLow nodes right r
  right_low right is = record { tree_is = right_tree right is; low = omega (arith, low.low) }

  pub left_lower : (left : ℕ) → left ≡ root_of l → height_at nodes left < height_at nodes root
  left_lower left is = omega (arith, tree_height nodes root (Fork root k l r) low.tree_is, tree_height nodes left l (left_tree left is))

  pub right_lower : (right : ℕ) → right ≡ root_of r → height_at nodes right < height_at nodes root
  right_lower right is = omega (arith, tree_height nodes root (Fork root k l r) low.tree_is, tree_height nodes right r (right_tree right is))

  module _ (mid : List Node) (cut_root taken : ℕ) where
    kept_right : (right : ℕ) → right ≡ root_of r → (l' : Tree) → IsTaken nodes mid cut_root taken l l' → IsTree mid right r
    kept_right right is l' gone = record {
      root_is = is;
      spelled = spells_outside nodes mid (λ i. Has i l) r gone.kept (λ i in_r in_l. apart_sides nodes l r k i low.tree_is.spelled.2 low.tree_is.spelled.3 around in_l in_r) low.tree_is.spelled.3;
      balanced = low.tree_is.balanced.2;
      rising = around.back;
    }

    kept_left : (left : ℕ) → left ≡ root_of l → (r' : Tree) → IsTaken nodes mid cut_root taken r r' → IsTree mid left l
    kept_left left is r' gone = record {
      root_is = is;
      spelled = spells_outside nodes mid (λ i. Has i r) l gone.kept (λ i in_l in_r. apart_sides nodes l r k i low.tree_is.spelled.2 low.tree_is.spelled.3 around in_l in_r) low.tree_is.spelled.2;
      balanced = low.tree_is.balanced.1;
      rising = around.front;
    }

    pub loose_left : (right : ℕ) → right ≡ root_of r → (l' : Tree) → IsTaken nodes mid cut_root taken l l' → IsLoose mid root cut_root right l' r
    loose_left right is l' gone = record {
      is_number = number_kept gone.kept.as_long low.tree_is.spelled.0;
      left_tree = gone.tree_is;
      right_tree = kept_right right is l' gone;
      rising = subst (λ p. Rises (pairs_of l' ++ p ∷ pairs_of r)) (sym (gone.kept.same_pairs root))
          (uncut (pairs_of l') k (pairs_of r) (record {
            front = gone.tree_is.rising;
            below = all_without (λ x. pair_cmp x k ≡ Less) (pair_at nodes taken) (pairs_of l) (pairs_of l') gone.less around.below;
            above = around.above;
            back = around.back;
          }));
      near = (omega (arith, low.tree_is.balanced.0, gone.height_is), omega (arith, low.tree_is.balanced.0, gone.height_is));
      low = omega (arith, low.low, gone.height_is);
    }

    pub loose_right : (left : ℕ) → left ≡ root_of l → (r' : Tree) → IsTaken nodes mid cut_root taken r r' → IsLoose mid root left cut_root l r'
    loose_right left is r' gone = record {
      is_number = number_kept gone.kept.as_long low.tree_is.spelled.0;
      left_tree = kept_left left is r' gone;
      right_tree = gone.tree_is;
      rising = subst (λ p. Rises (pairs_of l ++ p ∷ pairs_of r')) (sym (gone.kept.same_pairs root))
          (uncut (pairs_of l) k (pairs_of r') (record {
            front = around.front;
            below = around.below;
            above = all_without (λ x. pair_cmp k x ≡ Less) (pair_at nodes taken) (pairs_of r) (pairs_of r') gone.less around.above;
            back = gone.tree_is.rising;
          }));
      near = (omega (arith, low.tree_is.balanced.0, gone.height_is), omega (arith, low.tree_is.balanced.0, gone.height_is));
      low = omega (arith, low.low, gone.height_is);
    }

    pub shrunk_left : (new : List Node) (right top : ℕ) → right ≡ root_of r → (l' : Tree) → IsTaken nodes mid cut_root taken l l' → Balances mid new root cut_root right top →
        (made : Tree) × IsTaken nodes new top taken (Fork root k l r) made × (pairs_of made ≡ pairs_of l' ++ k ∷ pairs_of r)
    shrunk_left new right top is l' gone balances =
        let over = balances l' r (loose_left right is l' gone) in
        let same = over.1.same ∙ ap (λ p. pairs_of l' ++ p ∷ pairs_of r) (gone.kept.same_pairs root) in (
          over.0,
          record {
            tree_is = over.1.tree;
            less = without_same (pair_at nodes taken) (pairs_of l ++ k ∷ pairs_of r) (pairs_of l' ++ k ∷ pairs_of r) (pairs_of over.0) same
                (with_left (pair_at nodes taken) (pairs_of l) (pairs_of l') k (pairs_of r) gone.less);
            inside = λ i h. elim (over.1.inside i h) [ inl e ↦ inl e | inr (inl in_l) ↦ inr (inl (gone.inside i in_l)) | inr (inr in_r) ↦ inr (inr in_r) ];
            taken_is = inr (inl gone.taken_is);
            kept = kept_twice (kept_more (λ i h. inr (inl h)) gone.kept)
                (kept_more (λ i h. elim h [ inl e ↦ inl e | inr (inl in_l) ↦ inr (inl (gone.inside i in_l)) | inr (inr in_r) ↦ inr (inr in_r) ]) over.1.kept);
            height_is = height_shrunk (height l) (height l') (height r) (height over.0) low.tree_is.balanced.0 gone.height_is.0 gone.height_is.1 over.1.height_is;
          },
          same,
        )

    pub shrunk_right : (new : List Node) (left top : ℕ) → left ≡ root_of l → (r' : Tree) → IsTaken nodes mid cut_root taken r r' → Balances mid new root left cut_root top →
        (made : Tree) × IsTaken nodes new top taken (Fork root k l r) made
    shrunk_right new left top is r' gone balances =
        let over = balances l r' (loose_right left is r' gone) in
        let same = over.1.same ∙ ap (λ p. pairs_of l ++ p ∷ pairs_of r') (gone.kept.same_pairs root) in (
          over.0,
          record {
            tree_is = over.1.tree;
            less = without_same (pair_at nodes taken) (pairs_of l ++ k ∷ pairs_of r) (pairs_of l ++ k ∷ pairs_of r') (pairs_of over.0) same
                (with_right (pair_at nodes taken) (pairs_of r) (pairs_of r') k (pairs_of l) gone.less);
            inside = λ i h. elim (over.1.inside i h) [ inl e ↦ inl e | inr (inl in_l) ↦ inr (inl in_l) | inr (inr in_r) ↦ inr (inr (gone.inside i in_r)) ];
            taken_is = inr (inr gone.taken_is);
            kept = kept_twice (kept_more (λ i h. inr (inr h)) gone.kept)
                (kept_more (λ i h. elim h [ inl e ↦ inl e | inr (inl in_l) ↦ inr (inl in_l) | inr (inr in_r) ↦ inr (inr (gone.inside i in_r)) ]) over.1.kept);
            height_is = height_shrunk_right (height l) (height r) (height r') (height over.0) low.tree_is.balanced.0 gone.height_is.0 gone.height_is.1 over.1.height_is;
          },
        )

    -- the first node of the right side gets over both
    pub loose_top : (left : ℕ) → left ≡ root_of l → (r' : Tree) → IsTaken nodes mid cut_root taken r r' → pairs_of r ≡ pair_at nodes taken ∷ pairs_of r' → IsLoose mid taken left cut_root l r'
    loose_top left is r' gone first = record {
      is_number = number_kept gone.kept.as_long (number_of_node nodes r taken low.tree_is.spelled.3 gone.taken_is);
      left_tree = kept_left left is r' gone;
      right_tree = gone.tree_is;
      rising = subst (λ p. Rises (pairs_of l ++ p ∷ pairs_of r')) (sym (gone.kept.same_pairs taken)) (subst (λ xs. Rises (pairs_of l ++ xs)) first (uncut_less (pairs_of l) (pairs_of r) k around));
      near = (omega (arith, low.tree_is.balanced.0, gone.height_is), omega (arith, low.tree_is.balanced.0, gone.height_is));
      low = omega (arith, low.low, gone.height_is);
    }

    pub shrunk_top : (new : List Node) (left top : ℕ) → left ≡ root_of l → (r' : Tree) → IsTaken nodes mid cut_root taken r r' → pairs_of r ≡ pair_at nodes taken ∷ pairs_of r' →
        Balances mid new taken left cut_root top →
        (made : Tree) × IsTaken nodes new top root (Fork root k l r) made
    shrunk_top new left top is r' gone first balances =
        let over = balances l r' (loose_top left is r' gone first) in (
          over.0,
          record {
            tree_is = over.1.tree;
            less = record {
              front = pairs_of l;
              back = pairs_of r;
              more_is = refl;
              less_is = over.1.same ∙ ap (λ p. pairs_of l ++ p ∷ pairs_of r') (gone.kept.same_pairs taken) ∙ ap (λ xs. pairs_of l ++ xs) (sym first);
            };
            inside = λ i h. elim (over.1.inside i h) [
              | inl e ↦ inr (inr (subst (λ j. Has j r) (sym e) gone.taken_is))
              | inr (inl in_l) ↦ inr (inl in_l)
              | inr (inr in_r) ↦ inr (inr (gone.inside i in_r))
            ];
            taken_is = inl refl;
            kept = kept_twice (kept_more (λ i h. inr (inr h)) gone.kept)
                (kept_more (λ i h. elim h [
                  | inl e ↦ inr (inr (subst (λ j. Has j r) (sym e) gone.taken_is))
                  | inr (inl in_l) ↦ inr (inl in_l)
                  | inr (inr in_r) ↦ inr (inr (gone.inside i in_r))
                ]) over.1.kept);
            height_is = height_shrunk_right (height l) (height r) (height r') (height over.0) low.tree_is.balanced.0 gone.height_is.0 gone.height_is.1 over.1.height_is;
          },
        )

  -- there is nothing on the right
  pub top_alone : (left : ℕ) → left ≡ root_of l → r ≡ Leaf → (made : Tree) × IsTaken nodes nodes left root (Fork root k l r) made
  top_alone left is none = (
    l,
    record {
      tree_is = left_tree left is;
      less = record { front = pairs_of l; back = []; more_is = ap (λ t. pairs_of l ++ k ∷ pairs_of t) none; less_is = sym (append-nil (pairs_of l)) };
      inside = λ i h. inr (inl h);
      taken_is = inl refl;
      kept = record { as_long = refl; same_pairs = λ i. refl; others = λ i out. refl };
      height_is = (omega (arith, ap height none), omega (arith, ap height none));
    },
  )

  -- there is nothing on the left
  pub first_alone : (right : ℕ) → right ≡ root_of r → l ≡ Leaf → (made : Tree) × IsTaken nodes nodes right root (Fork root k l r) made × (pairs_of (Fork root k l r) ≡ k ∷ pairs_of made)
  first_alone right is none = (
    r,
    record {
      tree_is = right_tree right is;
      less = record { front = []; back = pairs_of r; more_is = ap (λ t. pairs_of t ++ k ∷ pairs_of r) none; less_is = refl };
      inside = λ i h. inr (inr h);
      taken_is = inl refl;
      kept = record { as_long = refl; same_pairs = λ i. refl; others = λ i out. refl };
      height_is = (omega (arith, ap height none), omega (arith, ap height none));
    },
    ap (λ t. pairs_of t ++ k ∷ pairs_of r) none,
  )

  -- on which side a pair is
  pub pair_left : (pair : ℕ × ℕ) → pair_cmp k pair ≡ Greater → HasPair pair (Fork root k l r) → HasPair pair l
  pair_left pair order has = elim has [
    | inl here ↦ absurd (let e : Equal ≡ Greater = sym (tied_itself pairs_total k) ∙ ap (pair_cmp k) here ∙ order in cc)
    | inr (inl in_l) ↦ in_l
    | inr (inr in_r) ↦ absurd (let e : Less ≡ Greater = sym (pair_in (λ x. pair_cmp k x ≡ Less) pair r around.above in_r) ∙ order in cc)
  ]

  pub pair_right : (pair : ℕ × ℕ) → pair_cmp k pair ≡ Less → HasPair pair (Fork root k l r) → HasPair pair r
  pair_right pair order has = elim has [
    | inl here ↦ absurd (let e : Equal ≡ Less = sym (tied_itself pairs_total k) ∙ ap (pair_cmp k) here ∙ order in cc)
    | inr (inl in_l) ↦ absurd (not_less k (pairs_total.trans k pair k order (pair_in (λ x. pair_cmp x k ≡ Less) pair l around.below in_l)))
    | inr (inr in_r) ↦ in_r
  ]

-- what the code does, for any tree whose root is a node
module _ (nodes : List Node) (root : ℕ) (t : Tree) (low : IsLow nodes root t) (named : root ≢ NONE) where
  abbrev l : Tree
  l = (open_root nodes root t low.tree_is named).0.0

  abbrev r : Tree
  r = (open_root nodes root t low.tree_is named).0.1

  t_is : t ≡ Fork root (pair_at nodes root) l r
  t_is = (open_root nodes root t low.tree_is named).1

  open_low : IsLow nodes root (Fork root (pair_at nodes root) l r)
  open_low = subst (IsLow nodes root) t_is low

  pub low_within : root < length nodes
  low_within = open_low.tree_is.spelled.0.within

  pub low_in_use : 0 < (node_at nodes root).height
  low_in_use = subst (λ (n : Node). 0 < n.height) (sym open_low.tree_is.spelled.1) (omega arith)

  module _ (left right : ℕ) (is_left : left ≡ (node_at nodes root).left) (is_right : right ≡ (node_at nodes root).right) where
    left_root : left ≡ root_of l
    left_root = told_left nodes root l r open_low left is_left

    right_root : right ≡ root_of r
    right_root = told_right nodes root l r open_low right is_right

    pub lower_left : height_at nodes left < height_at nodes root
    lower_left = left_lower nodes root l r open_low left left_root

    pub lower_right : height_at nodes right < height_at nodes root
    lower_right = right_lower nodes root l r open_low right right_root

    pub low_left : (s : Tree) × IsLow nodes left s
    low_left = (l, left_low nodes root l r open_low left left_root)

    pub first_at_top : left ≡ NONE → (rest : Tree) × IsTaken nodes nodes right root t rest × (pairs_of t ≡ pair_at nodes root ∷ pairs_of rest)
    first_at_top none =
        subst (λ s. (rest : Tree) × IsTaken nodes nodes right root s rest × (pairs_of s ≡ pair_at nodes root ∷ pairs_of rest)) (sym t_is)
        (first_alone nodes root l r open_low right right_root (empty_at nodes left l (left_tree nodes root l r open_low left left_root) none))

    pub loose_after_first : (mid : List Node) (answer : ℕ × ℕ) → TakesFirst nodes mid left answer → (trees : Tree × Tree) × IsLoose mid root answer.0 right trees.0 trees.1
    loose_after_first mid answer takes =
        let gone = takes l (left_low nodes root l r open_low left left_root) in
        ((gone.0, r), loose_left nodes root l r open_low mid answer.0 answer.1 right right_root gone.0 gone.1)

    pub took_first : (mid new : List Node) (answer : ℕ × ℕ) (top : ℕ) → TakesFirst nodes mid left answer → Balances mid new root answer.0 right top →
        (rest : Tree) × IsTaken nodes new top answer.1 t rest × (pairs_of t ≡ pair_at nodes answer.1 ∷ pairs_of rest)
    took_first mid new answer top takes balances =
        let gone = takes l (left_low nodes root l r open_low left left_root) in
        let done = shrunk_left nodes root l r open_low mid answer.0 answer.1 new right top right_root gone.0 gone.1 balances in
        let same = ap pairs_of t_is ∙ ap (λ xs. xs ++ pair_at nodes root ∷ pairs_of r) gone.2 ∙ ap (λ xs. pair_at nodes answer.1 ∷ xs) (sym done.2) in
        (done.0, subst (λ s. IsTaken nodes new top answer.1 s done.0) (sym t_is) done.1, same)

    open_pair : (pair : ℕ × ℕ) → HasPair pair t → HasPair pair (Fork root (pair_at nodes root) l r)
    open_pair pair = subst (HasPair pair) t_is

    pub there_left : (pair : ℕ × ℕ) → pair_cmp (pair_at nodes root) pair ≡ Greater → HasPair pair t → (s : Tree) × IsLow nodes left s × HasPair pair s
    there_left pair order has = (l, left_low nodes root l r open_low left left_root, pair_left nodes root l r open_low pair order (open_pair pair has))

    pub there_right : (pair : ℕ × ℕ) → pair_cmp (pair_at nodes root) pair ≡ Less → HasPair pair t → (s : Tree) × IsLow nodes right s × HasPair pair s
    there_right pair order has = (r, right_low nodes root l r open_low right right_root, pair_right nodes root l r open_low pair order (open_pair pair has))

    pub there_top : (trees : Tree × Tree) × IsLow nodes root (Fork root (pair_at nodes root) trees.0 trees.1) × (left ≡ root_of trees.0) × (right ≡ root_of trees.1)
    there_top = ((l, r), open_low, left_root, right_root)

    pub loose_after_left : (mid : List Node) (pair : ℕ × ℕ) (answer : ℕ × ℕ) → pair_cmp (pair_at nodes root) pair ≡ Greater → HasPair pair t → Takes nodes mid left pair answer →
        (trees : Tree × Tree) × IsLoose mid root answer.0 right trees.0 trees.1
    unfolding there_left
    loose_after_left mid pair answer order has takes =
        let s = there_left pair order has in
        let gone = takes l s.1 s.2 in
        ((gone.0, r), loose_left nodes root l r open_low mid answer.0 answer.1 right right_root gone.0 gone.1)

    pub loose_after_right : (mid : List Node) (pair : ℕ × ℕ) (answer : ℕ × ℕ) → pair_cmp (pair_at nodes root) pair ≡ Less → HasPair pair t → Takes nodes mid right pair answer →
        (trees : Tree × Tree) × IsLoose mid root left answer.0 trees.0 trees.1
    unfolding there_right
    loose_after_right mid pair answer order has takes =
        let s = there_right pair order has in
        let gone = takes r s.1 s.2 in
        ((l, gone.0), loose_right nodes root l r open_low mid answer.0 answer.1 left left_root gone.0 gone.1)

    pub took_left : (mid new : List Node) (pair : ℕ × ℕ) (answer : ℕ × ℕ) (top : ℕ) → pair_cmp (pair_at nodes root) pair ≡ Greater → HasPair pair t → Takes nodes mid left pair answer →
        Balances mid new root answer.0 right top →
        (rest : Tree) × IsTaken nodes new top answer.1 t rest × (pair_at nodes answer.1 ≡ pair)
    unfolding there_left
    took_left mid new pair answer top order has takes balances =
        let s = there_left pair order has in
        let gone = takes l s.1 s.2 in
        let done = shrunk_left nodes root l r open_low mid answer.0 answer.1 new right top right_root gone.0 gone.1 balances in
        (done.0, subst (λ s. IsTaken nodes new top answer.1 s done.0) (sym t_is) done.1, gone.2)

    pub took_right : (mid new : List Node) (pair : ℕ × ℕ) (answer : ℕ × ℕ) (top : ℕ) → pair_cmp (pair_at nodes root) pair ≡ Less → HasPair pair t → Takes nodes mid right pair answer →
        Balances mid new root left answer.0 top →
        (rest : Tree) × IsTaken nodes new top answer.1 t rest × (pair_at nodes answer.1 ≡ pair)
    unfolding there_right
    took_right mid new pair answer top order has takes balances =
        let s = there_right pair order has in
        let gone = takes r s.1 s.2 in
        let done = shrunk_right nodes root l r open_low mid answer.0 answer.1 new left top left_root gone.0 gone.1 balances in
        (done.0, subst (λ s. IsTaken nodes new top answer.1 s done.0) (sym t_is) done.1, gone.2)

    pub took_top : (new : List Node) (pair : ℕ × ℕ) (top : ℕ) → pair_cmp (pair_at nodes root) pair ≡ Equal → TakesTop nodes new root left right top →
        (rest : Tree) × IsTaken nodes new top root t rest × (pair_at nodes root ≡ pair)
    took_top new pair top order takes =
        let done = takes l r open_low left_root right_root in
        (done.0, subst (λ s. IsTaken nodes new top root s done.0) (sym t_is) done.1, exact_pair (pair_at nodes root) pair order)

pub has_named : (nodes : List Node) (root : ℕ) (pair : ℕ × ℕ) (t : Tree) → IsTree nodes root t → HasPair pair t → root ≢ NONE
has_named nodes root pair Leaf is has e = has
has_named nodes root pair (Fork i p l r) is has e = is.spelled.0.named (sym is.root_is ∙ e)

pub order_is : {told order answer : Ordering} → told ≡ order → told ≡ answer → order ≡ answer
order_is is answer = sym is ∙ answer

-- The tree and the chain of a set's nodes, and what an addition and a removal leave of them.
use Rattle.std.proofs.Common.{◌≡◌, ◌≢◌, ℕ, zero, suc, Bool, true, false, not, ◌&&◌, ◌||◌, inl, inr, ◌+◌, ◌<◌}
use Rattle.std.proofs.Common.{◌≤◌, cond, List, [], ◌∷◌, ◌++◌, length, slice_set, refl, sym, ap, ◌∙◌, subst, length-append, arith}
use Rattle.std.specs.FinSet as set
use Rattle.std.specs.List.{AllByRecursion, list_any}
use Rattle.std.specs.List.Sorted.{IsStrictlySortedBy}
use Rattle.std.specs.Ordering.{eq_by_cmp, is_eq, ordering_reverse}
use Rattle.std.specs.declared.cmp.Ordering.{Ordering}
use Rattle.std.specs.declared.cmp.Ordering.TheVariants.{Less, Equal, Greater}
use Rattle.std.proofs.lemmas.Bool.{ne_eqb, both_ways}
use Rattle.std.proofs.lemmas.List.{length-set, get_or-set_other, get_or-set_same}
use Rattle.std.proofs.lemmas.List.Folds.{list_any-append}
use Rattle.ldm_freelist.specs.Pairs.{pair_cmp}
use Rattle.ldm_freelist.specs.Nodes.{node_at, pair_at, height_at, leaf_node, free_node, free_nodes, before}
use Rattle.ldm_freelist.specs.Tree.{Tree, Leaf, Fork, height, root_of, pairs_of, Has, HasPair, IsNumber, Spells, IsTree, IsWith, IsAddable, IsAdded, IsLow, IsTaken}
use Rattle.ldm_freelist.specs.Held.{tree_within, tree_at, IsChain, IsHeld}
use Rattle.ldm_freelist.specs.declared.node_table.Node.{Node}
use Rattle.ldm_freelist.specs.declared.node_table.TheConstants.{NONE}
use Rattle.ldm_freelist.proofs.Sorted.{pairs_total, exact_pair, len-from_sorted}
use Rattle.ldm_freelist.proofs.Order.{Rises, cut}
use Rattle.ldm_freelist.proofs.Spelled.{number_kept, number_of_node, pair_of_node, pair_at-root, spells_kept, not_less, height_at-root}
use Rattle.ldm_freelist.proofs.Lean.{tree_height}
use Rattle.ldm_freelist.proofs.Bound.{height_low}

tree_within_is : (levels : ℕ) (nodes : List Node) (t : Tree) → Spells nodes t → height t ≤ levels → tree_within levels nodes (root_of t) ≡ t
tree_within_is zero nodes Leaf s h = refl
tree_within_is zero nodes (Fork k p l r) s h = absurd (omega (arith, h))
tree_within_is (suc levels) nodes Leaf s h = refl
tree_within_is (suc levels) nodes (Fork k p l r) s h =
    let left = tree_within_is levels nodes l s.2 (omega (arith, h)) in
    let right = tree_within_is levels nodes r s.3 (omega (arith, h)) in
    ap (λ b. cond b Leaf (Fork k (pair_at nodes k) (tree_within levels nodes (node_at nodes k).left) (tree_within levels nodes (node_at nodes k).right))) (ne_eqb k NONE s.0.named)
    ∙ ap (λ q. Fork k q (tree_within levels nodes (node_at nodes k).left) (tree_within levels nodes (node_at nodes k).right)) (pair_at-root nodes k p l r s)
    ∙ ap (λ i. Fork k p (tree_within levels nodes i) (tree_within levels nodes (node_at nodes k).right)) (ap (λ (n : Node). n.left) s.1)
    ∙ ap (λ i. Fork k p (tree_within levels nodes (root_of l)) (tree_within levels nodes i)) (ap (λ (n : Node). n.right) s.1)
    ∙ ap (λ t. Fork k p t (tree_within levels nodes (root_of r))) left
    ∙ ap (Fork k p l) right

pub tree_at_is : (nodes : List Node) (root : ℕ) (t : Tree) → IsTree nodes root t → tree_at nodes root ≡ t
unfolding tree_at
tree_at_is nodes root t is =
    ap (λ i. tree_within (height_at nodes i) nodes i) is.root_is ∙ ap (λ n. tree_within n nodes (root_of t)) (height_at-root nodes t is.spelled)
    ∙ tree_within_is (height t) nodes t is.spelled (omega arith)

-- a chain none of whose nodes changes stays
chain_kept : (old new : List Node) (first : ℕ) (chain : List ℕ) → length old ≤ length new → AllByRecursion (λ j. node_at new j ≡ node_at old j) chain → IsChain old first chain →
    IsChain new first chain
chain_kept old new first [] long same is = is
chain_kept old new first (i ∷ rest) long same is = (
  is.0,
  record { within = omega (arith, long, is.1.within); named = is.1.named },
  ap (λ (n : Node). n.height) same.0 ∙ is.2,
  is.3,
  subst (λ next. IsChain new next rest) (ap (λ (n : Node). n.left) (sym same.0)) (chain_kept old new (node_at old i).left rest long same.1 is.4),
)

-- what holds of each node that is free holds of each of the chain
chain_each : (nodes : List Node) (P Q : ℕ → Type 0) (first : ℕ) (chain : List ℕ) → ((j : ℕ) → (node_at nodes j).height ≡ 0 → P j → Q j) → AllByRecursion P chain → IsChain nodes first chain →
    AllByRecursion Q chain
chain_each nodes P Q first [] each all is = tt
chain_each nodes P Q first (i ∷ rest) each all is = (each i is.2 all.0, chain_each nodes P Q (node_at nodes i).left rest each all.1 is.4)

any_at_all : (chain : List ℕ) → AllByRecursion (λ (j : ℕ). Unit {0}) chain
any_at_all [] = tt
any_at_all (i ∷ rest) = (tt, any_at_all rest)

-- a node of a tree is in use
pub node_in_use : (nodes : List Node) (t : Tree) (i : ℕ) → Spells nodes t → Has i t → 0 < (node_at nodes i).height
node_in_use nodes Leaf i s has = absurd has
node_in_use nodes (Fork k p l r) i s has =
    elim has as (λ _. 0 < (node_at nodes i).height) [
      | inl here ↦ subst (λ j. 0 < (node_at nodes j).height) (sym here) (subst (λ (n : Node). 0 < n.height) (sym s.1) (omega arith))
      | inr (inl left) ↦ node_in_use nodes l i s.2 left
      | inr (inr right) ↦ node_in_use nodes r i s.3 right
    ]

not_free : (nodes : List Node) (t : Tree) (i : ℕ) → Spells nodes t → (node_at nodes i).height ≡ 0 → ¬ Has i t
not_free nodes t i s free has = omega (arith, free, node_in_use nodes t i s has)

pub list_any-with : (p : ℕ × ℕ → Bool) (pair : ℕ × ℕ) (more less : List (ℕ × ℕ)) → IsWith pair more less → list_any p more ≡ (p pair || list_any p less)
list_any-with p pair more less w =
    ap (list_any p) w.more_is ∙ list_any-append p w.front (pair ∷ w.back) ∙ swapped (list_any p w.front) (p pair) (list_any p w.back)
    ∙ ap (λ b. p pair || b) (sym (ap (list_any p) w.less_is ∙ list_any-append p w.front w.back)) where
      swapped : (a b c : Bool) → (a || (b || c)) ≡ (b || (a || c))
      swapped true true c = refl
      swapped true false c = refl
      swapped false b c = refl

pub length-with : (pair : ℕ × ℕ) (more less : List (ℕ × ℕ)) → IsWith pair more less → length more ≡ length less + 1
length-with pair more less w = omega (arith, ap length w.more_is, ap length w.less_is, length-append w.front (pair ∷ w.back), length-append w.front w.back)

-- what a list holds more is what the set of it has more
pub members_with : (pair : ℕ × ℕ) (more less : List (ℕ × ℕ)) → IsWith pair more less → set.from_list {R = pair_cmp} more ≡ set.insert (set.from_list less) pair
members_with pair more less w = set.same_set pairs_total exact_pair _ _ (λ q.
    set.contains-from_list pairs_total more q ∙ list_any-with (eq_by_cmp pair_cmp q) pair more less w
    ∙ sym (set.contains-insert pairs_total (set.from_list less) pair q ∙ ap (λ b. eq_by_cmp pair_cmp q pair || b) (set.contains-from_list pairs_total less q)))

none_other : (pair : ℕ × ℕ) (xs : List (ℕ × ℕ)) → AllByRecursion (λ x. x ≢ pair) xs → list_any (eq_by_cmp pair_cmp pair) xs ≡ false
none_other pair [] all = refl
none_other pair (x ∷ xs) all =
    elim (pair_cmp pair x) as (λ o. pair_cmp pair x ≡ o → (is_eq o || list_any (eq_by_cmp pair_cmp pair) xs) ≡ false) [
      | Less ↦ λ e. none_other pair xs all.1
      | Equal ↦ λ e. absurd (all.0 (sym (exact_pair pair x e)))
      | Greater ↦ λ e. none_other pair xs all.1
    ] refl

without : (q x : ℕ × ℕ) (rest : List (ℕ × ℕ)) → list_any (eq_by_cmp pair_cmp x) rest ≡ false →
    list_any (eq_by_cmp pair_cmp q) rest ≡ (not (eq_by_cmp pair_cmp q x) && (eq_by_cmp pair_cmp q x || list_any (eq_by_cmp pair_cmp q) rest))
without q x rest none =
    elim (pair_cmp q x) as (λ r. pair_cmp q x ≡ r → list_any (eq_by_cmp pair_cmp q) rest ≡ (not (is_eq r) && (is_eq r || list_any (eq_by_cmp pair_cmp q) rest))) [
      | Less ↦ λ e. refl
      | Equal ↦ λ e. ap (λ k. list_any (eq_by_cmp pair_cmp k) rest) (exact_pair q x e) ∙ none
      | Greater ↦ λ e. refl
    ] refl

-- a pair of what rises is none of the others
apart_in : (pair : ℕ × ℕ) (more less : List (ℕ × ℕ)) → IsWith pair more less → Rises more → AllByRecursion (λ x. x ≢ pair) less
apart_in pair more less w up =
    let c = cut w.front pair w.back (subst Rises w.more_is up) in
    subst (AllByRecursion (λ x. x ≢ pair)) (sym w.less_is) (both w.front w.back c.below c.above) where
      above_all : (ys : List (ℕ × ℕ)) → AllByRecursion (λ x. pair_cmp pair x ≡ Less) ys → AllByRecursion (λ x. x ≢ pair) ys
      above_all [] all = tt
      above_all (y ∷ ys) all = (λ e. not_less pair (subst (λ x. pair_cmp pair x ≡ Less) e all.0), above_all ys all.1)

      both : (xs ys : List (ℕ × ℕ)) → AllByRecursion (λ x. pair_cmp x pair ≡ Less) xs → AllByRecursion (λ x. pair_cmp pair x ≡ Less) ys → AllByRecursion (λ x. x ≢ pair) (xs ++ ys)
      both [] ys below above = above_all ys above
      both (x ∷ xs) ys below above = (λ e. not_less pair (subst (λ z. pair_cmp z pair ≡ Less) e below.0), both xs ys below.1 above)

-- what a list holds less is what the set of it has less
pub members_without : (pair : ℕ × ℕ) (more less : List (ℕ × ℕ)) → IsWith pair more less → Rises more → set.from_list {R = pair_cmp} less ≡ set.remove (set.from_list more) pair
members_without pair more less w up =
    let none = none_other pair less (apart_in pair more less w up) in
    set.same_set pairs_total exact_pair _ _ (λ q.
    set.contains-from_list pairs_total less q ∙ without q pair less none
    ∙ sym (set.contains-remove pairs_total (set.from_list more) pair q ∙ ap (λ b. not (eq_by_cmp pair_cmp q pair) && b)
    (set.contains-from_list pairs_total more q ∙ list_any-with (eq_by_cmp pair_cmp q) pair more less w)))

-- a member is a pair of the tree
pub member_pair : (pair : ℕ × ℕ) (t : Tree) → set.contains (set.from_list {R = pair_cmp} (pairs_of t)) pair ≡ true → HasPair pair t
member_pair pair t there = among t (sym (set.contains-from_list pairs_total (pairs_of t) pair) ∙ there) where
  among : (t : Tree) → list_any (eq_by_cmp pair_cmp pair) (pairs_of t) ≡ true → HasPair pair t
  among Leaf any = both_ways false refl any
  among (Fork k p l r) any =
      let parts = sym (list_any-append (eq_by_cmp pair_cmp pair) (pairs_of l) (p ∷ pairs_of r)) ∙ any in
      elim (list_any (eq_by_cmp pair_cmp pair) (pairs_of l)) as (λ b. list_any (eq_by_cmp pair_cmp pair) (pairs_of l) ≡ b →
      (b || (eq_by_cmp pair_cmp pair p || list_any (eq_by_cmp pair_cmp pair) (pairs_of r))) ≡ true → HasPair pair (Fork k p l r)) [
        | true ↦ λ e _. inr (inl (among l e))
        | false ↦ λ _ rest. elim (pair_cmp pair p) as (λ o. pair_cmp pair p ≡ o → (is_eq o || list_any (eq_by_cmp pair_cmp pair) (pairs_of r)) ≡ true → HasPair pair (Fork k p l r)) [
          | Less ↦ λ _ in_r. inr (inr (among r in_r))
          | Equal ↦ λ e _. inl (sym (exact_pair pair p e))
          | Greater ↦ λ _ in_r. inr (inr (among r in_r))
        ] refl rest
      ] refl parts

-- a pair that is no member ties with none of the tree
pub not_member : (pair : ℕ × ℕ) (xs : List (ℕ × ℕ)) → set.contains (set.from_list {R = pair_cmp} xs) pair ≡ false → AllByRecursion (λ p. pair_cmp p pair ≢ Equal) xs
not_member pair xs none = among xs (sym (set.contains-from_list pairs_total xs pair) ∙ none) where
  among : (ys : List (ℕ × ℕ)) → list_any (eq_by_cmp pair_cmp pair) ys ≡ false → AllByRecursion (λ p. pair_cmp p pair ≢ Equal) ys
  among [] any = tt
  among (y ∷ ys) any =
      elim (pair_cmp pair y) as (λ o. pair_cmp pair y ≡ o → (is_eq o || list_any (eq_by_cmp pair_cmp pair) ys) ≡ false → AllByRecursion (λ p. pair_cmp p pair ≢ Equal) (y ∷ ys)) [
        | Less ↦ λ e rest. (λ tie. apart Less e tie (λ h. cc), among ys rest)
        | Equal ↦ λ e rest. absurd (both_ways true rest refl)
        | Greater ↦ λ e rest. (λ tie. apart Greater e tie (λ h. cc), among ys rest)
      ] refl any where
        apart : (o : Ordering) → pair_cmp pair y ≡ o → pair_cmp y pair ≡ Equal → (o ≡ Equal → ⊥) → ⊥
        apart o e tie other = other (sym e ∙ pairs_total.antisymm pair y ∙ ap ordering_reverse tie)

-- the numbers below a number, the greatest first
abbrev pub down_from : ℕ → List ℕ
down_from zero = []
down_from (suc n) = n ∷ down_from n

pub length-free_nodes : (room : ℕ) → length (free_nodes room) ≡ room
length-free_nodes zero = refl
length-free_nodes (suc n) = omega (arith, length-append (free_nodes n) (free_node (before n) ∷ []), length-free_nodes n)

length-down_from : (n : ℕ) → length (down_from n) ≡ n
length-down_from zero = refl
length-down_from (suc n) = omega (arith, length-down_from n)

down_below : (m n : ℕ) → n ≤ m → AllByRecursion (λ j. j < m) (down_from n)
down_below m zero h = tt
down_below m (suc n) h = (omega (arith, h), down_below m n (omega (arith, h)))

down_other : (m n : ℕ) → n ≤ m → AllByRecursion (λ j. m ≢ j) (down_from n)
down_other m zero h = tt
down_other m (suc n) h = (omega (arith, h), down_other m n (omega (arith, h)))

made_chain : (room : ℕ) → room ≤ NONE → IsChain (free_nodes room) (before room) (down_from room)
made_chain zero h = refl
made_chain (suc n) h =
    let old = free_nodes n in
    let new = free_nodes n ++ free_node (before n) ∷ [] in
    let count = length-free_nodes n in
    let long = length-append old (free_node (before n) ∷ []) in
    let here : node_at new n ≡ free_node (before n) = last_node old n (free_node (before n)) (sym count) in
    let same : AllByRecursion (λ j. node_at new j ≡ node_at old j) (down_from n) = each_same old (free_node (before n)) n (omega (arith, count)) in (
      refl,
      record { within = omega (arith, count, long); named = omega (arith, h) },
      ap (λ (k : Node). k.height) here,
      down_other n n (omega arith),
      subst (λ next. IsChain new next (down_from n)) (ap (λ (k : Node). k.left) (sym here)) (chain_kept old new (before n) (down_from n) (omega (arith, long)) same (made_chain n (omega (arith, h)))),
    ) where
      last_node : (xs : List Node) (i : ℕ) (x : Node) → i ≡ length xs → node_at (xs ++ x ∷ []) i ≡ x
      last_node [] i x e = ap (node_at (x ∷ [])) e
      last_node (y ∷ ys) zero x e = absurd (omega (arith, e))
      last_node (y ∷ ys) (suc i) x e = last_node ys i x (omega (arith, e))

      other_node : (xs : List Node) (i : ℕ) (x : Node) → i < length xs → node_at (xs ++ x ∷ []) i ≡ node_at xs i
      other_node [] i x h = absurd (omega (arith, h))
      other_node (y ∷ ys) zero x h = refl
      other_node (y ∷ ys) (suc i) x h = other_node ys i x (omega (arith, h))

      each_same : (xs : List Node) (x : Node) (m : ℕ) → m ≤ length xs → AllByRecursion (λ j. node_at (xs ++ x ∷ []) j ≡ node_at xs j) (down_from m)
      each_same xs x zero h = tt
      each_same xs x (suc m) h = (other_node xs m x (omega (arith, h)), each_same xs x m (omega (arith, h)))

-- an empty table of free nodes
pub made_held : (room : ℕ) → room ≤ NONE → IsHeld (free_nodes room) NONE (before room) Leaf (down_from room)
unfolding IsStrictlySortedBy
made_held room h = record {
  tree_is = record { root_is = refl; spelled = tt; balanced = tt; rising = tt };
  chain_is = made_chain room h;
  whole = omega (arith, length-free_nodes room, length-down_from room);
  numbered = omega (arith, length-free_nodes room, h);
}

module _ (nodes : List Node) (root free : ℕ) (tree : Tree) (chain : List ℕ) (held : IsHeld nodes root free tree chain) where
  -- the set has as many pairs as the tree
  pub count_is : set.len (set.from_list {R = pair_cmp} (pairs_of (tree_at nodes root))) ≡ length (pairs_of tree)
  count_is = ap (λ t. set.len (set.from_list {R = pair_cmp} (pairs_of t))) (tree_at_is nodes root tree held.tree_is) ∙ len-from_sorted (pairs_of tree) held.tree_is.rising

  pub held_low : height tree ≤ 64
  held_low = height_low tree held.tree_is.balanced (omega (arith, held.whole, held.numbered))

  pub held_root_low : height_at nodes root ≤ 64
  held_root_low = omega (arith, held_low, tree_height nodes root tree held.tree_is)

  pub members_are : set.from_list {R = pair_cmp} (pairs_of (tree_at nodes root)) ≡ set.from_list (pairs_of tree)
  members_are = ap (λ t. set.from_list {R = pair_cmp} (pairs_of t)) (tree_at_is nodes root tree held.tree_is)

  -- where there is room, a node is free
  pub held_first : length (pairs_of tree) < length nodes → (rest : List ℕ) × (chain ≡ free ∷ rest)
  held_first room = among chain held.chain_is (omega (arith, held.whole, room)) where
    among : (c : List ℕ) → IsChain nodes free c → 0 < length c → (rest : List ℕ) × (c ≡ free ∷ rest)
    among [] is some = absurd (omega (arith, some))
    among (i ∷ rest) is some = (rest, ap (λ (k : ℕ). k ∷ rest) (sym is.0))

-- a pair goes into the first free node, and that into the tree
module _ (nodes : List Node) (root free : ℕ) (tree : Tree) (rest : List ℕ) (held : IsHeld nodes root free tree (free ∷ rest)) (pair : ℕ × ℕ) where
  abbrev filled : List Node
  filled = slice_set nodes free (leaf_node pair.0 pair.1)

  free_out : ¬ Has free tree
  free_out = not_free nodes tree free held.tree_is.spelled held.chain_is.2

  pub free_within : free < length nodes
  free_within = held.chain_is.1.within

  other : (i : ℕ) → i ≢ free → node_at filled i ≡ node_at nodes i
  other i apart = get_or-set_other nodes free i (leaf_node pair.0 pair.1) (free_node NONE) apart

  pub addable : AllByRecursion (λ p. pair_cmp p pair ≢ Equal) (pairs_of tree) → IsAddable filled root free pair tree
  addable new = record {
    tree_is = record {
      root_is = held.tree_is.root_is;
      spelled = spells_kept nodes filled tree (length-set nodes free (leaf_node pair.0 pair.1)) (λ i has. other i (λ e. free_out (subst (λ j. Has j tree) e has))) held.tree_is.spelled;
      balanced = held.tree_is.balanced;
      rising = held.tree_is.rising;
    };
    is_number = number_kept (length-set nodes free (leaf_node pair.0 pair.1)) held.chain_is.1;
    fresh_is = get_or-set_same nodes free (leaf_node pair.0 pair.1) (free_node NONE) free_within;
    apart = free_out;
    new = new;
    low = omega (arith, held_low nodes root free tree (free ∷ rest) held);
  }

  pub added_held : (new : List Node) (top : ℕ) (made : Tree) → IsAdded filled new top free pair tree made → IsHeld new top (node_at nodes free).left made rest
  added_held new top made added = record {
    tree_is = added.tree_is;
    chain_is = chain_kept nodes new (node_at nodes free).left rest (omega (arith, added.kept.as_long, length-set nodes free (leaf_node pair.0 pair.1)))
        (chain_each nodes (λ j. free ≢ j) (λ j. node_at new j ≡ node_at nodes j) (node_at nodes free).left rest
        (λ j unused apart. added.kept.others j (λ h. elim h [ inl e ↦ apart (sym e) | inr has ↦ not_free nodes tree j held.tree_is.spelled unused has ]) ∙ other j (λ e. apart (sym e)))
        held.chain_is.3 held.chain_is.4) held.chain_is.4;
    whole = omega (arith, held.whole, length-with pair (pairs_of made) (pairs_of tree) added.more, added.kept.as_long, length-set nodes free (leaf_node pair.0 pair.1));
    numbered = omega (arith, held.numbered, added.kept.as_long, length-set nodes free (leaf_node pair.0 pair.1));
  }

-- a node goes out of the tree, and in front of the free ones
module _ (nodes : List Node) (root free : ℕ) (tree : Tree) (chain : List ℕ) (held : IsHeld nodes root free tree chain) where
  pub detachable : IsLow nodes root tree
  detachable = record { tree_is = held.tree_is; low = omega (arith, held_low nodes root free tree chain held) }

  module _ (mid : List Node) (top node : ℕ) (pair : ℕ × ℕ) (rest : Tree) (taken : IsTaken nodes mid top node tree rest) (is_pair : pair_at nodes node ≡ pair) where
    abbrev cleared : List Node
    cleared = slice_set mid node (free_node free)

    pub taken_with : IsWith pair (pairs_of tree) (pairs_of rest)
    taken_with = subst (λ q. IsWith q (pairs_of tree) (pairs_of rest)) is_pair taken.less

    node_number : IsNumber nodes node
    node_number = number_of_node nodes tree node held.tree_is.spelled taken.taken_is

    pub node_within : node < length mid
    node_within = omega (arith, node_number.within, taken.kept.as_long)

    node_out : ¬ Has node rest
    node_out has = pair_of_node mid (λ x. x ≢ pair) rest node taken.tree_is.spelled (apart_in pair (pairs_of tree) (pairs_of rest) taken_with held.tree_is.rising) has
        (taken.kept.same_pairs node ∙ is_pair)

    other_cleared : (i : ℕ) → i ≢ node → node_at cleared i ≡ node_at mid i
    other_cleared i apart = get_or-set_other mid node i (free_node free) (free_node NONE) apart

    here : node_at cleared node ≡ free_node free
    here = get_or-set_same mid node (free_node free) (free_node NONE) node_within

    unused_other : (j : ℕ) → (node_at nodes j).height ≡ 0 → node ≢ j
    unused_other j unused e = not_free nodes tree j held.tree_is.spelled unused (subst (λ i. Has i tree) e taken.taken_is)

    pub taken_held : IsHeld cleared top node rest (node ∷ chain)
    taken_held = record {
      tree_is = record {
        root_is = taken.tree_is.root_is;
        spelled = spells_kept mid cleared rest (length-set mid node (free_node free)) (λ i has. other_cleared i (λ e. node_out (subst (λ j. Has j rest) e has))) taken.tree_is.spelled;
        balanced = taken.tree_is.balanced;
        rising = taken.tree_is.rising;
      };
      chain_is = (
        refl,
        record { within = omega (arith, node_within, length-set mid node (free_node free)); named = node_number.named },
        ap (λ (n : Node). n.height) here,
        chain_each nodes (λ j. Unit {0}) (λ j. node ≢ j) free chain (λ j unused _. unused_other j unused) (any_at_all chain) held.chain_is,
        subst (λ next. IsChain cleared next chain) (ap (λ (n : Node). n.left) (sym here))
            (chain_kept nodes cleared free chain (omega (arith, taken.kept.as_long, length-set mid node (free_node free)))
            (chain_each nodes (λ j. Unit {0}) (λ j. node_at cleared j ≡ node_at nodes j) free chain
            (λ j unused _. other_cleared j (λ e. unused_other j unused (sym e)) ∙ taken.kept.others j (λ has. not_free nodes tree j held.tree_is.spelled unused has))
            (any_at_all chain) held.chain_is) held.chain_is),
      );
      whole = omega (arith, held.whole, length-with pair (pairs_of tree) (pairs_of rest) taken_with, taken.kept.as_long, length-set mid node (free_node free));
      numbered = omega (arith, held.numbered, taken.kept.as_long, length-set mid node (free_node free));
    }

-- The first pair of a tree that does not precede a bound, and the last pair of a tree.
use Rattle.std.proofs.Common.{◌≡◌, ◌≢◌, ℕ, Bool, true, false, inl, inr, ◌+◌, ◌<◌, ◌≤◌, List, [], ◌∷◌, ◌++◌, length, Option, Some, None, refl, sym, ap, ◌∙◌, subst, append_assoc, cond, ltb, arith}
use Rattle.std.specs.List.{AllByRecursion}
use Rattle.std.specs.Ordering.{is_lt}
use Rattle.std.specs.declared.cmp.Ordering.{Ordering}
use Rattle.std.specs.declared.cmp.Ordering.TheVariants.{Less, Equal, Greater}
use Rattle.std.proofs.lemmas.Bool.{lt-ltb, le-ltb}
use Rattle.std.proofs.lemmas.Bool.Decides.{nat_tests}
use Rattle.ldm_freelist.specs.Pairs.{pair_cmp, first_from_bound}
use Rattle.ldm_freelist.specs.Nodes.{node_at, pair_at, height_at}
use Rattle.ldm_freelist.specs.declared.node_table.Node.{Node}
use Rattle.ldm_freelist.specs.declared.node_table.TheConstants.{NONE}
use Rattle.ldm_freelist.specs.Tree.{Tree, Fork, pairs_of, Has, IsTree, Finds, FindsTo, IsLast, found_or, last_to_bound}
use Rattle.ldm_freelist.proofs.Sorted.{pairs_total}
use Rattle.ldm_freelist.proofs.Order.{IsCut, cut}
use Rattle.ldm_freelist.proofs.Spelled.{height_at-NONE}
use Rattle.ldm_freelist.proofs.Lean.{tree_height}
use Rattle.ldm_freelist.proofs.Insert.{empty_at, open_root}

is_Less : (o : Ordering) → is_lt o ≡ true → o ≡ Less
is_Less o e = elim o as (λ q. is_lt q ≡ true → q ≡ Less) [ Less ↦ λ h. refl | Equal ↦ λ h. cc | Greater ↦ λ h. cc ] e

-- what precedes a pair that precedes the bound precedes it too
skip_below : (bound : ℕ × ℕ) (xs : List (ℕ × ℕ)) (y : ℕ × ℕ) (ys : List (ℕ × ℕ)) → AllByRecursion (λ x. pair_cmp x y ≡ Less) xs → pair_cmp y bound ≡ Less →
    first_from_bound bound (xs ++ y ∷ ys) ≡ first_from_bound bound ys
skip_below bound [] y ys below low = ap (λ o. cond (is_lt o) (first_from_bound bound ys) (Some y)) low
skip_below bound (x ∷ xs) y ys below low =
    ap (λ o. cond (is_lt o) (first_from_bound bound (xs ++ y ∷ ys)) (Some x)) (pairs_total.trans x y bound below.0 low)
    ∙ skip_below bound xs y ys below.1 low

-- a pair that does not precede the bound is the answer, unless there is one before it
stop_above : (bound : ℕ × ℕ) (xs : List (ℕ × ℕ)) (y : ℕ × ℕ) (ys : List (ℕ × ℕ)) (other : Option (ℕ × ℕ)) → is_lt (pair_cmp y bound) ≡ false →
    found_or (first_from_bound bound (xs ++ y ∷ ys)) other ≡ found_or (first_from_bound bound xs) (Some y)
stop_above bound [] y ys other high = ap (λ b. found_or (cond b (first_from_bound bound ys) (Some y)) other) high
stop_above bound (x ∷ xs) y ys other high =
    elim (is_lt (pair_cmp x bound)) as (λ b. found_or (cond b (first_from_bound bound (xs ++ y ∷ ys)) (Some x)) other ≡ found_or (cond b (first_from_bound bound xs) (Some x)) (Some y)) [
      | true ↦ stop_above bound xs y ys other high
      | false ↦ refl
    ]

-- of two pairs in order the first has no greater extent
less_first : (p q : ℕ × ℕ) → pair_cmp p q ≡ Less → p.0 ≤ q.0
less_first p q h = grind (arith, nat_tests, h)

-- where a pair is above a bound, all behind it are
none_above : (most : ℕ) (y : ℕ × ℕ) (ys : List (ℕ × ℕ)) → most < y.0 → AllByRecursion (λ z. pair_cmp y z ≡ Less) ys → last_to_bound most ys ≡ None
none_above most y [] high above = refl
none_above most y (z ∷ zs) high above =
    let le = less_first y z above.0 in
    ap (λ b. cond b (last_to_bound most zs) (found_or (last_to_bound most zs) (Some z))) (lt-ltb most z.0 (omega arith)) ∙ none_above most y zs high above.1

skip_above : (most : ℕ) (xs : List (ℕ × ℕ)) (y : ℕ × ℕ) (ys : List (ℕ × ℕ)) → most < y.0 → AllByRecursion (λ z. pair_cmp y z ≡ Less) ys →
    last_to_bound most (xs ++ y ∷ ys) ≡ last_to_bound most xs
skip_above most [] y ys high above =
    ap (λ b. cond b (last_to_bound most ys) (found_or (last_to_bound most ys) (Some y))) (lt-ltb most y.0 high) ∙ none_above most y ys high above
skip_above most (x ∷ xs) y ys high above =
    ap (λ o. cond (ltb most x.0) o (found_or o (Some x))) (skip_above most xs y ys high above)

some_stays : (o : Option (ℕ × ℕ)) (y : ℕ × ℕ) (other : Option (ℕ × ℕ)) → found_or (found_or o (Some y)) other ≡ found_or o (Some y)
some_stays None y other = refl
some_stays (Some p) y other = refl

-- a pair that is not above the bound is the answer, unless there is one behind it
stop_below : (most : ℕ) (xs : List (ℕ × ℕ)) (y : ℕ × ℕ) (ys : List (ℕ × ℕ)) (other : Option (ℕ × ℕ)) → y.0 ≤ most →
    found_or (last_to_bound most (xs ++ y ∷ ys)) other ≡ found_or (last_to_bound most ys) (Some y)
stop_below most [] y ys other low =
    ap (λ b. found_or (cond b (last_to_bound most ys) (found_or (last_to_bound most ys) (Some y))) other) (le-ltb most y.0 low)
    ∙ some_stays (last_to_bound most ys) y other
stop_below most (x ∷ xs) y ys other low =
    elim (ltb most x.0) as (λ b. found_or (cond b (last_to_bound most (xs ++ y ∷ ys)) (found_or (last_to_bound most (xs ++ y ∷ ys)) (Some x))) other ≡ found_or (last_to_bound most ys) (Some y)) [
      | true ↦ stop_below most xs y ys other low
      | false ↦ ap (λ o. found_or o other) (stop_below most xs y ys (Some x) low) ∙ some_stays (last_to_bound most ys) y other
    ]

module _ (nodes : List Node) (root : ℕ) (t : Tree) (is : IsTree nodes root t) (named : root ≢ NONE) where
  abbrev l : Tree
  l = (open_root nodes root t is named).0.0

  abbrev r : Tree
  r = (open_root nodes root t is named).0.1

  abbrev k : ℕ × ℕ
  k = pair_at nodes root

  t_is : t ≡ Fork root k l r
  t_is = (open_root nodes root t is named).1

  open_is : IsTree nodes root (Fork root k l r)
  open_is = subst (IsTree nodes root) t_is is

  around : IsCut (pairs_of l) k (pairs_of r)
  around = cut (pairs_of l) k (pairs_of r) open_is.rising

  pub tree_root_within : root < length nodes
  tree_root_within = open_is.spelled.0.within

  pub tree_root_in_use : 0 < (node_at nodes root).height
  tree_root_in_use = subst (λ (n : Node). 0 < n.height) (sym open_is.spelled.1) (omega arith)

  left_is : (left : ℕ) → left ≡ (node_at nodes root).left → IsTree nodes left l
  left_is left e = record { root_is = e ∙ ap (λ (n : Node). n.left) open_is.spelled.1; spelled = open_is.spelled.2; balanced = open_is.balanced.1; rising = around.front }

  right_is : (right : ℕ) → right ≡ (node_at nodes root).right → IsTree nodes right r
  right_is right e = record { root_is = e ∙ ap (λ (n : Node). n.right) open_is.spelled.1; spelled = open_is.spelled.3; balanced = open_is.balanced.2; rising = around.back }

  pub tree_left : (left : ℕ) → left ≡ (node_at nodes root).left → (s : Tree) × IsTree nodes left s
  tree_left left e = (l, left_is left e)

  pub tree_right : (right : ℕ) → right ≡ (node_at nodes root).right → (s : Tree) × IsTree nodes right s
  tree_right right e = (r, right_is right e)

  pub tree_left_lower : (left : ℕ) → left ≡ (node_at nodes root).left → height_at nodes left < height_at nodes root
  tree_left_lower left e = omega (arith, tree_height nodes root (Fork root k l r) open_is, tree_height nodes left l (left_is left e))

  pub tree_right_lower : (right : ℕ) → right ≡ (node_at nodes root).right → height_at nodes right < height_at nodes root
  tree_right_lower right e = omega (arith, tree_height nodes root (Fork root k l r) open_is, tree_height nodes right r (right_is right e))

  -- neither side is more than two levels lower
  pub tree_left_near : (left : ℕ) → left ≡ (node_at nodes root).left → height_at nodes root ≤ height_at nodes left + 2
  tree_left_near left e = omega (arith, tree_height nodes root (Fork root k l r) open_is, tree_height nodes left l (left_is left e), open_is.balanced.0)

  pub tree_right_near : (right : ℕ) → right ≡ (node_at nodes root).right → height_at nodes root ≤ height_at nodes right + 2
  tree_right_near right e = omega (arith, tree_height nodes root (Fork root k l r) open_is, tree_height nodes right r (right_is right e), open_is.balanced.0)

  pub found_right : (bound : ℕ × ℕ) (other answer : Option (ℕ × ℕ)) (right : ℕ) → right ≡ (node_at nodes root).right → is_lt (pair_cmp k bound) ≡ true →
      Finds nodes right bound other answer → answer ≡ found_or (first_from_bound bound (pairs_of t)) other
  found_right bound other answer right e low finds =
      finds r (right_is right e)
      ∙ ap (λ o. found_or o other) (sym (skip_below bound (pairs_of l) k (pairs_of r) around.below (is_Less (pair_cmp k bound) low)))
      ∙ ap (λ s. found_or (first_from_bound bound (pairs_of s)) other) (sym t_is)

  pub found_left : (bound : ℕ × ℕ) (other answer : Option (ℕ × ℕ)) (left : ℕ) → left ≡ (node_at nodes root).left → is_lt (pair_cmp k bound) ≡ false →
      Finds nodes left bound (Some k) answer → answer ≡ found_or (first_from_bound bound (pairs_of t)) other
  found_left bound other answer left e high finds =
      finds l (left_is left e)
      ∙ sym (stop_above bound (pairs_of l) k (pairs_of r) other high)
      ∙ ap (λ s. found_or (first_from_bound bound (pairs_of s)) other) (sym t_is)

  pub found_above : (most : ℕ) (other answer : Option (ℕ × ℕ)) (left : ℕ) → left ≡ (node_at nodes root).left → most < k.0 →
      FindsTo nodes left most other answer → answer ≡ found_or (last_to_bound most (pairs_of t)) other
  found_above most other answer left e high finds =
      finds l (left_is left e)
      ∙ ap (λ o. found_or o other) (sym (skip_above most (pairs_of l) k (pairs_of r) high around.above))
      ∙ ap (λ s. found_or (last_to_bound most (pairs_of s)) other) (sym t_is)

  pub found_below : (most : ℕ) (other answer : Option (ℕ × ℕ)) (right : ℕ) → right ≡ (node_at nodes root).right → k.0 ≤ most →
      FindsTo nodes right most (Some k) answer → answer ≡ found_or (last_to_bound most (pairs_of t)) other
  found_below most other answer right e low finds =
      finds r (right_is right e)
      ∙ sym (stop_below most (pairs_of l) k (pairs_of r) other low)
      ∙ ap (λ s. found_or (last_to_bound most (pairs_of s)) other) (sym t_is)

  pub last_top : (right : ℕ) → right ≡ (node_at nodes root).right → right ≡ NONE → Has root t × ((front : List (ℕ × ℕ)) × (pairs_of t ≡ front ++ k ∷ []))
  last_top right e none =
      subst (λ s. Has root s × ((front : List (ℕ × ℕ)) × (pairs_of s ≡ front ++ k ∷ []))) (sym t_is)
      (inl refl, (pairs_of l, ap (λ s. pairs_of l ++ k ∷ pairs_of s) (empty_at nodes right r (right_is right e) none)))

  pub last_right : (right number : ℕ) → right ≡ (node_at nodes root).right → IsLast nodes right number → Has number t × ((front : List (ℕ × ℕ)) × (pairs_of t ≡ front ++ pair_at nodes number ∷ []))
  last_right right number e last =
      let there = last r (right_is right e) in
      subst (λ s. Has number s × ((front : List (ℕ × ℕ)) × (pairs_of s ≡ front ++ pair_at nodes number ∷ []))) (sym t_is)
      (inr (inr there.0), (pairs_of l ++ k ∷ there.1.0, ap (λ xs. pairs_of l ++ k ∷ xs) there.1.1 ∙ sym (append_assoc (pairs_of l) (k ∷ there.1.0) (pair_at nodes number ∷ []))))

pub found_none : (nodes : List Node) (root : ℕ) (t : Tree) (bound : ℕ × ℕ) (other : Option (ℕ × ℕ)) → IsTree nodes root t → root ≡ NONE → other ≡ found_or (first_from_bound bound (pairs_of t)) other
found_none nodes root t bound other is none = ap (λ s. found_or (first_from_bound bound (pairs_of s)) other) (sym (empty_at nodes root t is none))

pub found_none_to : (nodes : List Node) (root : ℕ) (t : Tree) (most : ℕ) (other : Option (ℕ × ℕ)) → IsTree nodes root t → root ≡ NONE → other ≡ found_or (last_to_bound most (pairs_of t)) other
found_none_to nodes root t most other is none = ap (λ s. found_or (last_to_bound most (pairs_of s)) other) (sym (empty_at nodes root t is none))

-- what the test of an order says
pub test_of : {told order : Ordering} {b answer : Bool} → told ≡ order → b ≡ is_lt told → b ≡ answer → is_lt order ≡ answer
test_of is test holds = ap is_lt (sym is) ∙ sym test ∙ holds

pub told_pair : {a b : ℕ} {p : ℕ × ℕ} → a ≡ p.0 → b ≡ p.1 → Some (a, b) ≡ Some p
told_pair {a} {b} {p} first second = ap (λ (n : ℕ). let q : Option (ℕ × ℕ) = Some (n, b) in q) first ∙ ap (λ (n : ℕ). let q : Option (ℕ × ℕ) = Some (p.0, n) in q) second

-- where there is no tree there is no level
pub no_height : (nodes : List Node) (root : ℕ) → root ≡ NONE → height_at nodes root ≡ 0
no_height nodes root e = ap (height_at nodes) e ∙ height_at-NONE nodes

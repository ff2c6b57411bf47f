-- What the value of a set says of its tree, and the answers of its calls.
use Rattle.std.proofs.Common.{◌≡◌, ◌≢◌, ℕ, true, false, ◌+◌, ◌*◌, ◌^◌, ◌<◌, ◌≤◌, Option, Some, None, List, [], ◌∷◌, ◌++◌, length, slice_set, refl, sym, ap, ◌∙◌, subst, arith}
use Rattle.std.specs.FinSet as set
use Rattle.std.proofs.lemmas.List.{length-set}
use Rattle.ldm_freelist.specs.Pairs.{Pairs, IsBest, IsGreatest, IsLastTo, first_from_bound}
use Rattle.ldm_freelist.specs.Nodes.{node_at, pair_at, height_at, leaf_node, free_node}
use Rattle.ldm_freelist.specs.Tree.{Tree, pairs_of, HasPair, IsTree, IsAddable, IsAdded, Adds, IsLow, IsTaken, Takes, Finds, FindsTo, IsLast, found_or, last_to_bound}
use Rattle.ldm_freelist.specs.Held.{tree_at, IsHeld}
use Rattle.ldm_freelist.specs.declared.node_table.Node.{Node}
use Rattle.ldm_freelist.specs.declared.node_table.TheConstants.{NONE}
use Rattle.ldm_freelist.proofs.Order.{Rises}
use Rattle.ldm_freelist.proofs.Best.{first_best, last_greatest, last_to, none_greatest}
use Rattle.ldm_freelist.proofs.Bound.{few_steps, enough_steps}
use Rattle.ldm_freelist.proofs.Lean.{tree_height}
use Rattle.ldm_freelist.proofs.Spelled.{number_of_node}
use Rattle.ldm_freelist.proofs.Insert.{empty_at, some_at}
use Rattle.ldm_freelist.proofs.Held.{tree_at_is, count_is, held_low, held_root_low, members_are, held_first, free_within, addable, added_held}
use Rattle.ldm_freelist.proofs.Held.{detachable, node_within, taken_with, taken_held, members_with, members_without, member_pair, not_member, node_in_use}

-- what a set of these nodes is kept as
abbrev pub IsKeptAs : List Node → ℕ → ℕ → Type 0
IsKeptAs nodes root free = (tree : Tree) × ((chain : List ℕ) × IsHeld nodes root free tree chain)

abbrev pub seen : List Node → ℕ → Pairs
seen nodes root = record { room = length nodes; members = set.from_list (pairs_of (tree_at nodes root)) }

module _ (nodes : List Node) (root free : ℕ) (kept : IsKeptAs nodes root free) (value : Pairs) (view : seen nodes root ≡ value) where
  abbrev tree : Tree
  tree = kept.0

  tree_is : IsTree nodes root tree
  tree_is = kept.1.1.tree_is

  pub members_is : set.from_list (pairs_of tree) ≡ value.members
  members_is = sym (members_are nodes root free tree kept.1.0 kept.1.1) ∙ ap (λ (s : Pairs). s.members) view

  pub count : set.len value.members ≡ length (pairs_of tree)
  count = sym (ap (λ (s : Pairs). set.len s.members) view) ∙ count_is nodes root free tree kept.1.0 kept.1.1

  pub room_is : length nodes ≡ value.room
  room_is = ap (λ (s : Pairs). s.room) view

  pub root_low : height_at nodes root ≤ 64
  root_low = held_root_low nodes root free tree kept.1.0 kept.1.1

  pub few : (steps : ℕ) → steps ≤ height_at nodes root → 2 ^ steps ≤ (set.len value.members + 1) ^ 2
  few steps h = subst (λ n. 2 ^ steps ≤ (n + 1) ^ 2) (sym count) (few_steps tree steps tree_is.balanced (omega (arith, h, tree_height nodes root tree tree_is)))

  pub counted : (steps : ℕ) → height_at nodes root ≤ 2 * steps → set.len value.members + 1 ≤ (2 ^ steps) ^ 2
  counted steps h = subst (λ n. n + 1 ≤ (2 ^ steps) ^ 2) (sym count) (enough_steps tree steps (omega (arith, h, tree_height nodes root tree tree_is)))

  pub some_tree : (t : Tree) × IsTree nodes root t
  some_tree = (tree, tree_is)

  pub best : (need : ℕ) (answer : Option (ℕ × ℕ)) → Finds nodes root (need, 0) None answer → IsBest need value.members answer
  best need answer finds =
      subst (λ s. IsBest need s answer) members_is
      (subst (IsBest need (set.from_list (pairs_of tree))) (sym (finds tree tree_is ∙ alone (first_from_bound (need, 0) (pairs_of tree)))) (first_best need (pairs_of tree) tree_is.rising)) where
        alone : (o : Option (ℕ × ℕ)) → found_or o None ≡ o
        alone None = refl
        alone (Some p) = refl

  pub last_found : (most : ℕ) (answer : Option (ℕ × ℕ)) → FindsTo nodes root most None answer → IsLastTo most value.members answer
  last_found most answer finds =
      subst (λ s. IsLastTo most s answer) members_is
      (subst (IsLastTo most (set.from_list (pairs_of tree))) (sym (finds tree tree_is ∙ alone (last_to_bound most (pairs_of tree)))) (last_to most (pairs_of tree) tree_is.rising)) where
        alone : (o : Option (ℕ × ℕ)) → found_or o None ≡ o
        alone None = refl
        alone (Some p) = refl

  pub none_there : root ≡ NONE → IsGreatest value.members None
  none_there e = subst (λ s. IsGreatest s None) members_is (none_greatest (pairs_of tree) (ap (λ t. length (pairs_of t)) (empty_at nodes root tree tree_is e)))

  pub last_within : (number : ℕ) → IsLast nodes root number → number < length nodes
  last_within number last = (number_of_node nodes tree number tree_is.spelled (last tree tree_is).0).within

  pub last_in_use : (number : ℕ) → IsLast nodes root number → 0 < (node_at nodes number).height
  last_in_use number last = node_in_use nodes tree number tree_is.spelled (last tree tree_is).0

  pub greatest : (number : ℕ) (answer : ℕ × ℕ) → IsLast nodes root number → answer ≡ pair_at nodes number → IsGreatest value.members (Some answer)
  greatest number answer last is =
      let there = last tree tree_is in
      subst (λ s. IsGreatest s (Some answer)) members_is
      (subst (λ xs. IsGreatest (set.from_list xs) (Some answer)) (sym there.1.1)
      (subst (λ q. IsGreatest (set.from_list (there.1.0 ++ pair_at nodes number ∷ [])) (Some q)) (sym is)
      (last_greatest there.1.0 (pair_at nodes number) (subst Rises there.1.1 tree_is.rising))))

  pub one_step : root ≢ NONE → 2 ^ 1 ≤ (set.len value.members + 1) ^ 2
  one_step named = few 1 (omega (arith, some_at nodes root tree tree_is named, tree_height nodes root tree tree_is))

  -- where there is room for one more
  module _ (pair : ℕ × ℕ) (room : set.len value.members < value.room) (new : set.contains value.members pair ≡ false) where
    first : (rest : List ℕ) × (kept.1.0 ≡ free ∷ rest)
    first = held_first nodes root free tree kept.1.0 kept.1.1 (omega (arith, count, room_is, room))

    held : IsHeld nodes root free tree (free ∷ first.0)
    held = subst (IsHeld nodes root free tree) first.1 kept.1.1

    pub can_fill : free < length nodes
    can_fill = free_within nodes root free tree first.0 held pair

    can_add : IsAddable (slice_set nodes free (leaf_node pair.0 pair.1)) root free pair tree
    can_add = addable nodes root free tree first.0 held pair (not_member pair (pairs_of tree) (ap (λ s. set.contains s pair) members_is ∙ new))

    module _ (mid : List Node) (filled : mid ≡ slice_set nodes free (leaf_node pair.0 pair.1)) where
      pub can_insert : (t : Tree) × IsAddable mid root free pair t
      can_insert = (tree, subst (λ ns. IsAddable ns root free pair tree) (sym filled) can_add)

      pub insert_low : height_at mid root < 200
      unfolding can_insert
      insert_low = omega (arith, tree_height mid root tree can_insert.1.tree_is, held_low nodes root free tree kept.1.0 kept.1.1)

      module _ (after : List Node) (top next : ℕ) (adds : Adds mid after root free pair top) (next_is : next ≡ (node_at nodes free).left) where
        added : (made : Tree) × IsAdded (slice_set nodes free (leaf_node pair.0 pair.1)) after top free pair tree made
        unfolding can_insert
        added = subst (λ ns. (made : Tree) × IsAdded ns after top free pair tree made) filled (adds tree can_insert.1)

        pub kept_added : IsKeptAs after top next
        kept_added = (added.0, (first.0, subst (λ n. IsHeld after top n added.0 first.0) (sym next_is) (added_held nodes root free tree first.0 held pair after top added.0 added.1)))

        pub room_added : length after ≡ value.room
        room_added = added.1.kept.as_long ∙ length-set nodes free (leaf_node pair.0 pair.1) ∙ room_is

        pub members_added : set.from_list (pairs_of (tree_at after top)) ≡ set.insert value.members pair
        members_added =
            ap (λ t. set.from_list (pairs_of t)) (tree_at_is after top added.0 added.1.tree_is)
            ∙ members_with pair (pairs_of added.0) (pairs_of tree) added.1.more
            ∙ ap (λ s. set.insert s pair) members_is

  -- where a pair is a member
  module _ (pair : ℕ × ℕ) (there : set.contains value.members pair ≡ true) where
    pub can_detach : (t : Tree) × IsLow nodes root t × HasPair pair t
    can_detach = (tree, detachable nodes root free tree kept.1.0 kept.1.1, member_pair pair tree (ap (λ s. set.contains s pair) members_is ∙ there))

    pub detach_low : height_at nodes root < 200
    detach_low = omega (arith, root_low)

    module _ (mid : List Node) (answer : ℕ × ℕ) (takes : Takes nodes mid root pair answer) where
      gone : (rest : Tree) × IsTaken nodes mid answer.0 answer.1 tree rest × (pair_at nodes answer.1 ≡ pair)
      unfolding can_detach
      gone = takes tree can_detach.1 can_detach.2

      pub can_clear : answer.1 < length mid
      can_clear = node_within nodes root free tree kept.1.0 kept.1.1 mid answer.0 answer.1 pair gone.0 gone.1 gone.2

      module _ (after : List Node) (cleared : after ≡ slice_set mid answer.1 (free_node free)) where
        held_cleared : IsHeld (slice_set mid answer.1 (free_node free)) answer.0 answer.1 gone.0 (answer.1 ∷ kept.1.0)
        held_cleared = taken_held nodes root free tree kept.1.0 kept.1.1 mid answer.0 answer.1 pair gone.0 gone.1 gone.2

        pub kept_taken : IsKeptAs after answer.0 answer.1
        kept_taken = (gone.0, (answer.1 ∷ kept.1.0, subst (λ ns. IsHeld ns answer.0 answer.1 gone.0 (answer.1 ∷ kept.1.0)) (sym cleared) held_cleared))

        pub room_taken : length after ≡ value.room
        room_taken = ap length cleared ∙ length-set mid answer.1 (free_node free) ∙ gone.1.kept.as_long ∙ room_is

        pub members_taken : set.from_list (pairs_of (tree_at after answer.0)) ≡ set.remove value.members pair
        unfolding kept_taken
        members_taken =
            ap (λ t. set.from_list (pairs_of t)) (tree_at_is after answer.0 gone.0 kept_taken.1.1.tree_is)
            ∙ members_without pair (pairs_of tree) (pairs_of gone.0) (taken_with nodes root free tree kept.1.0 kept.1.1 mid answer.0 answer.1 pair gone.0 gone.1 gone.2) tree_is.rising
            ∙ ap (λ s. set.remove s pair) members_is

-- A region that goes, and the gaps in front of it and behind it that become one.
use Rattle.std.proofs.Common.{◌≡◌, ℕ, ◌+◌, ◌<◌, ◌≤◌, true, false, is_some, get_or, List, [], ◌∷◌, ◌++◌, length, sym, ap, subst, ◌∙◌, arith}
use Rattle.std.specs.FinMap as fin
use Rattle.std.specs.FinSet as set
use Rattle.std.proofs.lemmas.List.{get_or_read}
use Rattle.ldm_freelist.specs.Pairs.{Pairs}
use Rattle.ldm_regions.specs.Order.{Used, Lie}
use Rattle.ldm_regions.specs.Links.{node_at, in_order, IsRingOf, unlinked}
use Rattle.ldm_regions.specs.Gaps.{if_any, gaps_between, with_gap, without_gap}
use Rattle.ldm_regions.specs.declared.links.Node.{Node}
use Rattle.ldm_regions.specs.declared.gaps.Gap.{Gap}
use Rattle.ldm_regions.proofs.Lies.{last_end, Lie-front, Lie-behind, Lie-both, Lie-from, first-behind}
use Rattle.ldm_regions.proofs.Owners.{owned_by, get-owned_by, owned_by-less, place_of}
use Rattle.ldm_regions.proofs.Laid.{no_more}
use Rattle.ldm_regions.proofs.Sets.{Rise, Rise-without, pairs_of, TellsStart, Has, has_gap, lacks_gap, has_room, without_it, with_it}
use Rattle.ldm_regions.proofs.Seams.{gaps_in_front, gaps_behind, gap_at, gaps_around, gaps_rise, gaps_length}
use Rattle.ldm_regions.proofs.Rings.{spelled, ring_less, around}

-- the gap in front of an owner's region, the gap behind it, and what they are without it, as the table has them
abbrev pub front_gap : List Node → ℕ → Gap
front_gap nodes owner = record { start = (node_at nodes (node_at nodes owner).front).end; end = (node_at nodes owner).start; front = (node_at nodes owner).front }

abbrev pub behind_gap : List Node → ℕ → Gap
behind_gap nodes owner = record { start = (node_at nodes owner).end; end = (node_at nodes (node_at nodes owner).behind).start; front = owner }

abbrev pub joined_gap : List Node → ℕ → Gap
joined_gap nodes owner = record { start = (node_at nodes (node_at nodes owner).front).end; end = (node_at nodes (node_at nodes owner).behind).start; front = (node_at nodes owner).front }

pub record Joint (nodes : List Node) (arena slots owner : ℕ) (one two both : Gap) : Type 0 where
  pub left : List Used
  pub before : List Gap
  pub after : List Gap
  pub owned : owned_by left ≡ fin.remove (owned_by (in_order nodes slots)) owner
  pub gaps_old : gaps_between slots 0 (in_order nodes slots) arena ≡ before ++ (if_any one ++ (if_any two ++ after))
  pub gaps_new : gaps_between slots 0 left arena ≡ before ++ (if_any both ++ after)
  pub rise_old : Rise (before ++ (if_any one ++ (if_any two ++ after)))
  pub rise_new : Rise (before ++ (if_any both ++ after))
  pub fits : length (before ++ (if_any both ++ after)) ≤ slots + 1
  pub inside : owner < length nodes
  pub front_inside : (node_at nodes owner).front < length nodes
  pub behind_inside : (node_at nodes owner).behind < length nodes
  pub ring : IsRingOf (unlinked nodes owner) slots arena left

joint_at : (nodes : List Node) (arena slots : ℕ) (front : List Used) (u : Used) (behind : List Used) → IsRingOf nodes slots arena (in_order nodes slots) → in_order nodes slots ≡ front ++ u ∷ behind → Joint nodes arena slots u.owner (front_gap nodes u.owner) (behind_gap nodes u.owner) (joined_gap nodes u.owner)
joint_at nodes arena slots front u behind all whole =
    let ring = subst (IsRingOf nodes slots arena) whole all in
    let at = around nodes slots arena front u behind ring in
    let later = Lie-behind 0 front (u ∷ behind) arena ring.lie in
    let upwards = later.0 in
    let next = first-behind (u.start + u.extent) behind arena later.2 in
    let lie : Lie 0 (front ++ behind) arena = Lie-both 0 front behind arena (Lie-front 0 front (u ∷ behind) arena ring.lie)
    (Lie-from (u.start + u.extent) (last_end 0 front) behind arena later.2 (omega arith)) in
    let less = ring_less nodes slots arena front u behind ring lie in
    let before = gaps_in_front slots 0 front in
    let after = gaps_behind behind arena in
    let one : gap_at slots 0 front (u ∷ behind) arena ≡ front_gap nodes u.owner = λ i. record { start = sym at.front_end i; end = sym at.start_is i; front = sym at.front_is i } in
    let two : gap_at u.owner (u.start + u.extent) [] behind arena ≡ behind_gap nodes u.owner = λ i. record { start = sym at.end_is i; end = sym at.behind_start i; front = u.owner } in
    let both : gap_at slots 0 front behind arena ≡ joined_gap nodes u.owner = λ i. record { start = sym at.front_end i; end = sym at.behind_start i; front = sym at.front_is i } in
    let old = ap (λ us. gaps_between slots 0 us arena) whole ∙ gaps_around slots 0 front (u ∷ behind) arena
    ∙ ap (λ gaps. before ++ (if_any (gap_at slots 0 front (u ∷ behind) arena) ++ gaps)) (gaps_around u.owner (u.start + u.extent) [] behind arena)
    ∙ (λ i. before ++ (if_any (one i) ++ (if_any (two i) ++ after))) in
    let new = gaps_around slots 0 front behind arena ∙ ap (λ gap. before ++ (if_any gap ++ after)) both in
    let count = gaps_length slots 0 (front ++ behind) arena in
    let few = no_more (front ++ behind) slots less.owners less.below in
    record {
      left = front ++ behind;
      before = before;
      after = after;
      owned = owned_by-less front u behind ring.owners ∙ ap (λ us. fin.remove (owned_by us) u.owner) (sym whole);
      gaps_old = old;
      gaps_new = new;
      rise_old = subst Rise old (gaps_rise slots 0 (in_order nodes slots) arena all.lie);
      rise_new = subst Rise new (gaps_rise slots 0 (front ++ behind) arena lie);
      fits = let same = ap length new in omega arith;
      inside = at.inside;
      front_inside = at.front_inside;
      behind_inside = at.behind_inside;
      ring = less;
    }

-- as entries that were read tell
module _ (nodes : List Node) (arena slots owner : ℕ) (ring : IsRingOf nodes slots arena (in_order nodes slots)) (there : is_some (fin.get (owned_by (in_order nodes slots)) owner) ≡ true) where
  pub in_table : Joint nodes arena slots owner (front_gap nodes owner) (behind_gap nodes owner) (joined_gap nodes owner)
  in_table =
      let place = place_of (in_order nodes slots) owner (ap is_some (sym (get-owned_by (in_order nodes slots) owner)) ∙ there) in
      subst (λ n. Joint nodes arena slots n (front_gap nodes n) (behind_gap nodes n) (joined_gap nodes n)) (sym place.owner_is) (joint_at nodes arena slots place.front place.mid place.behind ring place.whole)

  module _ (node : Node) (read : node ≡ get_or nodes owner node) where
    node_is : node ≡ node_at nodes owner
    node_is = get_or_read nodes owner node in_table.inside read (record { start = 0; end = 0; front = 0; behind = 0 })

    pub front_read : node.front < length nodes
    front_read = let within = in_table.front_inside in let is = ap (λ (n : Node). n.front) node_is in omega arith

    pub behind_read : node.behind < length nodes
    behind_read = let within = in_table.behind_inside in let is = ap (λ (n : Node). n.behind) node_is in omega arith

    module _ (from to : Node) (read_from : from ≡ get_or nodes node.front from) (read_to : to ≡ get_or nodes node.behind to) where
      from_is : from ≡ node_at nodes (node_at nodes owner).front
      from_is = get_or_read nodes node.front from front_read read_from (record { start = 0; end = 0; front = 0; behind = 0 }) ∙ ap (λ (n : Node). node_at nodes n.front) node_is

      to_is : to ≡ node_at nodes (node_at nodes owner).behind
      to_is = get_or_read nodes node.behind to behind_read read_to (record { start = 0; end = 0; front = 0; behind = 0 }) ∙ ap (λ (n : Node). node_at nodes n.behind) node_is

      pub joint_of : Joint nodes arena slots owner (record { start = from.end; end = node.start; front = node.front }) (record { start = node.end; end = to.start; front = owner }) (record { start = from.end; end = to.start; front = node.front })
      joint_of =
          let one : ◌≡◌ {A = Gap} (record { start = from.end; end = node.start; front = node.front }) (front_gap nodes owner) = λ i. record { start = (from_is i).end; end = (node_is i).start; front = (node_is i).front } in
          let two : ◌≡◌ {A = Gap} (record { start = node.end; end = to.start; front = owner }) (behind_gap nodes owner) = λ i. record { start = (node_is i).end; end = (to_is i).start; front = owner } in
          let both : ◌≡◌ {A = Gap} (record { start = from.end; end = to.start; front = node.front }) (joined_gap nodes owner) = λ i. record { start = (from_is i).end; end = (to_is i).start; front = (node_is i).front } in
          subst (λ g. Joint nodes arena slots owner g (record { start = node.end; end = to.start; front = owner }) (record { start = from.end; end = to.start; front = node.front })) (sym one)
          (subst (λ g. Joint nodes arena slots owner (front_gap nodes owner) g (record { start = from.end; end = to.start; front = node.front })) (sym two)
          (subst (λ g. Joint nodes arena slots owner (front_gap nodes owner) (behind_gap nodes owner) g) (sym both) in_table))

module _ {nodes : List Node} {arena slots owner : ℕ} {one two both : Gap} (joint : Joint nodes arena slots owner one two both) where
  pub joint_owned : owned_by (in_order (unlinked nodes owner) slots) ≡ fin.remove (owned_by (in_order nodes slots)) owner
  joint_owned = ap owned_by (spelled (unlinked nodes owner) slots arena joint.left joint.ring) ∙ joint.owned

  -- the set of the gaps by a key, as it gives two up and takes one
  module _ (key : Gap → ℕ × ℕ) (tells : TellsStart key) {pairs : Pairs} (has : Has key tells (slots + 1) (gaps_between slots 0 (in_order nodes slots) arena) pairs) where
    old : Has key tells (slots + 1) (joint.before ++ (if_any one ++ (if_any two ++ joint.after))) pairs
    old = has ∙ ap (λ gaps. record { room = slots + 1; members = pairs_of key gaps }) joint.gaps_old

    pub one_there : one.start < one.end → set.contains pairs.members (key one) ≡ true
    one_there = has_gap key tells (slots + 1) joint.before one (if_any two ++ joint.after) pairs old

    module _ {less : Pairs} (first : less ≡ record pairs { members = without_gap key pairs.members one }) where
      one_out : Has key tells (slots + 1) (joint.before ++ (if_any two ++ joint.after)) less
      one_out = without_it key tells (slots + 1) joint.before one (if_any two ++ joint.after) pairs less joint.rise_old old first

      pub two_there : two.start < two.end → set.contains less.members (key two) ≡ true
      two_there = has_gap key tells (slots + 1) joint.before two joint.after less one_out

      module _ {least : Pairs} (second : least ≡ record less { members = without_gap key less.members two }) where
        two_out : Has key tells (slots + 1) (joint.before ++ joint.after) least
        two_out = without_it key tells (slots + 1) joint.before two joint.after less least (Rise-without joint.before one (if_any two ++ joint.after) joint.rise_old) one_out second

        pub both_new : both.start < both.end → (set.contains least.members (key both) ≡ false) × (set.len least.members < least.room)
        both_new any = (lacks_gap key tells (slots + 1) joint.before both joint.after least joint.rise_new two_out any, has_room key tells (slots + 1) joint.before both joint.after least joint.fits two_out any)

        pub both_in : {more : Pairs} → more ≡ record least { members = with_gap key least.members both } → Has key tells (slots + 1) (gaps_between slots 0 joint.left arena) more
        both_in {more} third = with_it key tells (slots + 1) joint.before both joint.after least more two_out third ∙ ap (λ gaps. record { room = slots + 1; members = pairs_of key gaps }) (sym joint.gaps_new)

-- A region that comes into a gap, and what is left of the gap in front of it and behind it.
use Rattle.std.proofs.Common.{◌≡◌, ℕ, ◌+◌, ◌<◌, ◌≤◌, true, false, cond, ltb, get_or, List, [], ◌∷◌, ◌++◌, length, Some, None, sym, ap, subst, ◌∙◌, arith}
use Rattle.std.specs.FinMap as fin
use Rattle.std.specs.FinSet as set
use Rattle.std.proofs.lemmas.Bool.{le-ltb}
use Rattle.std.proofs.lemmas.List.{get_or_read}
use Rattle.ldm_freelist.specs.Pairs.{Pairs, IsLastTo}
use Rattle.ldm_regions.specs.Layout.{IsFree}
use Rattle.ldm_regions.specs.Order.{Used, Lie}
use Rattle.ldm_regions.specs.Links.{node_at, in_order, IsRingOf, linked}
use Rattle.ldm_regions.specs.Gaps.{if_any, gaps_between, with_gap, without_gap, IsFound}
use Rattle.ldm_regions.specs.Kept.{IsKept}
use Rattle.ldm_regions.specs.declared.links.Node.{Node}
use Rattle.ldm_regions.specs.declared.gaps.Gap.{Gap}
use Rattle.ldm_regions.proofs.Lies.{last_end, first_start, Lie-front, Lie-behind, Lie-both, Lie-from}
use Rattle.ldm_regions.proofs.Owners.{region_at, owned_by, owned_by-more}
use Rattle.ldm_regions.proofs.Laid.{no_more}
use Rattle.ldm_regions.proofs.Sets.{Rise, Rise-without, pairs_of, TellsStart, Has, has_gap, lacks_gap, has_room, without_it, with_it}
use Rattle.ldm_regions.proofs.Seams.{gaps_in_front, gaps_behind, gap_at, gaps_around, gaps_rise, gaps_length, last_owner, Spot}
use Rattle.ldm_regions.proofs.Rings.{spelled, ring_end, ring_more, ring_seam}
use Rattle.ldm_regions.proofs.Arenas.{spot_kept}
use Rattle.ldm_regions.proofs.Inside.{Begun, gap_begun, spot_begun, too_early}

-- the region, and what is left of the gap
abbrev pub region_amid : ℕ → ℕ → ℕ → Used
region_amid offset need owner = record { start = offset; extent = need; owner = owner }

abbrev pub left_front : Gap → ℕ → Gap
left_front gap offset = record { start = gap.start; end = offset; front = gap.front }

abbrev pub left_behind : Gap → ℕ → ℕ → Gap
left_behind gap end owner = record { start = end; end = gap.end; front = owner }

pub record Amid (nodes : List Node) (arena slots : ℕ) (gap : Gap) (offset need owner : ℕ) : Type 0 where
  pub front : List Used
  pub behind : List Used
  pub before : List Gap
  pub after : List Gap
  pub whole : in_order nodes slots ≡ front ++ behind
  pub none : region_at owner (front ++ behind) ≡ None
  pub gaps_old : gaps_between slots 0 (in_order nodes slots) arena ≡ before ++ (if_any gap ++ after)
  pub gaps_new : gaps_between slots 0 (front ++ region_amid offset need owner ∷ behind) arena ≡ before ++ (if_any (left_front gap offset) ++ (if_any (left_behind gap (offset + need) owner) ++ after))
  pub rise_old : Rise (before ++ (if_any gap ++ after))
  pub rise_new : Rise (before ++ (if_any (left_front gap offset) ++ (if_any (left_behind gap (offset + need) owner) ++ after)))
  pub fits : length (before ++ (if_any (left_front gap offset) ++ (if_any (left_behind gap (offset + need) owner) ++ after))) ≤ slots + 1
  pub front_inside : gap.front < length nodes
  pub behind_inside : (node_at nodes gap.front).behind < length nodes
  pub end_is : (node_at nodes (node_at nodes gap.front).behind).start ≡ gap.end
  pub ring : IsRingOf (linked nodes owner offset (offset + need) gap.front) slots arena (front ++ region_amid offset need owner ∷ behind)

amid_at : (nodes : List Node) (arena slots : ℕ) (front behind : List Used) (offset need owner : ℕ) → IsRingOf nodes slots arena (in_order nodes slots) → in_order nodes slots ≡ front ++ behind → region_at owner (in_order nodes slots) ≡ None → owner < slots → 0 < need →
    last_end 0 front ≤ offset → offset + need ≤ first_start behind arena → Amid nodes arena slots (gap_at slots 0 front behind arena) offset need owner
amid_at nodes arena slots front behind offset need owner all whole none below some low high =
    let gap = gap_at slots 0 front behind arena in
    let u = region_amid offset need owner in
    let ring = subst (IsRingOf nodes slots arena) whole all in
    let absent = ap (region_at owner) (sym whole) ∙ none in
    let lie : Lie 0 (front ++ u ∷ behind) arena = Lie-both 0 front (u ∷ behind) arena (Lie-front 0 front behind arena ring.lie)
    (low, some, Lie-from (last_end 0 front) (offset + need) behind arena (Lie-behind 0 front behind arena ring.lie) high) in
    let more = ring_more nodes slots arena front u behind ring absent below lie in
    let before = gaps_in_front slots 0 front in
    let after = gaps_behind behind arena in
    let old = ap (λ us. gaps_between slots 0 us arena) whole ∙ gaps_around slots 0 front behind arena in
    let new = gaps_around slots 0 front (u ∷ behind) arena
    ∙ ap (λ gaps. before ++ (if_any (left_front gap offset) ++ gaps)) (gaps_around owner (offset + need) [] behind arena) in
    let count = gaps_length slots 0 (front ++ u ∷ behind) arena in
    let few = no_more (front ++ u ∷ behind) slots more.owners more.below in
    let seam = ring_seam nodes slots arena front behind ring in
    record {
      front = front;
      behind = behind;
      before = before;
      after = after;
      whole = whole;
      none = absent;
      gaps_old = old;
      gaps_new = new;
      rise_old = subst Rise old (gaps_rise slots 0 (in_order nodes slots) arena all.lie);
      rise_new = subst Rise new (gaps_rise slots 0 (front ++ u ∷ behind) arena lie);
      fits = let same = ap length new in omega arith;
      front_inside = seam.0;
      behind_inside = seam.1;
      end_is = ring_end nodes slots arena front behind ring;
      ring = more;
    }

-- a gap in front of others makes them no fewer
no_fewer : (front : List Gap) (gap : Gap) (behind : List Gap) → length (front ++ behind) ≤ length (front ++ (if_any gap ++ behind))
no_fewer [] gap behind = elim (ltb gap.start gap.end) as (λ b. length behind ≤ length (cond b (gap ∷ []) [] ++ behind)) [ true ↦ omega arith | false ↦ omega arith ]
no_fewer (g ∷ gs) gap behind = let rest = no_fewer gs gap behind in omega arith

module _ (nodes : List Node) (arena slots : ℕ) (extents fronts : Pairs) (kept : IsKept nodes arena slots extents fronts) (offset need : ℕ) (some : 0 < need)
    (start front : ℕ) (last : IsLastTo offset fronts.members (Some (start, front))) where
  abbrev found : Begun (gaps_between slots 0 (in_order nodes slots) arena) start front
  found = gap_begun nodes arena slots extents fronts kept offset need some start front last

  abbrev spot : Spot slots 0 (in_order nodes slots) arena found.gap
  spot = spot_begun nodes arena slots extents fronts kept offset need some start front last

  around : IsRingOf nodes slots arena (spot.front ++ spot.behind)
  around = subst (IsRingOf nodes slots arena) spot.whole kept.ring

  owner_is : last_owner slots spot.front ≡ front
  owner_is = sym (ap (λ (g : Gap). g.front) spot.at) ∙ found.front_is

  pub front_inside : front < length nodes
  front_inside = subst (λ n. n < length nodes) owner_is (ring_seam nodes slots arena spot.front spot.behind around).0

  pub behind_inside : (node_at nodes front).behind < length nodes
  behind_inside = subst (λ n. (node_at nodes n).behind < length nodes) owner_is (ring_seam nodes slots arena spot.front spot.behind around).1

  end_is : found.gap.end ≡ (node_at nodes (node_at nodes front).behind).start
  end_is = ap (λ (g : Gap). g.end) spot.at ∙ sym (ring_end nodes slots arena spot.front spot.behind around) ∙ ap (λ n. (node_at nodes (node_at nodes n).behind).start) owner_is

  -- as the entries that were read tell
  module _ (one : Node) (read_one : one ≡ get_or nodes front one) where
    one_is : one ≡ node_at nodes front
    one_is = get_or_read nodes front one front_inside read_one (record { start = 0; end = 0; front = 0; behind = 0 })

    pub next_inside : one.behind < length nodes
    next_inside = let within = behind_inside in let is = ap (λ (n : Node). n.behind) one_is in omega arith

    module _ (two : Node) (read_two : two ≡ get_or nodes one.behind two) where
      end_read : two.start ≡ found.gap.end
      end_read =
          ap (λ (n : Node). n.start) (get_or_read nodes one.behind two next_inside read_two (record { start = 0; end = 0; front = 0; behind = 0 }))
          ∙ ap (λ (n : Node). (node_at nodes n.behind).start) one_is ∙ sym end_is

      -- where the gap ends too early, the region is not free
      pub not_free : two.start < offset + need → ¬ (IsFree (record { start = offset; extent = need }) (record { arena = arena; slots = slots; owned = owned_by (in_order nodes slots) }))
      not_free short = too_early nodes arena slots extents fronts kept offset need some start front last (omega (arith, short, end_read))

      -- else the region comes into it
      pub amid_of : (owner : ℕ) → owner < slots → region_at owner (in_order nodes slots) ≡ None → offset + need ≤ two.start → Amid nodes arena slots (record { start = start; end = two.start; front = front }) offset need owner
      amid_of owner below none high =
          let starts = ap (λ (g : Gap). g.start) spot.at in
          let ends = ap (λ (g : Gap). g.end) spot.at in
          let is : found.gap ≡ record { start = start; end = two.start; front = front } = λ i. record { start = found.start_is i; end = sym end_read i; front = found.front_is i } in
          subst (λ g. Amid nodes arena slots g offset need owner) (sym spot.at ∙ is)
          (amid_at nodes arena slots spot.front spot.behind offset need owner kept.ring spot.whole none below some (omega (arith, starts, found.start_is, last.0.1)) (omega (arith, ends, end_read, high)))

-- where the region comes to the start of the gap that the sets tell as the best, nothing is left in front of it
pub amid_found : {nodes : List Node} {arena slots need owner : ℕ} {extents fronts : Pairs} {gap : Gap} → IsKept nodes arena slots extents fronts → 0 < need → owner < slots →
    region_at owner (in_order nodes slots) ≡ None → IsFound need extents.members fronts.members (Some gap) → Amid nodes arena slots gap gap.start need owner
amid_found {nodes} {arena} {slots} {need} {owner} {extents} {fronts} {gap} kept some below none is =
    let spot = spot_kept nodes arena slots extents fronts kept need gap is in
    let long = is.0.0.1 in
    let starts = ap (λ (g : Gap). g.start) spot.at in
    let ends = ap (λ (g : Gap). g.end) spot.at in
    subst (λ g. Amid nodes arena slots g g.start need owner) (sym spot.at)
    (amid_at nodes arena slots spot.front spot.behind (last_end 0 spot.front) need owner kept.ring spot.whole none below some (omega arith) (omega arith))

pub without_front : (key : Gap → ℕ × ℕ) (pairs : Pairs) (gap : Gap) → gap.end ≤ gap.start → pairs ≡ record pairs { members = with_gap key pairs.members gap }
without_front key pairs gap empty =
    ap (λ b. record pairs { members = cond b (set.insert pairs.members (key gap)) pairs.members }) (sym (le-ltb gap.start gap.end empty))

module _ {nodes : List Node} {arena slots offset need owner : ℕ} {gap : Gap} (amid : Amid nodes arena slots gap offset need owner) where
  abbrev u : Used
  u = region_amid offset need owner

  abbrev ahead : Gap
  ahead = left_front gap offset

  abbrev beyond : Gap
  beyond = left_behind gap (offset + need) owner

  pub amid_owned : owned_by (in_order (linked nodes owner offset (offset + need) gap.front) slots) ≡ fin.insert (owned_by (in_order nodes slots)) owner (record { start = offset; extent = need })
  amid_owned =
      ap owned_by (spelled (linked nodes owner offset (offset + need) gap.front) slots arena (amid.front ++ u ∷ amid.behind) amid.ring)
      ∙ owned_by-more amid.front u amid.behind amid.none
      ∙ ap (λ us. fin.insert (owned_by us) owner (record { start = offset; extent = need })) (sym amid.whole)

  -- the set of the gaps by a key, as it gives one up and takes two
  module _ (key : Gap → ℕ × ℕ) (tells : TellsStart key) {pairs : Pairs} (has : Has key tells (slots + 1) (gaps_between slots 0 (in_order nodes slots) arena) pairs) where
    old : Has key tells (slots + 1) (amid.before ++ (if_any gap ++ amid.after)) pairs
    old = has ∙ ap (λ gaps. record { room = slots + 1; members = pairs_of key gaps }) amid.gaps_old

    pub gap_there : gap.start < gap.end → set.contains pairs.members (key gap) ≡ true
    gap_there = has_gap key tells (slots + 1) amid.before gap amid.after pairs old

    module _ {less : Pairs} (first : less ≡ record pairs { members = without_gap key pairs.members gap }) where
      gap_out : Has key tells (slots + 1) (amid.before ++ amid.after) less
      gap_out = without_it key tells (slots + 1) amid.before gap amid.after pairs less amid.rise_old old first

      pub behind_new : beyond.start < beyond.end → (set.contains less.members (key beyond) ≡ false) × (set.len less.members < less.room)
      behind_new any =
          let fewer = no_fewer amid.before ahead (if_any beyond ++ amid.after) in
          let fits = amid.fits in (
            lacks_gap key tells (slots + 1) amid.before beyond amid.after less (Rise-without amid.before ahead (if_any beyond ++ amid.after) amid.rise_new) gap_out any,
            has_room key tells (slots + 1) amid.before beyond amid.after less (omega (arith, fewer, fits)) gap_out any,
          )

      module _ {more : Pairs} (second : more ≡ record less { members = with_gap key less.members beyond }) where
        behind_in : Has key tells (slots + 1) (amid.before ++ (if_any beyond ++ amid.after)) more
        behind_in = with_it key tells (slots + 1) amid.before beyond amid.after less more gap_out second

        pub front_new : ahead.start < ahead.end → (set.contains more.members (key ahead) ≡ false) × (set.len more.members < more.room)
        front_new any = (
          lacks_gap key tells (slots + 1) amid.before ahead (if_any beyond ++ amid.after) more amid.rise_new behind_in any,
          has_room key tells (slots + 1) amid.before ahead (if_any beyond ++ amid.after) more amid.fits behind_in any,
        )

        pub front_in : {most : Pairs} → most ≡ record more { members = with_gap key more.members ahead } → Has key tells (slots + 1) (gaps_between slots 0 (amid.front ++ u ∷ amid.behind) arena) most
        front_in {most} third =
            with_it key tells (slots + 1) amid.before ahead (if_any beyond ++ amid.after) more most behind_in third
            ∙ ap (λ gaps. record { room = slots + 1; members = pairs_of key gaps }) (sym amid.gaps_new)

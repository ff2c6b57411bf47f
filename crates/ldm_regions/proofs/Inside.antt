-- Whether a region lies in a gap: it does where it is free, and then the gap is the last that begins no later.
use Rattle.std.proofs.Common.{◌≡◌, ℕ, Bool, ◌+◌, ◌<◌, ◌≤◌, inl, inr, true, false, cond, ltb, List, [], ◌∷◌, ◌++◌, Some, None, refl, sym, ap, subst, ◌∙◌, arith}
use Rattle.std.specs.FinMap as fin
use Rattle.std.specs.FinSet as set
use Rattle.std.specs.Cmp.{nat_cmp_total}
use Rattle.std.specs.List.{AllByRecursion}
use Rattle.std.specs.Ordering.{eq_by_cmp, nat_cmp}
use Rattle.std.proofs.lemmas.Bool.{lt-ltb}
use Rattle.std.proofs.lemmas.Option.{none-some}
use Rattle.ldm_types.specs.Arena.{Region, AreApart}
use Rattle.ldm_freelist.specs.Pairs.{Pairs, IsLastTo}
use Rattle.ldm_regions.specs.Layout.{IsFree, Layout, Tiles, with_region}
use Rattle.ldm_regions.specs.Order.{Used, Lie, HaveOwners, region_of}
use Rattle.ldm_regions.specs.Links.{in_order}
use Rattle.ldm_regions.specs.Gaps.{by_front, if_any, gaps_between}
use Rattle.ldm_regions.specs.Kept.{IsKept}
use Rattle.ldm_regions.specs.declared.links.Node.{Node}
use Rattle.ldm_regions.specs.declared.gaps.Gap.{Gap}
use Rattle.ldm_regions.proofs.Owners.{region_at, owned_by, get-owned_by, itself, same_owner}
use Rattle.ldm_regions.proofs.Sets.{pairs_of, split_pairs, pairs_of-first, pairs_of-later, no_pairs}
use Rattle.ldm_regions.proofs.Seams.{In, Spot, begin_behind, in_any, spot_of}
use Rattle.ldm_regions.proofs.Found.{not_before}

-- what is true of each gap is true of one of them
each_in : (P : Gap → Type 0) (gap : Gap) (gaps : List Gap) → In gap gaps → AllByRecursion P gaps → P gap
each_in P gap [] among all = absurd among
each_in P gap (g ∷ gs) among all = elim among [ inl e ↦ subst P e all.0 | inr rest ↦ each_in P gap gs rest all.1 ]

in_first : (gap : Gap) (gaps : List Gap) → gap.start < gap.end → In gap (if_any gap ++ gaps)
in_first gap gaps some = subst (λ b. In gap (cond b (gap ∷ []) [] ++ gaps)) (sym (lt-ltb gap.start gap.end some)) (inl refl)

in_later : (gap first : Gap) (gaps : List Gap) → In gap gaps → In gap (if_any first ++ gaps)
in_later gap first gaps among = elim (ltb first.start first.end) as (λ b. In gap (cond b (first ∷ []) [] ++ gaps)) [ true ↦ inr among | false ↦ among ]

-- a gap that some positions lie in
pub record Covering (gaps : List Gap) (offset need : ℕ) : Type 0 where
  pub gap : Gap
  pub among : In gap gaps
  pub from : gap.start ≤ offset
  pub to : offset + need ≤ gap.end

-- positions that lie apart from all regions lie in a gap
covering : (owner from : ℕ) (used : List Used) (arena offset need : ℕ) → Lie from used arena → 0 < need → from ≤ offset → offset + need ≤ arena →
    AllByRecursion (λ u. AreApart (record { start = offset; extent = need }) (region_of u)) used → Covering (gaps_between owner from used arena) offset need
covering owner from [] arena offset need lie some low high apart =
    record { gap = record { start = from; end = arena; front = owner }; among = in_first (record { start = from; end = arena; front = owner }) [] (omega arith); from = low; to = high }
covering owner from (u ∷ us) arena offset need lie some low high apart =
    let first : Gap = record { start = from; end = u.start; front = owner } in
    let gaps = gaps_between u.owner (u.start + u.extent) us arena in
    elim apart.0 [
      | inl before ↦ record { gap = first; among = in_first first gaps (omega (arith, before)); from = low; to = before }
      | inr behind ↦
          let rest = covering u.owner (u.start + u.extent) us arena offset need lie.2 some behind high apart.1 in
          record { gap = rest.gap; among = in_later rest.gap first gaps rest.among; from = rest.from; to = rest.to }
    ]

-- a gap that begins in another one is that one
same_gap : (owner from : ℕ) (used : List Used) (arena : ℕ) (g h : Gap) → Lie from used arena → In g (gaps_between owner from used arena) → In h (gaps_between owner from used arena) →
    g.start ≤ h.start → h.start < g.end → g.end ≤ h.end
same_gap owner from [] arena g h lie one other low high =
    in_any g (record { start = from; end = arena; front = owner }) [] (g.end ≤ h.end) one
    (λ e. in_any h (record { start = from; end = arena; front = owner }) [] (g.end ≤ h.end) other
    (λ f. omega (arith, ap (λ (gap : Gap). gap.end) e, ap (λ (gap : Gap). gap.end) f)) (λ none. absurd none))
    (λ none. absurd none)
same_gap owner from (u ∷ us) arena g h lie one other low high =
    let first : Gap = record { start = from; end = u.start; front = owner } in
    let gaps = gaps_between u.owner (u.start + u.extent) us arena in
    let upwards = lie.0 in
    let some = lie.1 in
    in_any g first gaps (g.end ≤ h.end) one
    (λ e. in_any h first gaps (g.end ≤ h.end) other
    (λ f. omega (arith, ap (λ (gap : Gap). gap.end) e, ap (λ (gap : Gap). gap.end) f))
    (λ later.
    let behind = each_in (λ gap. u.start < gap.start) h gaps later (begin_behind u.start u.owner (u.start + u.extent) us arena (omega arith) lie.2) in
    absurd (omega (arith, behind, ap (λ (gap : Gap). gap.end) e))))
    (λ rest. in_any h first gaps (g.end ≤ h.end) other
    (λ f.
    let behind = each_in (λ gap. from < gap.start) g gaps rest (begin_behind from u.owner (u.start + u.extent) us arena (omega arith) lie.2) in
    absurd (omega (arith, behind, ap (λ (gap : Gap). gap.start) f)))
    (λ later. same_gap u.owner (u.start + u.extent) us arena g h lie.2 rest later low high))

-- the gap of a start and a front
pub record Begun (gaps : List Gap) (start front : ℕ) : Type 0 where
  pub gap : Gap
  pub among : In gap gaps
  pub start_is : gap.start ≡ start
  pub front_is : gap.front ≡ front

begun : (gaps : List Gap) (start front : ℕ) → set.contains (pairs_of by_front gaps) (start, front) ≡ true → Begun gaps start front
begun [] start front there = absurd (no_pairs by_front (start, front) there)
begun (g ∷ gs) start front there =
    split_pairs by_front g gs (start, front) (Begun (g ∷ gs) start front) there
    (λ is. record { gap = g; among = inl refl; start_is = sym (ap (λ (p : ℕ × ℕ). p.0) is); front_is = sym (ap (λ (p : ℕ × ℕ). p.1) is) })
    (λ later. let rest = begun gs start front later in record { gap = rest.gap; among = inr rest.among; start_is = rest.start_is; front_is = rest.front_is })

front_there : (gaps : List Gap) (gap : Gap) → In gap gaps → set.contains (pairs_of by_front gaps) (by_front gap) ≡ true
front_there [] gap among = absurd among
front_there (g ∷ gs) gap among = elim among [
  | inl e ↦ subst (λ h. set.contains (pairs_of by_front (g ∷ gs)) (by_front h) ≡ true) e (pairs_of-first by_front g gs)
  | inr rest ↦ pairs_of-later by_front g gs (by_front gap) (front_there gs gap rest)
]

-- a region that shares no position with that of an owner shares none with any
all_apart : (region : Region) (used : List Used) → HaveOwners used → ((owner : ℕ) (taken : Region) → region_at owner used ≡ Some taken → AreApart region taken) →
    AllByRecursion (λ u. AreApart region (region_of u)) used
all_apart region [] have free = tt
all_apart region (u ∷ us) have free = (
  free u.owner (region_of u) (ap (λ b. cond b (Some (region_of u)) (region_at u.owner us)) (itself u.owner)),
  all_apart region us have.1 (λ owner taken at. free owner taken (later owner taken at)),
) where
  by_test : (owner : ℕ) (taken : Region) (b : Bool) → eq_by_cmp nat_cmp owner u.owner ≡ b → region_at owner us ≡ Some taken → cond b (Some (region_of u)) (region_at owner us) ≡ Some taken
  by_test owner taken true e at = absurd (none-some taken (sym have.0 ∙ ap (λ n. region_at n us) (sym (same_owner owner u.owner e)) ∙ at))
  by_test owner taken false e at = at

  later : (owner : ℕ) (taken : Region) → region_at owner us ≡ Some taken → region_at owner (u ∷ us) ≡ Some taken
  later owner taken at = by_test owner taken (eq_by_cmp nat_cmp owner u.owner) refl at

module _ (nodes : List Node) (arena slots : ℕ) (extents fronts : Pairs) (kept : IsKept nodes arena slots extents fronts) (offset need : ℕ) (some : 0 < need) where
  abbrev all : List Gap
  all = gaps_between slots 0 (in_order nodes slots) arena

  abbrev layout : Layout
  layout = record { arena = arena; slots = slots; owned = owned_by (in_order nodes slots) }

  abbrev region : Region
  region = record { start = offset; extent = need }

  -- a free region lies in a gap
  covered : IsFree region layout → Covering all offset need
  covered free =
      covering slots 0 (in_order nodes slots) arena offset need kept.ring.lie some (omega arith) free.within
      (all_apart region (in_order nodes slots) kept.ring.owners (λ owner taken at. free.apart owner taken (get-owned_by (in_order nodes slots) owner ∙ at)))

  -- where no gap begins so early, it is not free
  pub none_begun : IsLastTo offset fronts.members None → ¬ (IsFree region layout)
  none_begun none free =
      let at = covered free in
      none (by_front at.gap) (ap (λ (p : Pairs). set.contains p.members (by_front at.gap)) kept.by_fronts ∙ front_there all at.gap at.among, at.from)

  module _ (start front : ℕ) (last : IsLastTo offset fronts.members (Some (start, front))) where
    pub gap_begun : Begun all start front
    gap_begun = begun all start front (sym (ap (λ (p : Pairs). set.contains p.members (start, front)) kept.by_fronts) ∙ last.0.0)

    pub spot_begun : Spot slots 0 (in_order nodes slots) arena gap_begun.gap
    spot_begun = spot_of slots 0 (in_order nodes slots) arena gap_begun.gap gap_begun.among

    -- where that gap ends too early, it is not free
    pub too_early : gap_begun.gap.end < offset + need → ¬ (IsFree region layout)
    too_early short free =
        let at = covered free in
        let order = last.1 (by_front at.gap) (ap (λ (p : Pairs). set.contains p.members (by_front at.gap)) kept.by_fronts ∙ front_there all at.gap at.among, at.from) in
        let low = (not_before (start, front) (by_front at.gap) order).0 in
        let begins = gap_begun.start_is in
        let early = last.0.1 in
        let enough = at.to in
        let ends = same_gap slots 0 (in_order nodes slots) arena at.gap gap_begun.gap kept.ring.lie at.among gap_begun.among (omega (arith, low, begins)) (omega (arith, begins, early, enough)) in
        omega (arith, short, ends, enough)

-- a region that tiles the arena beside the others was free
pub was_free : (layout : Layout) (owner : ℕ) (region : Region) → fin.get layout.owned owner ≡ None → Tiles (with_region layout owner region) → IsFree region layout
was_free layout owner region none tiles =
    let here = fin.get-insert nat_cmp_total layout.owned owner region owner ∙ ap (λ b. cond b (Some region) (fin.get layout.owned owner)) (itself owner) in
    record {
      within = tiles.within owner region here;
      apart = λ other taken at. tiles.apart owner other region taken (λ e. none-some taken (sym none ∙ ap (fin.get layout.owned) e ∙ at)) here (there other taken at);
    } where
      by_test : (other : ℕ) (taken : Region) (b : Bool) → eq_by_cmp nat_cmp other owner ≡ b → fin.get layout.owned other ≡ Some taken → cond b (Some region) (fin.get layout.owned other) ≡ Some taken
      by_test other taken true e at = absurd (none-some taken (sym none ∙ ap (fin.get layout.owned) (sym (same_owner other owner e)) ∙ at))
      by_test other taken false e at = at

      there : (other : ℕ) (taken : Region) → fin.get layout.owned other ≡ Some taken → fin.get (fin.insert layout.owned owner region) other ≡ Some taken
      there other taken at = fin.get-insert nat_cmp_total layout.owned owner region other ∙ by_test other taken (eq_by_cmp nat_cmp other owner) refl at

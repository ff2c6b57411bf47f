-- What is kept of an arena gives what its calls promise, and goes on to as regions come and go.
use Rattle.std.proofs.Common.{◌≡◌, ℕ, ◌+◌, ◌-◌, ◌^◌, ◌<◌, ◌≤◌, inl, inr, List, [], ◌∷◌, map, Option, Some, None, sym, ap, subst, ◌∙◌, arith}
use Rattle.std.specs.FinSet as set
use Rattle.std.specs.List.{AllByRecursion}
use Rattle.std.specs.Option.{option_map}
use Rattle.ldm_types.specs.Arena.{Region, best_gap, fit, gaps, longest}
use Rattle.ldm_freelist.specs.Pairs.{Pairs, IsBest}
use Rattle.ldm_regions.specs.Layout.{Tiles, occupied}
use Rattle.ldm_regions.specs.Order.{Used}
use Rattle.ldm_regions.specs.Links.{in_order, IsRingOf}
use Rattle.ldm_regions.specs.Gaps.{by_extent, by_front, gaps_between, AreMatched, IsFound, IsLongest}
use Rattle.ldm_regions.specs.Kept.{IsKept}
use Rattle.ldm_regions.specs.declared.links.Node.{Node}
use Rattle.ldm_regions.specs.declared.gaps.Gap.{Gap}
use Rattle.ldm_regions.proofs.Owners.{owned_by}
use Rattle.ldm_regions.proofs.Laid.{tiles, gaps_are}
use Rattle.ldm_regions.proofs.Sets.{pairs_of, extent_tells, front_tells, Has}
use Rattle.ldm_regions.proofs.Seams.{gaps_rise, gaps_within, gaps_fronts, Within, spaces_are, as_region, each_pair, fronted, gap_of, In, Spot, spot_of}
use Rattle.ldm_regions.proofs.Found.{none_is_best, some_is_best, longest_is}
use Rattle.ldm_regions.proofs.Rings.{spelled}

one_within : (arena : ℕ) (gap : Gap) (gaps : List Gap) → In gap gaps → AllByRecursion (Within arena) gaps → Within arena gap
one_within arena gap [] among all = absurd among
one_within arena gap (g ∷ gs) among all = elim among [ inl e ↦ subst (Within arena) e all.0 | inr rest ↦ one_within arena gap gs rest all.1 ]

module _ (nodes : List Node) (arena slots : ℕ) (extents fronts : Pairs) (kept : IsKept nodes arena slots extents fronts) where
  -- they tile the arena
  pub tiles_kept : Tiles (record { arena = arena; slots = slots; owned = owned_by (in_order nodes slots) })
  tiles_kept = tiles (in_order nodes slots) arena slots kept.ring.lie kept.ring.below

  pub longest_kept : (most : ℕ) → IsLongest extents.members most → most ≡ longest (gaps (occupied (owned_by (in_order nodes slots))) arena)
  longest_kept most is =
      let used = in_order nodes slots in
      longest_is (gaps_between slots 0 used arena) most (subst (λ (pairs : Pairs). IsLongest pairs.members most) kept.by_extents is)
      ∙ ap longest (sym (spaces_are slots 0 used arena) ∙ sym (gaps_are used arena kept.ring.lie kept.ring.owners))

  -- each gap is known by where it begins, too
  pub matched : slots < 2 ^ 32 → arena < 2 ^ 64 → AreMatched extents.members fronts.members
  matched few small =
      let used = in_order nodes slots in
      let all = gaps_between slots 0 used arena in
      let within = gaps_within slots 0 used arena kept.ring.lie in
      let numbers = gaps_fronts slots slots 0 used arena (omega arith) kept.ring.below in
      let one = ap (λ (p : Pairs). p.members) kept.by_extents in
      let other = ap (λ (p : Pairs). p.members) kept.by_fronts in
      record {
        end = λ extent start there. each_pair by_extent (Within arena) (λ p. p.1 + p.0 < 2 ^ 64)
            (λ g p is of. let e = ap (λ (p : ℕ × ℕ). p.0) is in let s = ap (λ (p : ℕ × ℕ). p.1) is in let some = of.some in let end = of.end in omega arith)
            all (extent, start) within (sym (ap (λ s. set.contains s (extent, start)) one) ∙ there);
        begins = λ extent start there.
            let found = fronted all extent start (sym (ap (λ s. set.contains s (extent, start)) one) ∙ there) in
            (found.front, ap (λ s. set.contains s (start, found.front)) other ∙ found.there);
        front = λ start front there. each_pair by_front (λ g. g.front ≤ slots) (λ p. p.1 < 2 ^ 32)
            (λ g p is h. let e = ap (λ (p : ℕ × ℕ). p.1) is in omega arith)
            all (start, front) numbers (sym (ap (λ s. set.contains s (start, front)) other) ∙ there);
      }

  best_fits : (need : ℕ) (best : Option Region) → best ≡ best_gap need (map as_region (gaps_between slots 0 (in_order nodes slots) arena)) → option_map (λ (gap : Region). gap.start) best ≡ fit need (occupied (owned_by (in_order nodes slots))) arena
  best_fits need best is =
      let used = in_order nodes slots in
      ap (option_map (λ (gap : Region). gap.start)) (is ∙ ap (best_gap need) (sym (spaces_are slots 0 used arena) ∙ sym (gaps_are used arena kept.ring.lie kept.ring.owners)))

  -- where the sets have no gap that is long enough, a region has no place
  pub none_fits : (need : ℕ) → IsBest need extents.members None → None ≡ fit need (occupied (owned_by (in_order nodes slots))) arena
  none_fits need none =
      let used = in_order nodes slots in
      best_fits need None (none_is_best need (gaps_between slots 0 used arena) (gaps_rise slots 0 used arena kept.ring.lie) (subst (λ (p : Pairs). IsBest need p.members None) kept.by_extents none))

  pub gap_fits : (need : ℕ) (gap : Gap) → IsFound need extents.members fronts.members (Some gap) → Some gap.start ≡ fit need (occupied (owned_by (in_order nodes slots))) arena
  gap_fits need gap is =
      let used = in_order nodes slots in
      best_fits need (Some (as_region gap)) (some_is_best need (gaps_between slots 0 used arena) (gaps_rise slots 0 used arena kept.ring.lie) gap (subst (λ (p : Pairs). IsBest need p.members (Some (by_extent gap))) kept.by_extents is.0))

  -- the gap that the sets tell lies between regions
  pub spot_kept : (need : ℕ) (gap : Gap) → IsFound need extents.members fronts.members (Some gap) → Spot slots 0 (in_order nodes slots) arena gap
  spot_kept need gap is =
      let used = in_order nodes slots in
      let all = gaps_between slots 0 used arena in
      let one = sym (ap (λ (p : Pairs). set.contains p.members (by_extent gap)) kept.by_extents) ∙ is.0.0.0 in
      let other = sym (ap (λ (p : Pairs). set.contains p.members (by_front gap)) kept.by_fronts) ∙ is.2 in
      let of = gap_of all (gap.end - gap.start) gap.start gap.front (gaps_rise slots 0 used arena kept.ring.lie) one other in
      let some = (one_within arena of.gap all of.among (gaps_within slots 0 used arena kept.ring.lie)).some in
      let extents = of.extent_is in
      let starts = of.start_is in
      let upwards = is.1 in
      let ends : of.gap.end ≡ gap.end = omega arith in
      let same : of.gap ≡ gap = λ i. record { start = of.start_is i; end = ends i; front = of.front_is i } in
      subst (Spot slots 0 used arena) same (spot_of slots 0 used arena of.gap of.among)

-- what goes on where a table, and two sets, are as the regions in order have them
pub kept_from : (nodes : List Node) (arena slots : ℕ) (extents fronts : Pairs) (used : List Used) → IsRingOf nodes slots arena used → Has by_extent extent_tells (slots + 1) (gaps_between slots 0 used arena) extents → Has by_front front_tells (slots + 1) (gaps_between slots 0 used arena) fronts → IsKept nodes arena slots extents fronts
kept_from nodes arena slots extents fronts used ring one other =
    let same : used ≡ in_order nodes slots = sym (spelled nodes slots arena used ring) in
    record {
      ring = subst (IsRingOf nodes slots arena) same ring;
      by_extents = one ∙ ap (λ us. record { room = slots + 1; members = pairs_of by_extent (gaps_between slots 0 us arena) }) same;
      by_fronts = other ∙ ap (λ us. record { room = slots + 1; members = pairs_of by_front (gaps_between slots 0 us arena) }) same;
    }

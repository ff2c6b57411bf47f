-- An arena that is one gap.
use Rattle.std.proofs.Common.{◌≡◌, ℕ, ◌+◌, ◌<◌, false, List, [], replicate, sym, ap, subst, ◌∙◌, arith}
use Rattle.std.specs.FinSet as set
use Rattle.std.proofs.lemmas.List.{get_or-replicate, length-replicate}
use Rattle.ldm_freelist.specs.Pairs.{Pairs}
use Rattle.ldm_regions.specs.Links.{node_at, in_order, IsRingOf}
use Rattle.ldm_regions.specs.Gaps.{by_extent, by_front, with_gap}
use Rattle.ldm_regions.specs.Kept.{IsKept}
use Rattle.ldm_regions.specs.declared.links.Node.{Node}
use Rattle.ldm_regions.specs.declared.gaps.Gap.{Gap}
use Rattle.ldm_regions.proofs.Sets.{TellsStart, extent_tells, front_tells, Has, lacks_gap, has_room, with_it}
use Rattle.ldm_regions.proofs.Seams.{gaps_rise, gaps_length}
use Rattle.ldm_regions.proofs.Rings.{spelled}
use Rattle.ldm_regions.proofs.Arenas.{kept_from}

abbrev pub wall_of : ℕ → ℕ → Node
wall_of arena slots = record { start = arena; end = 0; front = slots; behind = slots }

module _ (arena slots : ℕ) where
  ring_first : IsRingOf (replicate (slots + 1) (wall_of arena slots)) slots arena []
  ring_first =
      let is : node_at (replicate (slots + 1) (wall_of arena slots)) slots ≡ wall_of arena slots = get_or-replicate (slots + 1) slots (wall_of arena slots) (record { start = 0; end = 0; front = 0; behind = 0 }) (omega arith) in
      record {
        many = length-replicate (slots + 1) (wall_of arena slots);
        begins = ap (λ (n : Node). n.end) is;
        ends = ap (λ (n : Node). n.start) is;
        joined = (ap (λ (n : Node). n.behind) is, ap (λ (n : Node). n.front) is);
        held = tt;
        lie = omega arith;
        owners = tt;
        below = tt;
      }

  pub none_in_order : (nodes : List Node) → nodes ≡ replicate (slots + 1) (wall_of arena slots) → in_order nodes slots ≡ []
  none_in_order nodes are = ap (λ ns. in_order ns slots) are ∙ spelled (replicate (slots + 1) (wall_of arena slots)) slots arena [] ring_first

  module _ (key : Gap → ℕ × ℕ) (tells : TellsStart key) (pairs : Pairs) (has : Has key tells (slots + 1) [] pairs) where
    pub first_new : 0 < arena → (set.contains pairs.members (key (record { start = 0; end = arena; front = slots })) ≡ false) × (set.len pairs.members < pairs.room)
    first_new some =
        let gap : Gap = record { start = 0; end = arena; front = slots } in
        (lacks_gap key tells (slots + 1) [] gap [] pairs (gaps_rise slots 0 [] arena (omega arith)) has some, has_room key tells (slots + 1) [] gap [] pairs (let one = gaps_length slots 0 [] arena in omega arith) has some)

  pub kept_first : (nodes : List Node) (extents fronts more_extents more_fronts : Pairs) → nodes ≡ replicate (slots + 1) (wall_of arena slots) → Has by_extent extent_tells (slots + 1) [] extents → Has by_front front_tells (slots + 1) [] fronts → more_extents ≡ record extents { members = with_gap by_extent extents.members (record { start = 0; end = arena; front = slots }) } → more_fronts ≡ record fronts { members = with_gap by_front fronts.members (record { start = 0; end = arena; front = slots }) } → IsKept nodes arena slots more_extents more_fronts
  kept_first nodes extents fronts more_extents more_fronts are one other more others =
      let gap : Gap = record { start = 0; end = arena; front = slots } in
      kept_from nodes arena slots more_extents more_fronts [] (subst (λ ns. IsRingOf ns slots arena []) (sym are) ring_first)
      (with_it by_extent extent_tells (slots + 1) [] gap [] extents more_extents one more)
      (with_it by_front front_tells (slots + 1) [] gap [] fronts more_fronts other others)

use Rattle.std.proofs.Common.{◌≡◌, ◌+◌, ◌-◌, Some, ap, ◌∙◌, subst, arith}
use Rattle.std.specs.FinSet as set
use Rattle.ldm_freelist.specs.Pairs.{IsBest}
use Rattle.ldm_regions.proofs.Found.{start_found}
use Rattle.ldm_regions.proofs.gaps.Gaps.best.Goals as goal

pub returns : goal.returns
returns c =
    let start = c.in_ok-extent.start in
    let extent = c.in_ok-extent.extent in
    let best : IsBest c.args.need c.args.self.now.extents.members (Some (extent, start)) = c.in_ok-extent.ensures in
    let first : IsBest start c.args.self.now.fronts.members (Some (c.in-Some.field-0-0, c.in-Some.front)) = c.in-Some.ensures in
    let long : extent ≡ start + extent - start = omega arith in
    let met = c.requires.begins extent start best.0.0 in
    let least = first.1 (start, met.0) (met.1, omega arith) in
    let same = start_found start c.in-Some.field-0-0 met.0 c.in-Some.front first.0.1 least in (
      subst (λ n. IsBest c.args.need c.args.self.now.extents.members (Some (n, start))) long best,
      omega arith,
      ap (λ n. set.contains c.args.self.now.fronts.members (n, c.in-Some.front)) same ∙ first.0.0,
    )

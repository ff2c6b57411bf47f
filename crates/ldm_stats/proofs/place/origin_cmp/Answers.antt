use Rattle.std.proofs.Common.{ap, ◌∙◌, ◌<◌, arith}
use Rattle.std.specs.Ordering.{nat_cmp}
use Rattle.std.specs.Cmp.Lexicographic.{slice_cmp}
use Rattle.ldm_stats.specs.Place.{Place}
use Rattle.ldm_stats.proofs.Fronts.{less_by, greater_by}
use Rattle.ldm_stats.proofs.place.origin_cmp.Goals as goal

pub returns-then-one-other : goal.returns-then-one-other
returns-then-one-other c =
    let some_one : 0 < c.one.inside.front = omega (arith, c.if-one-ne0.true) in
    let some_other : 0 < c.other.inside.front = omega (arith, c.if-other-ne0.true) in
    let less : c.one.inside.front < c.other.inside.front = omega (arith, c.if-one-other.true) in
    less_by c.one.inside.origin.items c.other.inside.origin.items c.one.inside.front c.other.inside.front
    c.one.invariant.1 c.other.invariant.1 some_one some_other less
    ∙ ap (λ (p : Place). slice_cmp nat_cmp p.origin c.other.inside.origin.items) c.one.view_is
    ∙ ap (λ (p : Place). slice_cmp nat_cmp c.args.one.now.origin p.origin) c.other.view_is

pub returns-then-other-one : goal.returns-then-other-one
returns-then-other-one c =
    let some_one : 0 < c.one.inside.front = omega (arith, c.if-one-ne0.true) in
    let some_other : 0 < c.other.inside.front = omega (arith, c.if-other-ne0.true) in
    let less : c.other.inside.front < c.one.inside.front = omega (arith, c.if-other-one.true) in
    greater_by c.one.inside.origin.items c.other.inside.origin.items c.one.inside.front c.other.inside.front
    c.one.invariant.1 c.other.invariant.1 some_one some_other less
    ∙ ap (λ (p : Place). slice_cmp nat_cmp p.origin c.other.inside.origin.items) c.one.view_is
    ∙ ap (λ (p : Place). slice_cmp nat_cmp c.args.one.now.origin p.origin) c.other.view_is

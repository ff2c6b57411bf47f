use Rattle.std.proofs.Common.{◌∙◌, ap}
use Rattle.ldm_types.specs.declared.class.ClassSpec.{ClassSpec}
use Rattle.ldm_class.specs.Classes.{wants}
use Rattle.ldm_class.proofs.Searches.{wanted}
use Rattle.ldm_class.proofs.class_matcher.ClassMatcher.wants.Goals as goal

pub returns-clause-wanted : goal.returns-clause-wanted
returns-clause-wanted c =
    let info = c.args.info.now in
    c.any_wants.ensures.wanted
    ∙ wanted info c.self.inside.spec.now c.as_mut_slice.result.now (c.as_mut_slice.ensures.value ∙ c.self.invariant)
    ∙ ap (λ (class : ClassSpec). wants class info) c.self.view_is

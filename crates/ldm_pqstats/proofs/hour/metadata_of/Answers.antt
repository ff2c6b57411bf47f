use Rattle.std.proofs.Common.{◌≡◌, ◌∙◌, ℕ, List, codes, Some, subst}
use Rattle.ldm_types.specs.Info.{texts_fault}
use Rattle.ldm_pqstats.proofs.Named.{named}
use Rattle.ldm_pqstats.proofs.hour.metadata_of.Goals as goal

pub unreachable-requires : goal.unreachable-requires
unreachable-requires c =
    let ident = c.as_slice.ensures.value ∙ c.ident_of.ensures in
    let is = subst (λ (x : List ℕ). texts_fault (codes "localhost") x ≡ Some c.in-Err.field-0) ident c.in-Err.ensures in
    absurd (cc (is, named c.args.hour))

use Rattle.std.proofs.Common.{◌≡◌, take}
use Rattle.ldm_types.proofs.class.copied_specs.Given as goal

abbrev pub invariant-loop-spec : goal.invariant-loop-spec
invariant-loop-spec l = l.copy.items ≡ take l.spec-index l.spec-items

use Rattle.std.proofs.Common.{◌≡◌, drop}
use Rattle.ldm_class.specs.Classes.{resumed}
use Rattle.ldm_class.proofs.class.Class.resume.Given as goal

abbrev pub invariant-loop-spec : goal.invariant-loop-spec
invariant-loop-spec l = resumed (drop l.spec-index l.spec-items) ≡ resumed l.spec-items

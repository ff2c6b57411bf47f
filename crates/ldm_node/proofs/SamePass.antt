-- One pass of a queue, as it is used by a worker.
use Rattle.std.proofs.Common.{ap, ◌∙◌}
use Rattle.ldm_shared.specs.Passes.{PassView, IsSamePass}

pub same-then : (old mid new : PassView) → IsSamePass old mid → IsSamePass mid new → IsSamePass old new
same-then old mid new one other = other ∙ ap (λ (p : PassView). record p { seen = new.seen }) one

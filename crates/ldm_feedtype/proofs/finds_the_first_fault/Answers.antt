use Rattle.std.proofs.Common.{length}
use Rattle.ldm_feedtype.specs.Parts.{parts}
use Rattle.ldm_feedtype.proofs.Stops.{reading-first_fault}
use Rattle.ldm_feedtype.proofs.finds_the_first_fault.Goals as goal

pub returns : goal.returns
returns c text fault = reading-first_fault (length text) (parts 0 text) fault

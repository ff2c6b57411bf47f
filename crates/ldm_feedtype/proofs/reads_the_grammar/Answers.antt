use Rattle.std.proofs.Common.{length}
use Rattle.ldm_feedtype.specs.Parts.{parts}
use Rattle.ldm_feedtype.proofs.Rules.{reading-spells}
use Rattle.ldm_feedtype.proofs.reads_the_grammar.Goals as goal

pub returns : goal.returns
returns c text set = reading-spells (length text) (parts 0 text) set

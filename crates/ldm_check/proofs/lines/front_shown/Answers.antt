use Rattle.std.proofs.Common.{arith, sym}
use Rattle.std.proofs.lemmas.List.{length-take-le, take_all}
use Rattle.ldm_check.specs.declared.lines.TheConstants.{LONGEST_SHOWN}
use Rattle.ldm_check.proofs.lines.front_shown.Goals as goal

pub slice_bounds-result-end : goal.slice_bounds-result-end
slice_bounds-result-end c = sym (length-take-le LONGEST_SHOWN c.args.text.now (omega arith))

pub returns-else-text-gt-LONGEST_SHOWN : goal.returns-else-text-gt-LONGEST_SHOWN
returns-else-text-gt-LONGEST_SHOWN c = sym (take_all LONGEST_SHOWN c.args.text.now (omega arith))

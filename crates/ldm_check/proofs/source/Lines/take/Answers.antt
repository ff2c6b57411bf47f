use Rattle.std.proofs.Common.{arith}
use Rattle.ldm_text.specs.Lines.{lines_left}
use Rattle.ldm_check.proofs.Splits.{alone, short}
use Rattle.ldm_check.proofs.source.Lines.take.Goals as goal

pub returns-clause-alone : goal.returns-clause-alone
returns-clause-alone c = alone c.in_ok-self.field-0.now c.first_line.result.0.now (lines_left c.first_line.result.1) c.first_line.ensures.lines

pub returns-clause-short : goal.returns-clause-short
returns-clause-short c =
    let fits = rw c.in_ok-self.was at c.requires.1 in
    let within = short c.in_ok-self.field-0.now c.first_line.result.0.now (lines_left c.first_line.result.1) c.first_line.ensures.lines in
    omega (arith, within, fits, c.requires.0)

use Rattle.std.proofs.Common.{◌∙◌, sym}
use Rattle.ldm_wmo.proofs.Numbers.{a_number, no_number}
use Rattle.ldm_wmo.proofs.lines.number_in.Goals as goal

pub returns-then-not-is_numbered : goal.returns-then-not-is_numbered
returns-then-not-is_numbered c = no_number c.args.line.now c.count_digits-count.result c.count_digits-count.ensures.count (sym c.is_numbered.ensures ∙ c.if-not-is_numbered.true)

pub returns : goal.returns
returns c =
    a_number c.args.line.now c.count_digits-count.result c.number_of.result c.count_digits-count.ensures.count (sym c.is_numbered.ensures ∙ c.if-not-is_numbered.false) c.number_of.ensures

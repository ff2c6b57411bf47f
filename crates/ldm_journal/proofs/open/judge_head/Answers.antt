use Rattle.std.proofs.Common.{sym, ◌∙◌}
use Rattle.std.specs.Prelude.{IsTrue}
use Rattle.std.proofs.lemmas.Bool.{both_ways}
use Rattle.ldm_journal.proofs.open.judge_head.Goals as goal

pub returns-then-is_long-clause-judged : goal.returns-then-is_long-clause-judged
returns-then-is_long-clause-judged c = λ file is long.
    let held : IsTrue c.is_long.result = c.if-is_long.true in
    c.ordered_marks.ensures.judged file is (sym long ∙ c.is_long.ensures.0 held)

pub returns-else-is_long-clause-judged : goal.returns-else-is_long-clause-judged
returns-else-is_long-clause-judged c = λ file is long kept note holds. both_ways c.is_long.result c.if-is_long.false (c.is_long.ensures.1 (long ∙ holds.long))

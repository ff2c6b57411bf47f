use Rattle.std.proofs.Common.{arith}
use Rattle.ldm_cursor.proofs.FirstMark.{first_unmarked-trailing_ones}
use Rattle.ldm_cursor.proofs.marks.Marks.first_unmarked.Goals as goal

pub returns-clause-first : goal.returns-clause-first
returns-clause-first c = first_unmarked-trailing_ones c.args.self.bits c.trailing_ones.result c.new.result (omega arith) c.trailing_ones.ensures c.new.ensures

use Rattle.std.proofs.Common.{arith}
use Rattle.ldm_cursor.proofs.FirstMark.{bit_at-end}
use Rattle.ldm_cursor.proofs.marks.Marks.end.Goals as goal

pub returns-clause-rest : goal.returns-clause-rest
returns-clause-rest c = λ i bound. bit_at-end c.args.self.bits (omega arith) i bound

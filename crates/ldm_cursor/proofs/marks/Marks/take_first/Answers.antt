use Rattle.std.proofs.Common.{ap, ◌∙◌, refl, w64, arith}
use Rattle.std.specs.Int.{bit_at, trailing_zeros}
use Rattle.ldm_cursor.proofs.FirstMark.{bit_at-first, fewer_marks}
use Rattle.ldm_cursor.proofs.marks.Marks.take_first.Goals as goal

pub returns-clause-marked : goal.returns-clause-marked
returns-clause-marked c =
    let bits = c.args.self.now.bits in
    ap (bit_at bits) c.in_ok-first.ensures.1 ∙ bit_at-first bits (trailing_zeros w64 bits) (omega arith) refl c.in_ok-first.ensures.0

pub returns-clause-fewer : goal.returns-clause-fewer
returns-clause-fewer c = fewer_marks c.args.self.now.bits c.unmark.new.self.bits c.in_ok-first.first c.unmark.ensures.bound (returns-clause-marked c) c.unmark.ensures.unmarked.unmarked

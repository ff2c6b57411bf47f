use Rattle.std.proofs.Common.{ℕ, ◌<◌, get_or, arith}
use Rattle.ldm_journal.proofs.JudgeLemmas.{spelled_so}
use Rattle.ldm_journal.proofs.record.number_in.Goals as goal

pub returns-clause-spelled : goal.returns-clause-spelled
returns-clause-spelled c =
    let small : (k : ℕ) → get_or c.args.bytes.now k 0 < 256 = λ k. omega (arith, c.type_inv.bytes k) in
    spelled_so c.read_number.result c.args.at c.args.bytes.now c.requires.within small c.read_number.ensures

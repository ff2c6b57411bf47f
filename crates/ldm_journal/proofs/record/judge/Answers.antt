use Rattle.std.proofs.Common.{◌≡◌, List, ℕ, length, ap, sym, ◌∙◌, arith}
use Rattle.std.specs.Prelude.{IsTrue}
use Rattle.md5.specs.Md5.{md5}
use Rattle.ldm_journal.proofs.RecordLemmas.{length-record}
use Rattle.ldm_journal.proofs.JudgeLemmas.{cut_sum, judged_whole}
use Rattle.std.proofs.lemmas.Bool.{both_ways}
use Rattle.ldm_journal.proofs.record.judge.Goals as goal

pub returns-then-bytes-lt-SUM-clause-judged : goal.returns-then-bytes-lt-SUM-clause-judged
returns-then-bytes-lt-SUM-clause-judged c = λ k lawful is. omega (arith, ap length is, length-record k lawful, c.if-bytes-lt-SUM.true)

pub returns-in_default-clause-judged : goal.returns-in_default-clause-judged
returns-in_default-clause-judged c = λ k lawful is.
    let front = c.split_at.result.0.now in
    let sum = c.split_at.result.1.now in
    let long : length sum ≡ 16 = omega (arith, c.split_at.ensures.back_len, c.if-bytes-lt-SUM.false) in
    let cut = cut_sum k front sum long (sym c.split_at.ensures.by_index.0 ∙ is) in
    c.in_default.ensures k lawful cut.0

pub returns-then-is_sum-clause-judged : goal.returns-then-is_sum-clause-judged
returns-then-is_sum-clause-judged c =
    let front = c.split_at.result.0.now in
    let sum = c.split_at.result.1.now in
    let yes : IsTrue c.is_sum.result = c.if-is_sum.true in
    judged_whole c.in-Some.entry front sum c.args.bytes.now c.in-Some.ensures c.split_at.ensures.by_index.0 (c.is_sum.ensures.0 yes)

pub returns-else-is_sum-clause-judged : goal.returns-else-is_sum-clause-judged
returns-else-is_sum-clause-judged c = λ k lawful is.
    let front = c.split_at.result.0.now in
    let sum = c.split_at.result.1.now in
    let long : length sum ≡ 16 = omega (arith, c.split_at.ensures.back_len, c.if-bytes-lt-SUM.false) in
    let cut = cut_sum k front sum long (sym c.split_at.ensures.by_index.0 ∙ is) in
    let summed : sum ≡ md5 front = cut.1 ∙ ap (λ (l : List ℕ). md5 l) (sym cut.0) in
    let held : IsTrue c.is_sum.result = c.is_sum.ensures.1 summed in
    both_ways c.is_sum.result c.if-is_sum.false held

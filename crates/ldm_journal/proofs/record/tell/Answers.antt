use Rattle.std.proofs.Common.{◌≡◌, length, ap, arith}
use Rattle.ldm_journal.proofs.RecordLemmas.{length-record}
use Rattle.ldm_journal.proofs.OneList.{told, has_body}
use Rattle.ldm_journal.proofs.record.tell.Goals as goal

pub returns-then-bytes-lt-SUM-clause-told : goal.returns-then-bytes-lt-SUM-clause-told
returns-then-bytes-lt-SUM-clause-told c = λ k lawful is. omega (arith, ap length is, length-record k lawful, c.if-bytes-lt-SUM.true)

pub returns-clause-told : goal.returns-clause-told
returns-clause-told c =
    let front = c.split_at.result.0.now in
    let sum = c.split_at.result.1.now in
    let long : length sum ≡ 16 = omega (arith, c.split_at.ensures.back_len, c.if-bytes-lt-SUM.false) in
    told c.entry_in.result front sum c.args.bytes.now c.entry_in.ensures c.split_at.ensures.by_index.0 long

pub returns-clause-body : goal.returns-clause-body
returns-clause-body c = has_body c.entry_in.result c.split_at.result.0.now c.split_at.result.1.now c.args.bytes.now c.entry_in.ensures c.split_at.ensures.by_index.0

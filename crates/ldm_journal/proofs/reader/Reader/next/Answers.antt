use Rattle.std.proofs.Common.{◌≡◌, ◌<◌, ◌∙◌, length, refl, arith}
use Rattle.ldm_journal.proofs.NextLemmas.{ended_reading, gave, failed_reading}
use Rattle.ldm_journal.proofs.reader.Reader.next.Goals as goal

pub returns-then-self-eq0-clause-read : goal.returns-then-self-eq0-clause-read
returns-then-self-eq0-clause-read g c =
    let before = c.args.self.now in
    ended_reading before c.args.buffer.now.items (g.D.Disk.tells c.args.disk.now).file (g.met.D.Disk.consistent c.args.disk.now) c.if-self-eq0.true

pub returns-in-Err-clause-read : goal.returns-in-Err-clause-read
returns-in-Err-clause-read g c =
    let before = c.args.self.now in
    let some : 0 < before.left = omega arith in
    failed_reading c.in-Err.fault before before c.take_record.new.buffer.items (g.D.Disk.tells c.args.disk.now).file (g.met.D.Disk.consistent c.args.disk.now) some
    c.in-Err.ensures.taken

pub returns-clause-read : goal.returns-clause-read
returns-clause-read g c =
    let before = c.args.self.now in
    let buffer = c.take_record.new.buffer in
    let some : 0 < before.left = omega arith in
    let len : c.len-len.result ≡ length buffer.items = c.len-len.ensures ∙ buffer.ok.0 in
    gave c.in-Ok.entry before _ buffer.items (g.D.Disk.tells c.args.disk.now).file (g.met.D.Disk.consistent c.args.disk.now) some refl (omega (arith, len))
    (omega (arith, len)) c.in-Ok.ensures.taken

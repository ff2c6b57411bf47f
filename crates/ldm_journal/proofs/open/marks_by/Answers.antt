use Rattle.std.proofs.Common.{◌<◌, arith}
use Rattle.ldm_journal.proofs.OpenWhole.{opened_by_reading}
use Rattle.ldm_journal.proofs.open.marks_by.Goals as goal

pub returns-clause-opened : goal.returns-clause-opened
returns-clause-opened g c =
    let tells = g.D.Disk.tells in
    let some : 0 < c.args.len = omega arith in
    opened_by_reading c.marks_of.result c.args.ring c.args.len (tells c.args.disk.now).file (tells c.marks_of.new.disk).file c.requires.settled c.requires.long some
    (g.met.D.Disk.consistent c.marks_of.new.disk) c.marks_of.ensures.file c.marks_of.ensures.judged

use Rattle.std.proofs.Common.{◌≤◌, arith}
use Rattle.ldm_journal.specs.Records.{Kept}
use Rattle.ldm_journal.specs.Appending.{record_len}
use Rattle.ldm_recorder.proofs.Keeping.{kept_at_once, kept_in_place, not_kept, not_kept_at_once, not_kept_in_place}
use Rattle.ldm_recorder.proofs.save.keep.Goals as goal

pub returns-then-record_bytes-ring-clause-written : goal.returns-then-record_bytes-ring-clause-written
returns-then-record_bytes-ring-clause-written g c =
    let k : Kept = record { number = c.args.number; time = c.args.time; info = c.args.info.now; body = c.args.body.now } in
    not_kept k c.args.journal.now.marks (g.D.Disk.tells c.args.disk.now)
    (omega (arith, c.record_bytes.ensures, c.ring.ensures, c.requires.whole, c.if-record_bytes-ring.true)) c.requires.rises (g.met.D.Disk.consistent c.args.disk.now)

pub returns-in-Appended-clause-written : goal.returns-in-Appended-clause-written
returns-in-Appended-clause-written g c =
    let tells = g.D.Disk.tells in
    let e = c.in-Appended.ensures in
    let k : Kept = record { number = c.args.number; time = c.args.time; info = c.args.info.now; body = c.args.body.now } in
    kept_at_once k c.args.journal.now.marks c.append.new.self.marks e.note (tells c.args.disk.now) (tells c.append.new.disk) e.ended.0 (g.met.D.Disk.consistent c.args.disk.now)
    e.appended e.ring e.kept.faults e.numbered

pub returns-in-DiskFault-clause-written : goal.returns-in-DiskFault-clause-written
returns-in-DiskFault-clause-written g c =
    let tells = g.D.Disk.tells in
    let e = c.in-DiskFault.ensures in
    let k : Kept = record { number = c.args.number; time = c.args.time; info = c.args.info.now; body = c.args.body.now } in
    not_kept_at_once k c.args.journal.now.marks c.append.new.self.marks (tells c.args.disk.now) (tells c.append.new.disk) e.appended e.ended.1

pub returns-in-Ok-clause-written : goal.returns-in-Ok-clause-written
returns-in-Ok-clause-written g c =
    let tells = g.D.Disk.tells in
    let e = c.in-Full.ensures in
    let made = c.in-Ok.ensures.appended in
    let k : Kept = record { number = c.args.number; time = c.args.time; info = c.args.info.now; body = c.args.body.now } in
    let le : record_len k ≤ c.args.journal.now.marks.ring = omega (arith, c.record_bytes.ensures, c.ring.ensures, c.requires.whole, c.if-record_bytes-ring.false) in
    kept_in_place k c.args.journal.now.marks c.append.new.self.marks c.append_in_place.new.journal.marks (tells c.args.disk.now) (tells c.append.new.disk)
    (tells c.append_in_place.new.disk) le e.ended (g.met.D.Disk.consistent c.args.disk.now) (g.met.D.Disk.consistent c.append.new.disk) e.appended e.kept.faults e.ring made.0 made.1

pub returns-in-Err-clause-written : goal.returns-in-Err-clause-written
returns-in-Err-clause-written g c =
    let tells = g.D.Disk.tells in
    let e = c.in-Full.ensures in
    let k : Kept = record { number = c.args.number; time = c.args.time; info = c.args.info.now; body = c.args.body.now } in
    let le : record_len k ≤ c.args.journal.now.marks.ring = omega (arith, c.record_bytes.ensures, c.ring.ensures, c.requires.whole, c.if-record_bytes-ring.false) in
    not_kept_in_place k c.args.journal.now.marks c.append.new.self.marks c.append_in_place.new.journal.marks (tells c.args.disk.now) (tells c.append.new.disk)
    (tells c.append_in_place.new.disk) le e.ended (g.met.D.Disk.consistent c.args.disk.now) (g.met.D.Disk.consistent c.append.new.disk) e.appended e.kept.faults e.ring c.in-Err.why
    c.in-Err.ensures.appended

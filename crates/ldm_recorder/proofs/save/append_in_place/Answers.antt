use Rattle.std.proofs.Common.{◌≡◌, arith}
use Rattle.ldm_journal.specs.Records.{Kept}
use Rattle.ldm_journal.specs.Appending.{record_len}
use Rattle.ldm_recorder.specs.Saving.{kit_of}
use Rattle.ldm_recorder.proofs.Keeping.{not_replaced, replaces}
use Rattle.ldm_recorder.proofs.save.append_in_place.Goals as goal

pub returns-in-Ok-clause-appended : goal.returns-in-Ok-clause-appended
returns-in-Ok-clause-appended g c =
    let tells = g.D.Disk.tells in
    let k : Kept = record { number = c.args.number; time = c.args.time; info = c.args.info.now; body = c.args.body.now } in
    let gap : c.record_bytes.result ≡ record_len k = omega (arith, c.record_bytes.ensures, c.requires.whole) in
    replaces k c.record_bytes.result gap (kit_of c.args.journal.now.marks (tells c.args.disk.now)) c.append_where_free.result
    (kit_of c.save_on.new.journal.marks (tells c.save_on.new.disk)) (kit_of c.append_where_free.new.journal.marks (tells c.append_where_free.new.disk)) c.in-Ok.ensures.saved.0
    c.append_where_free.ensures.appended

pub returns-in-Err-clause-appended : goal.returns-in-Err-clause-appended
returns-in-Err-clause-appended g c =
    let tells = g.D.Disk.tells in
    let k : Kept = record { number = c.args.number; time = c.args.time; info = c.args.info.now; body = c.args.body.now } in
    let gap : c.record_bytes.result ≡ record_len k = omega (arith, c.record_bytes.ensures, c.requires.whole) in
    not_replaced k c.record_bytes.result gap (kit_of c.args.journal.now.marks (tells c.args.disk.now)) c.in-Err.why (kit_of c.save_on.new.journal.marks (tells c.save_on.new.disk))
    c.in-Err.ensures.saved

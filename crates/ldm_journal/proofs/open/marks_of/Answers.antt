use Rattle.std.proofs.Common.{◌≡◌, ◌<◌, length, arith}
use Rattle.std.specs.Prelude.{Ok, Err, IfSome}
use Rattle.ldm_journal.specs.declared.places.TheConstants.{RING}
use Rattle.ldm_journal.specs.Reading.{Fills}
use Rattle.ldm_journal.specs.Opening.{HasMarks, JudgesFile, JudgesRecords}
use Rattle.ldm_disk.proofs.Filled.{both_keep}
use Rattle.ldm_journal.proofs.Stays.{fault_later, in_bytes, in_bytes_both, kept_back}
use Rattle.ldm_journal.proofs.OpenLemmas.{fill_fault, front_fault, front_read, file_judged, records_fault}
use Rattle.ldm_journal.proofs.open.marks_of.Goals as goal

pub short_fault-requires : goal.short_fault-requires
short_fault-requires g c =
    in_bytes (λ bytes. c.args.len ≡ length bytes) (λ bytes. length bytes < RING) (g.D.Disk.tells c.args.disk.now).file (λ bytes is. omega (arith, is, c.if-len-lt-RING.true)) c.requires.long

pub returns-in-Err-clause-judged : goal.returns-in-Err-clause-judged
returns-in-Err-clause-judged g c =
    let ring = c.args.ring in
    let into = c.fill.new.into in
    let fault = c.in-Err.fault in
    let long : length into ≡ RING = omega (arith, c.fill.auto.into) in
    in_bytes (λ bytes. Fills (Err fault) 0 into bytes) (λ bytes. JudgesFile (Err fault) ring bytes) (g.D.Disk.tells c.args.disk.now).file
    (λ bytes fills. fill_fault fault ring into bytes long fills) c.in-Err.ensures.filled

pub returns-in-Err-judge_front-clause-judged : goal.returns-in-Err-judge_front-clause-judged
returns-in-Err-judge_front-clause-judged g c =
    let ring = c.args.ring in
    let into = c.fill.new.into in
    let done = c.in-Ok.field-0 in
    let fault = c.in-Err-judge_front.fault in
    let e = c.in-Err-judge_front.ensures in
    let long : length into ≡ RING = omega (arith, c.fill.auto.into) in
    in_bytes_both (λ bytes. Fills (Ok done) 0 into bytes) (λ bytes. c.args.len ≡ length bytes) (λ bytes. JudgesFile (Err fault) ring bytes) (g.D.Disk.tells c.args.disk.now).file
    (λ bytes fills is. front_fault fault ring bytes e.of_file (e.judged bytes (front_read done into bytes long fills) is)) c.in-Ok.ensures.filled c.requires.long

pub returns-in-Ok-judge_records-clause-judged : goal.returns-in-Ok-judge_records-clause-judged
returns-in-Ok-judge_records-clause-judged g c =
    let tells = g.D.Disk.tells in
    let ring = c.args.ring in
    let into = c.fill.new.into in
    let done = c.in-Ok.field-0 in
    let marks = c.in-Ok-judge_front.marks in
    let so = c.in-Ok-judge_records.field-0 in
    let e = c.in-Ok-judge_front.ensures in
    let long : length into ≡ RING = omega (arith, c.fill.auto.into) in
    let old = (tells c.args.disk.now).file in
    let mid = (tells c.fill.new.disk).file in
    let has : IfSome old (λ f. HasMarks marks ring f.bytes) =
    in_bytes_both (λ bytes. Fills (Ok done) 0 into bytes) (λ bytes. c.args.len ≡ length bytes) (λ bytes. HasMarks marks ring bytes) old
    (λ bytes fills is. e.judged bytes (front_read done into bytes long fills) is) c.in-Ok.ensures.filled c.requires.long in
    in_bytes_both (λ bytes. HasMarks marks ring bytes) (λ bytes. JudgesRecords (Ok so) marks bytes) (λ bytes. JudgesFile (Ok marks) ring bytes) old
    (λ bytes h records. file_judged marks ring bytes e.sound h records) has
    (kept_back (λ bytes. JudgesRecords (Ok so) marks bytes) old mid c.fill.ensures.file c.in-Ok-judge_records.ensures.judged)

pub returns-in-Err-judge_records-clause-judged : goal.returns-in-Err-judge_records-clause-judged
returns-in-Err-judge_records-clause-judged g c =
    let tells = g.D.Disk.tells in
    let ring = c.args.ring in
    let into = c.fill.new.into in
    let done = c.in-Ok.field-0 in
    let marks = c.in-Ok-judge_front.marks in
    let fault = c.in-Err-judge_records.fault in
    let e = c.in-Ok-judge_front.ensures in
    let long : length into ≡ RING = omega (arith, c.fill.auto.into) in
    let old = (tells c.args.disk.now).file in
    let mid = (tells c.fill.new.disk).file in
    let has : IfSome old (λ f. HasMarks marks ring f.bytes) =
    in_bytes_both (λ bytes. Fills (Ok done) 0 into bytes) (λ bytes. c.args.len ≡ length bytes) (λ bytes. HasMarks marks ring bytes) old
    (λ bytes fills is. e.judged bytes (front_read done into bytes long fills) is) c.in-Ok.ensures.filled c.requires.long in
    in_bytes_both (λ bytes. HasMarks marks ring bytes) (λ bytes. JudgesRecords (Err fault) marks bytes) (λ bytes. JudgesFile (Err fault) ring bytes) old
    (λ bytes h records. records_fault fault marks ring bytes h records) has
    (kept_back (λ bytes. JudgesRecords (Err fault) marks bytes) old mid c.fill.ensures.file c.in-Err-judge_records.ensures.judged)

pub returns-in-Ok-judge_records-clause-file : goal.returns-in-Ok-judge_records-clause-file
returns-in-Ok-judge_records-clause-file g c =
    let tells = g.D.Disk.tells in
    both_keep (tells c.args.disk.now).file (tells c.fill.new.disk).file (tells c.judge_records.new.disk).file (g.met.D.Disk.consistent c.args.disk.now)
    (g.met.D.Disk.consistent c.fill.new.disk) c.fill.ensures.file c.judge_records.ensures.file

pub returns-in-Err-judge_records-clause-file : goal.returns-in-Err-judge_records-clause-file
returns-in-Err-judge_records-clause-file g c =
    let tells = g.D.Disk.tells in
    both_keep (tells c.args.disk.now).file (tells c.fill.new.disk).file (tells c.judge_records.new.disk).file (g.met.D.Disk.consistent c.args.disk.now)
    (g.met.D.Disk.consistent c.fill.new.disk) c.fill.ensures.file c.judge_records.ensures.file

pub returns-in-Err-judge_records-clause-failed : goal.returns-in-Err-judge_records-clause-failed
returns-in-Err-judge_records-clause-failed g c =
    let tells = g.D.Disk.tells in
    fault_later c.in-Err-judge_records.fault (tells c.args.disk.now) (tells c.fill.new.disk) (tells c.judge_records.new.disk) c.fill.ensures.kept.faults c.in-Err-judge_records.ensures.failed

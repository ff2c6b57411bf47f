use Rattle.ldm_journal.specs.Records.{Kept}
use Rattle.ldm_recorder.specs.Saving.{kit_of}
use Rattle.ldm_recorder.proofs.Products.{wrote, wrote_line, wrote_no_line, wrote_none}
use Rattle.ldm_recorder.proofs.write.write.Goals as goal

pub returns-in-Ok-true-clause-written : goal.returns-in-Ok-true-clause-written
returns-in-Ok-true-clause-written g c = λ who pass ring.
    let k : Kept = record { number = c.args.number; time = c.args.time; info = c.args.info.now; body = c.args.body.now } in
    wrote who c.args.n k pass (kit_of c.args.journal.now.marks (g.D.Disk.tells c.args.disk.now)) (kit_of c.keep.new.journal.marks (g.D.Disk.tells c.keep.new.disk))
    (g.E.Sink.tells c.args.log.now) ring (rw c.in-Ok-true.field-0-test at c.in-Ok-true.ensures.written)

pub returns-in-Ok-clause-written : goal.returns-in-Ok-clause-written
returns-in-Ok-clause-written g c = λ who pass ring.
    let k : Kept = record { number = c.args.number; time = c.args.time; info = c.args.info.now; body = c.args.body.now } in
    wrote_line who c.args.n k pass (kit_of c.args.journal.now.marks (g.D.Disk.tells c.args.disk.now)) (kit_of c.keep.new.journal.marks (g.D.Disk.tells c.keep.new.disk))
    (g.E.Sink.tells c.args.log.now) ring (g.E.Sink.tells c.write_gap.new.log) (rw c.in-Ok-false.field-0-test at c.in-Ok-false.ensures.written) c.in-Ok.ensures.written
    c.in-Ok.ensures.faults_kept

pub returns-in-Err-write_gap-clause-written : goal.returns-in-Err-write_gap-clause-written
returns-in-Err-write_gap-clause-written g c = λ who pass ring.
    let k : Kept = record { number = c.args.number; time = c.args.time; info = c.args.info.now; body = c.args.body.now } in (
      wrote_no_line who c.args.n k pass (kit_of c.args.journal.now.marks (g.D.Disk.tells c.args.disk.now)) (kit_of c.keep.new.journal.marks (g.D.Disk.tells c.keep.new.disk))
          (g.E.Sink.tells c.args.log.now) ring (g.E.Sink.tells c.write_gap.new.log) (rw c.in-Ok-false.field-0-test at c.in-Ok-false.ensures.written)
          c.in-Err-write_gap.ensures.written.1 c.in-Err-write_gap.ensures.faults_kept,
      c.in-Err-write_gap.ensures.written.0,
    )

pub returns-in-Err-clause-written : goal.returns-in-Err-clause-written
returns-in-Err-clause-written g c = λ who pass ring.
    let k : Kept = record { number = c.args.number; time = c.args.time; info = c.args.info.now; body = c.args.body.now } in
    wrote_none who c.args.n k pass (kit_of c.args.journal.now.marks (g.D.Disk.tells c.args.disk.now)) (kit_of c.keep.new.journal.marks (g.D.Disk.tells c.keep.new.disk))
    (g.E.Sink.tells c.args.log.now) ring c.in-Err.why c.in-Err.ensures.written c.in-Err.ensures.kept.faults

use Rattle.std.proofs.Common.{[], refl, sym, ap, ◌∙◌, append-nil}
use Rattle.ldm_intake.specs.Products.{hereis, blkdata}
use Rattle.ldm_intake.specs.Record.{call_course, record_course}
use Rattle.ldm_intake.specs.TakesRecord.{stands}
use Rattle.ldm_intake.proofs.Calling.{goes_by_none}
use Rattle.ldm_intake.proofs.FeedCourses.{feeding, takes_same}
use Rattle.ldm_intake.proofs.intake.Intake.take_message.Goals as goal

pub returns-in-Some-Isalive-clause-took : goal.returns-in-Some-Isalive-clause-took
returns-in-Some-Isalive-clause-took g c =
    let self = c.args.self.now in
    let out = c.args.out.now.items in
    let notes = c.args.notes.now.items in
    let read = rw c.in-Some-Isalive.field-0-is at c.in-Some-Isalive.ensures.read in
    goes_by_none self self self [] [] out out notes notes refl (sym (append-nil out)) (sym (append-nil notes))
    (record_course self c.args.now c.args.content.now) c.args.pass.now
    (feeding self c.args.now c.args.content.now c.requires.feeding ∙ ap (call_course self c.args.now) read)

pub returns-in-Some-Hereis-clause-kept : goal.returns-in-Some-Hereis-clause-kept
returns-in-Some-Hereis-clause-kept g c =
    let product = c.in-Some-Hereis.product in
    takes_same c.hereis.result (hereis c.args.self.now c.args.now product.info product.body.now)
    (stands c.args.self.now c.args.pass.now [] c.args.notes.now.items) (stands c.hereis.new.self c.hereis.new.pass [] c.hereis.new.notes.items) (c.hereis.ensures [])

pub returns-in-Some-Blkdata-clause-kept : goal.returns-in-Some-Blkdata-clause-kept
returns-in-Some-Blkdata-clause-kept g c =
    let part = c.in-Some-Blkdata.part in
    takes_same c.blkdata.result (blkdata c.args.self.now c.args.now part.signature.0 part.number part.block.now)
    (stands c.args.self.now c.args.pass.now [] c.args.notes.now.items) (stands c.blkdata.new.self c.blkdata.new.pass [] c.blkdata.new.notes.items) (c.blkdata.ensures [])

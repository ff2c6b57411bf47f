use Rattle.std.specs.Prelude.{Ok, Err, length, ◌+◌}
use Rattle.ldm_disk.specs.Told.{IsConsistent}
use Rattle.ldm_disk.specs.Calls.{WritesFile}
use Rattle.ldm_journal.specs.declared.places.TheConstants.{RING}
use Rattle.ldm_journal.specs.Pushing.{Pushes, place_behind}
use Rattle.ldm_disk.proofs.Told.{mapped}
use Rattle.ldm_journal.proofs.PushLemmas.{Fits, part_pushed, part_failed}
use Rattle.ldm_journal.proofs.push.push_part.Goals as goal

pub returns-in-Ok-clause-pushed : goal.returns-in-Ok-clause-pushed
returns-in-Ok-clause-pushed g c =
    let tells = g.D.Disk.tells in
    let marks = c.args.marks.now in
    let piece = c.args.piece.now in
    let fits : Fits marks (length piece) = record { sound = c.requires.sound; room = c.requires.room; within = c.requires.within } in
    mapped IsConsistent (WritesFile (Ok c.in-Ok.field-0) (RING + place_behind marks) piece) (Pushes (Ok c.in-Ok.field-0) marks piece)
    (λ old new consistent wrote. part_pushed marks piece c.in-Ok.field-0 old new fits consistent wrote)
    (tells c.args.disk.now).file (tells c.write_at.new.self).file (g.met.D.Disk.consistent c.args.disk.now)
    (rw c.behind.ensures at c.in-Ok.ensures.written)

pub returns-in-Err-clause-pushed : goal.returns-in-Err-clause-pushed
returns-in-Err-clause-pushed g c =
    let tells = g.D.Disk.tells in
    let marks = c.args.marks.now in
    let piece = c.args.piece.now in
    let fits : Fits marks (length piece) = record { sound = c.requires.sound; room = c.requires.room; within = c.requires.within } in
    mapped IsConsistent (WritesFile (Err c.in-Err.failed) (RING + place_behind marks) piece) (Pushes (Err c.in-Err.failed) marks piece)
    (λ old new consistent goes. part_failed marks piece c.in-Err.failed old new fits consistent goes)
    (tells c.args.disk.now).file (tells c.write_at.new.self).file (g.met.D.Disk.consistent c.args.disk.now)
    (rw c.behind.ensures at c.in-Err.ensures.written)

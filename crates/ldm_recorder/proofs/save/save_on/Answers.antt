use Rattle.ldm_recorder.specs.Saving.{kit_of}
use Rattle.ldm_recorder.proofs.Keeping.{saved_on}
use Rattle.ldm_recorder.proofs.save.save_on.Goals as goal

pub returns-clause-saved : goal.returns-clause-saved
returns-clause-saved g c =
    let tells = g.D.Disk.tells in
    let before = c.args.journal.now.marks in
    saved_on c.save.result c.args.gap c.note.result.now (kit_of before (tells c.args.disk.now)) (kit_of c.save.new.journal.marks (tells c.save.new.disk)) c.note.ensures c.save.ensures.saved

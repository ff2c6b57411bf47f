use Rattle.ldm_image.proofs.SaveLemmas.{not_saved, was_saved, was_faulty}
use Rattle.ldm_image.proofs.save.save_image.Goals as goal

pub returns-in_default-clause-saved : goal.returns-in_default-clause-saved
returns-in_default-clause-saved g c = not_saved c.args.book.now (g.D.Disk.tells c.args.disk.now).file

pub returns-in-Ok-write_image-clause-saved : goal.returns-in-Ok-write_image-clause-saved
returns-in-Ok-write_image-clause-saved g c =
    let tells = g.D.Disk.tells in
    was_saved c.in-Ok-write_image.field-0 c.args.book.now (tells c.args.disk.now).file (tells c.write_image.new.disk).file c.in-Ok-write_image.ensures.written

pub returns-clause-saved : goal.returns-clause-saved
returns-clause-saved g c =
    let tells = g.D.Disk.tells in
    was_faulty c.in-Err.field-0 c.args.book.now (tells c.args.disk.now).file (tells c.write_image.new.disk).file c.in-Err.ensures.written

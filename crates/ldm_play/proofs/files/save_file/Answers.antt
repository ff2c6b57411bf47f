use Rattle.ldm_play.proofs.OpenLemmas.{attached_saves}
use Rattle.ldm_play.proofs.files.save_file.Goals as goal

pub returns-in-Ok-clause-saves : goal.returns-in-Ok-clause-saves
returns-in-Ok-clause-saves g c =
    let old = g.D.Disk.tells c.args.disk.now in
    let mid = g.D.Disk.tells c.attach.new.self in
    let new = g.D.Disk.tells c.save_image.new.disk in
    attached_saves old mid new (g.met.D.Disk.consistent c.args.disk.now) (g.met.D.Disk.consistent c.attach.new.self) (g.met.D.Disk.consistent c.save_image.new.disk)
    c.in-Ok.ensures.attached c.in-Ok.ensures.failed c.save_image.result c.args.book.now c.save_image.ensures.image c.save_image.ensures.saved c.save_image.ensures.ended

use Rattle.ldm_image.proofs.OpeningLemmas.{opens_behind}
use Rattle.ldm_image.proofs.open.open_image.Goals as goal

pub returns-in-Ok-clause-opens : goal.returns-in-Ok-clause-opens
returns-in-Ok-clause-opens g c =
    let tells = g.D.Disk.tells in
    opens_behind c.open_file.result (tells c.args.disk.now) (tells c.len.new.self) (tells c.open_file.new.disk) (g.met.D.Disk.consistent c.args.disk.now)
    c.in-Ok.ensures.file c.in-Ok.ensures.kept.faults c.open_file.ensures.opens

use Rattle.ldm_drive.proofs.Kept.{open_after_write}
use Rattle.ldm_drive.proofs.files.write.Goals as goal

pub returns : goal.returns
returns g c = open_after_write c.write.result c.args.file c.args.piece.now (g.F.Store.tells c.args.store.now) (g.F.Store.tells c.write.new.self) c.write.ensures.written c.requires

use Rattle.ldm_drive.proofs.Kept.{open_after_empty}
use Rattle.ldm_drive.proofs.files.empty.Goals as goal

pub returns : goal.returns
returns g c = open_after_empty c.empty.result c.args.file (g.F.Store.tells c.args.store.now) (g.F.Store.tells c.empty.new.self) c.empty.ensures.emptied c.requires

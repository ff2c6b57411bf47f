use Rattle.ldm_drive.proofs.Kept.{opened}
use Rattle.ldm_drive.proofs.files.open.Goals as goal

pub returns : goal.returns
returns g c = opened c.append_to.result c.args.path.now (g.F.Store.tells c.args.store.now) (g.F.Store.tells c.append_to.new.self) c.append_to.ensures.opened

use Rattle.ldm_actions.proofs.FileSteps.{flushes_newest}
use Rattle.ldm_actions.proofs.open_files.flush_newest.Goals as goal

pub returns : goal.returns
returns g c =
    let tells = g.F.Store.tells in
    flushes_newest c.flush.result (c.newest.ensures.0, c.newest.result) c.args.files.now (tells c.args.store.now) (tells c.flush.new.self) c.newest.ensures.1
    c.flush.ensures.flushed c.requires.keeps

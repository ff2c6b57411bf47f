use Rattle.ldm_actions.specs.OpenFiles.{file_side}
use Rattle.ldm_actions.proofs.FileSteps.{begins_anew}
use Rattle.ldm_actions.proofs.open_files.begin.Goals as goal

pub returns-in-Ok : goal.returns-in-Ok
returns-in-Ok g c =
    let tells = g.F.Store.tells in
    begins_anew c.args.options.overwrite c.args.path.now (c.newest.ensures.0, c.newest.result) (file_side c.args.files.now (tells c.args.store.now))
    (file_side c.use_file.new.files (tells c.use_file.new.store)) (tells c.empty.new.self) c.if-not-options.false c.in-Ready.ensures c.newest.ensures.1
    c.in-Ok.ensures.emptied

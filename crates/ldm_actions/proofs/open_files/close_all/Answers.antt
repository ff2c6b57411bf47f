use Rattle.std.proofs.lemmas.Result.{err_from_is_err_and}
use Rattle.ldm_actions.specs.OpenFiles.{file_side}
use Rattle.ldm_actions.proofs.FileSteps.{fewer_kept, shutting_begins, shutting_fails, shutting_goes_on}
use Rattle.ldm_actions.proofs.open_files.close_all.Goals as goal

pub loop-files-init : goal.loop-files-init
loop-files-init g c = shutting_begins (file_side c.args.files.now (g.F.Store.tells c.args.store.now)) c.requires

pub loop-files-smaller : goal.loop-files-smaller
loop-files-smaller g c =
    let tells = g.F.Store.tells in
    fewer_kept (file_side c.loop-files.files (tells c.loop-files.store)) (file_side c.shut_oldest.new.files (tells c.shut_oldest.new.store))
    (rw c.len.ensures at c.loop-files-test.true) c.in_ok-shut_oldest.ensures.0.kept_now

pub loop-files-preserved : goal.loop-files-preserved
loop-files-preserved g c =
    let tells = g.F.Store.tells in
    shutting_goes_on (file_side c.args.files.now (tells c.args.store.now)) (file_side c.loop-files.files (tells c.loop-files.store))
    (file_side c.shut_oldest.new.files (tells c.shut_oldest.new.store)) (rw c.len.ensures at c.loop-files-test.true) c.loop-files.invariant
    c.in_ok-shut_oldest.ensures

pub returns-in_err-shut_oldest : goal.returns-in_err-shut_oldest
returns-in_err-shut_oldest g c =
    let tells = g.F.Store.tells in
    let p = err_from_is_err_and c.from_residual.result c.from_residual.ensures.1 in
    rw p.1
    (shutting_fails (file_side c.args.files.now (tells c.args.store.now)) (file_side c.loop-files.files (tells c.loop-files.store))
    (file_side c.shut_oldest.new.files (tells c.shut_oldest.new.store)) c.loop-files.invariant c.in_err-shut_oldest.ensures)

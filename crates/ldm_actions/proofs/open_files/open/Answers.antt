use Rattle.std.proofs.Common.{inl}
use Rattle.std.proofs.lemmas.Result.{err_from_is_err_and}
use Rattle.ldm_actions.proofs.FileSteps.{opens_after}
use Rattle.ldm_actions.proofs.open_files.open.Goals as goal

pub returns : goal.returns
returns g c =
    let tells = g.F.Store.tells in
    opens_after c.append_to.result c.args.gone c.args.path.now (tells c.args.store.now) (tells c.shut_gone.new.store) (tells c.append_to.new.self)
    c.in_ok-shut_gone.ensures c.append_to.ensures.opened

pub returns-in_err-shut_gone : goal.returns-in_err-shut_gone
returns-in_err-shut_gone g c =
    let p = err_from_is_err_and c.from_residual.result c.from_residual.ensures.1 in
    rw p.1 (inl c.in_err-shut_gone.ensures)

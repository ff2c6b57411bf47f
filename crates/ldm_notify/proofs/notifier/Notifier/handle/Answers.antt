use Rattle.std.proofs.Common.{refl}
use Rattle.std.proofs.lemmas.Result.{err_from_is_err_and}
use Rattle.ldm_notify.specs.Notifier.{asked_by}
use Rattle.ldm_notify.proofs.Handling.{handled, handled_short, handled_unsent, handled_worn}
use Rattle.ldm_notify.proofs.notifier.Notifier.handle.Goals as goal

pub returns-in_err-tell_if_due-clause-handles : goal.returns-in_err-tell_if_due-clause-handles
returns-in_err-tell_if_due-clause-handles g c =
    let why = err_from_is_err_and c.from_residual.result c.from_residual.ensures.1 in
    let told = c.in_err-tell_if_due.ensures.tells c.args.pass.now (g.K.Link.tells c.args.link.now) c.requires.not_closed
    in
    rw (why.1, why.2) (handled_short (asked_by c.args.self.now) _ c.args.held.n _ _ _ _ c.requires.holds told)

pub returns-in-Worn-clause-handles : goal.returns-in-Worn-clause-handles
returns-in-Worn-clause-handles g c =
    let told = c.in_ok-tell_if_due.ensures.tells c.args.pass.now (g.K.Link.tells c.args.link.now) c.requires.not_closed
    in
    handled_worn (asked_by c.args.self.now) _ _ _ _ _ _ _ _ _ _ _ c.requires.not_closed told c.in-Worn.ensures.worn

pub returns-in_err-send_where_full-clause-handles : goal.returns-in_err-send_where_full-clause-handles
returns-in_err-send_where_full-clause-handles g c =
    let residual = c.from_residual-in_err-send_where_full in
    let why = err_from_is_err_and residual.result residual.ensures.1 in
    let told = c.in_ok-tell_if_due.ensures.tells c.args.pass.now (g.K.Link.tells c.args.link.now) c.requires.not_closed
    in
    let released = c.in_default.ensures in
    let sent = c.in_err-send_where_full.ensures in
    rw (why.1, why.2) (handled_unsent (asked_by c.args.self.now) _ _ _ _ _ _ _ _ _ _ _ _ c.requires.not_closed told refl
    released.done.makes released.cursor sent.faults_kept sent.sent)

pub returns-clause-handles : goal.returns-clause-handles
returns-clause-handles g c =
    let told = c.in_ok-tell_if_due.ensures.tells c.args.pass.now (g.K.Link.tells c.args.link.now) c.requires.not_closed
    in
    let released = c.in_default.ensures in
    handled (asked_by c.args.self.now) _ _ _ _ _ _ _ _ _ _ _ _ c.requires.not_closed told refl released.done.makes
    released.cursor c.in_ok-send_where_full.ensures.sent

use Rattle.std.proofs.Common.{sym}
use Rattle.std.proofs.lemmas.Result.{err_from_is_err_and}
use Rattle.ldm_sender.proofs.Stepping.{lost, lost_unlogged, unstepped, idle_by}
use Rattle.ldm_notify.specs.Notifier.{asked_by}
use Rattle.ldm_notify.specs.Telling.{row_of}
use Rattle.ldm_notify.specs.Turn.{notice_kind}
use Rattle.ldm_notify.proofs.Stepping.{gave_by, steps_by}
use Rattle.ldm_notify.proofs.notifier.Notifier.turn.Goals as goal

pub handle-requires-clause-holds : goal.handle-requires-clause-holds
handle-requires-clause-holds g c =
    let at = rw c.in-Done-Product.field-0-is at c.in-Done-Product.ensures in
    at.cursor.1.cursor

pub returns-in_err-write_gap-in-Done-Gap-clause-turns : goal.returns-in_err-write_gap-in-Done-Gap-clause-turns
returns-in_err-write_gap-in-Done-Gap-clause-turns g c =
    let why = err_from_is_err_and c.from_residual.result c.from_residual.ensures.1 in
    let at = rw c.in-Done-Gap.field-0-is at c.in-Done-Gap.ensures in
    let failed = c.in_err-write_gap-in-Done-Gap.ensures.written in
    let steps =
    lost_unlogged notice_kind (asked_by c.args.self.now) c.args.self.now.reader.k c.args.self.now.standing _
    c.host.result.now _ _ _ _ _ (sym c.host.ensures) at.done.makes c.requires.not_closed at.cursor
    c.in_err-write_gap-in-Done-Gap.ensures.faults_kept failed.0 failed.1 in
    rw (why.1, why.2) (steps.course, steps.ends)

pub returns-in_ok-write_gap-in-Done-Gap-clause-turns : goal.returns-in_ok-write_gap-in-Done-Gap-clause-turns
returns-in_ok-write_gap-in-Done-Gap-clause-turns g c =
    let at = rw c.in-Done-Gap.field-0-is at c.in-Done-Gap.ensures in
    let steps =
    lost notice_kind (asked_by c.args.self.now) c.args.self.now.reader.k c.args.self.now.standing _
    c.host.result.now _ _ _ _ _ (sym c.host.ensures) at.done.makes c.requires.not_closed at.cursor
    c.in_ok-write_gap-in-Done-Gap.ensures.faults_kept c.in_ok-write_gap-in-Done-Gap.ensures.written in
    (steps.turns, steps.makes)

pub returns-in-Done-Product-clause-turns : goal.returns-in-Done-Product-clause-turns
returns-in-Done-Product-clause-turns g c =
    let at = rw c.in-Done-Product.field-0-is at c.in-Done-Product.ensures in
    let body = at.cursor.0 in
    let held = at.cursor.1 in
    gave_by c.handle.result (asked_by c.args.self.now) _ (row_of c.in-Done-Product.held) _ _ _ c.step.new.pass _
    c.products_stay.ensures.stays (body, held.row) c.requires.not_closed at.done.makes c.handle.ensures.handles

pub returns-in-Done-End-clause-turns : goal.returns-in-Done-End-clause-turns
returns-in-Done-End-clause-turns g c =
    let asked = asked_by c.args.self.now in
    let at = rw c.in-Done-End.field-0-is at c.in-Done-End.ensures in
    steps_by c.wait_idle.result _ _ _ _ _ _
    (idle_by notice_kind asked _ _ _ _ c.step.new.pass _ c.requires.not_closed at.cursor at.done.makes
    c.wait_idle.result _ (c.wait_idle.ensures.idles asked.host c.step.new.pass (g.E.Sink.tells c.args.log.now)))

pub returns-in-Worn-clause-turns : goal.returns-in-Worn-clause-turns
returns-in-Worn-clause-turns g c =
    let steps = unstepped notice_kind (asked_by c.args.self.now) c.args.self.now.reader.k c.args.self.now.standing _ _ _
    c.requires.not_closed c.in-Worn.ensures.worn in
    (steps.course, steps.ends)

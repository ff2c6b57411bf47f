use Rattle.std.proofs.Common.{sym}
use Rattle.std.proofs.lemmas.Result.{err_from_is_err_and}
use Rattle.ldm_sender.proofs.Stepping.{lost, lost_unlogged, unstepped, idle_by}
use Rattle.ldm_upstream.specs.Feeder.{asked_by}
use Rattle.ldm_upstream.specs.Giving.{given_of}
use Rattle.ldm_upstream.specs.Turn.{feeding_kind}
use Rattle.ldm_upstream.proofs.Stepping.{gave_by, steps_by, steps_off, steps_on}
use Rattle.ldm_upstream.proofs.feeder.Feeder.turn.Goals as goal

pub returns-in_err-write_gap-in-Done-Gap-clause-turns : goal.returns-in_err-write_gap-in-Done-Gap-clause-turns
returns-in_err-write_gap-in-Done-Gap-clause-turns g c =
    let why = err_from_is_err_and c.from_residual.result c.from_residual.ensures.1 in
    let at = rw c.in-Done-Gap.field-0-is at c.in-Done-Gap.ensures in
    let failed = c.in_err-write_gap-in-Done-Gap.ensures.written in
    rw (why.1, why.2)
    (steps_off _ _ _ _ _ _ _
    (lost_unlogged feeding_kind (asked_by c.args.self.now) _ _ _ c.host.result.now _ _ _ _ _ (sym c.host.ensures)
    at.done.makes c.requires.not_closed at.cursor c.in_err-write_gap-in-Done-Gap.ensures.faults_kept failed.0 failed.1))

pub returns-in_ok-write_gap-in-Done-Gap-clause-turns : goal.returns-in_ok-write_gap-in-Done-Gap-clause-turns
returns-in_ok-write_gap-in-Done-Gap-clause-turns g c =
    let at = rw c.in-Done-Gap.field-0-is at c.in-Done-Gap.ensures in
    steps_on _ _ _ _ _ _ _
    (lost feeding_kind (asked_by c.args.self.now) _ _ _ c.host.result.now _ _ _ _ _ (sym c.host.ensures) at.done.makes
    c.requires.not_closed at.cursor c.in_ok-write_gap-in-Done-Gap.ensures.faults_kept
    c.in_ok-write_gap-in-Done-Gap.ensures.written)

pub returns-in-Done-Product-clause-turns : goal.returns-in-Done-Product-clause-turns
returns-in-Done-Product-clause-turns g c =
    let at = rw c.in-Done-Product.field-0-is at c.in-Done-Product.ensures in
    let body = at.cursor.0 in
    let held = at.cursor.1 in
    gave_by (asked_by c.args.self.now) _ (given_of c.in-Done-Product.held body) _ _ c.step.new.pass _ _
    c.products_stay.ensures.stays held.row c.requires.not_closed at.done.makes c.handle.result _ _
    (c.handle.ensures.handles body held)

pub returns-in-Done-End-clause-turns : goal.returns-in-Done-End-clause-turns
returns-in-Done-End-clause-turns g c =
    let asked = asked_by c.args.self.now in
    let at = rw c.in-Done-End.field-0-is at c.in-Done-End.ensures in
    steps_by c.wait_idle.result _ _ _ _ _ _ _
    (idle_by feeding_kind asked _ _ _ _ c.step.new.pass _ c.requires.not_closed at.cursor at.done.makes
    c.wait_idle.result _ (c.wait_idle.ensures.idles asked.host c.step.new.pass (g.E.Sink.tells c.args.log.now)))

pub returns-in-Worn-clause-turns : goal.returns-in-Worn-clause-turns
returns-in-Worn-clause-turns g c =
    steps_off _ _ _ _ _ _ _
    (unstepped feeding_kind (asked_by c.args.self.now) _ _ _ _ _ c.requires.not_closed c.in-Worn.ensures.worn)

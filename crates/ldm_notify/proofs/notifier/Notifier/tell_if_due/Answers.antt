use Rattle.std.proofs.Common.{◌∙◌, refl, sym}
use Rattle.std.proofs.lemmas.Result.{err_from_is_err_and}
use Rattle.ldm_shared.proofs.Made.{calls_none}
use Rattle.ldm_sender.specs.Does.{moment_of}
use Rattle.ldm_sender.proofs.Doing.{nothing_done}
use Rattle.ldm_notify.specs.Notifier.{asked_by}
use Rattle.ldm_notify.specs.Turn.{Told}
use Rattle.ldm_notify.specs.Telling.{notice_deed, row_of}
use Rattle.ldm_notify.proofs.Asked.{is_asked_by}
use Rattle.ldm_notify.proofs.Handling.{tells, tells_nothing}
use Rattle.ldm_notify.proofs.notifier.Notifier.tell_if_due.Goals as goal

pub returns-then-not-is_due-clause-tells : goal.returns-then-not-is_due-clause-tells
returns-then-not-is_due-clause-tells g c = λ pass link unclosed.
    let asked = asked_by c.args.self.now in
    tells_nothing asked _ _ _ unclosed (sym (c.is_due.ensures.due asked (is_asked_by c.args.self.now))
    ∙ c.if-not-is_due.true)

pub returns-in_err-write_message-clause-tells : goal.returns-in_err-write_message-clause-tells
returns-in_err-write_message-clause-tells g c =
    let why = err_from_is_err_and c.from_residual.result c.from_residual.ensures.1 in
    rw why.1 λ pass link unclosed.
    let clock = g.C.Clock.tells c.args.clock.now in
    record {
      due = sym (c.is_due.ensures.due (asked_by c.args.self.now) (is_asked_by c.args.self.now)) ∙ c.if-not-is_due.false;
      breaks =
          nothing_done (moment_of pass link clock c.args.self.now.out.items)
          (moment_of pass link clock c.write_message.new.out.items)
          (notice_deed c.args.self.now.standing.next (row_of c.args.held.now)
          (Told 0)) unclosed (calls_none pass) refl refl;
    }

pub returns-clause-tells : goal.returns-clause-tells
returns-clause-tells g c = λ pass link unclosed.
    let asked = asked_by c.args.self.now in
    tells asked _ _ _ pass link _ _ _ _ c.copy.result unclosed
    (sym (c.is_due.ensures.due asked (is_asked_by c.args.self.now)) ∙ c.if-not-is_due.false) c.copy.ensures
    c.in_ok-write_message.ensures.ok c.count_call.ensures.answered c.count_call.ensures.next

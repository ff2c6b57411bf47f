use Rattle.std.proofs.Common.{[], ◌∙◌, ap, refl, true}
use Rattle.ldm_shared.specs.Passes.{PassView}
use Rattle.ldm_sender.specs.Opening.{Opened}
use Rattle.ldm_sender.proofs.Sent.{closes, worn_closes, worn_sent}
use Rattle.ldm_sender.proofs.Settling.{left_closed, left_open}
use Rattle.ldm_sender.proofs.Steps.{same_then}
use Rattle.ldm_notify.specs.Notifier.{asked_by}
use Rattle.ldm_notify.specs.Turn.{notice_kind}
use Rattle.ldm_notify.proofs.Closing.{notified}
use Rattle.ldm_notify.proofs.Turning.{notice_lawful}
use Rattle.ldm_notify.proofs.notifier.Notifier.tell.Goals as goal

pub returns-in-Worn-clause-notified : goal.returns-in-Worn-clause-notified
returns-in-Worn-clause-notified g c = λ missed first answer makes.
    notified _ _ _ _ _ _
    (worn_sent notice_kind notice_lawful (asked_by c.args.self.now) c.products_stay.ensures.stays first
    c.begin-end.new.pass _ _ _ _ c.begin-end.result [] (Opened missed c.args.self.now.reader.k) _ c.in-Worn.is refl
    c.begin-end.ensures.still_open (c.begin-end.ensures.notified missed first answer makes))

pub returns-in-Worn-close : goal.returns-in-Worn-close
returns-in-Worn-close g c =
    let found = c.in-Worn-close.ensures in
    record {
      kept = same_then c.args.pass.now c.begin-end.new.pass c.close.new.pass c.begin-end.ensures.kept found.kept;
      notified = λ missed first answer makes.
          notified _ _ _ _ _ _
          (worn_closes notice_kind notice_lawful (asked_by c.args.self.now) c.products_stay.ensures.stays first
          c.close.new.pass _ _ _ _ c.begin-end.result [] (Opened missed c.args.self.now.reader.k) _
          c.in-Worn-close.turns
          c.begin-end.ensures.still_open (c.begin-end.ensures.notified missed first answer makes) found.worn);
    }

pub returns-in-Stopped : goal.returns-in-Stopped
returns-in-Stopped g c =
    let link = g.K.Link.tells c.begin-end.new.link in
    let closed = c.in_default-close.ensures in
    let actor = λ (p : PassView). p.actor in
    record {
      kept = same_then c.args.pass.now c.begin-end.new.pass c.close.new.pass c.begin-end.ensures.kept closed.kept;
      notified = λ missed first answer makes.
          rw c.close-in-Stopped.ensures
          (notified _ _ _ _ _ _
          (closes notice_kind notice_lawful (asked_by c.args.self.now) c.products_stay.ensures.stays first
          c.close.new.pass _ _ _ _ c.begin-end.result [] missed c.args.self.now.reader.k _ true c.in_default.not-Worn
          (c.begin-end.ensures.notified missed first answer makes)
          (ap actor c.begin-end.ensures.kept ∙ ap actor makes.same) closed.done
          (left_closed c.begin-end.result link c.in-Stopped.is)));
    }

pub returns-in_default-end : goal.returns-in_default-end
returns-in_default-end g c =
    let link = g.K.Link.tells c.begin-end.new.link in
    let closed = c.in_default-close.ensures in
    let actor = λ (p : PassView). p.actor in
    record {
      kept = same_then c.args.pass.now c.begin-end.new.pass c.close.new.pass c.begin-end.ensures.kept closed.kept;
      notified = λ missed first answer makes.
          notified _ _ _ _ _ _
          (closes notice_kind notice_lawful (asked_by c.args.self.now) c.products_stay.ensures.stays first
          c.close.new.pass _ _ _ _ c.begin-end.result [] missed c.args.self.now.reader.k _ link.closed
          c.in_default.not-Worn (c.begin-end.ensures.notified missed first answer makes)
          (ap actor c.begin-end.ensures.kept ∙ ap actor makes.same) closed.done
          (left_open c.begin-end.result link c.in_default-end.not-Stopped c.begin-end.ensures.still_open));
    }

use Rattle.std.proofs.Common.{[], ◌∷◌, Some, sym, subst, refl, ◌∙◌, append-nil}
use Rattle.ldm_model.specs.Answers.{commit_answer}
use Rattle.ldm_model.specs.declared.event.Event.TheVariants.{Commit}
use Rattle.ldm_relay.specs.Sent as sent
use Rattle.ldm_relay.specs.declared.message.SoonAnswer.TheVariants as soon_answer
use Rattle.ldm_intake.specs.declared.record_end.MessageEnd.TheVariants as message_end
use Rattle.ldm_intake.specs.Course.{Comes, Course}
use Rattle.ldm_intake.specs.Products.{accepts, commit_note}
use Rattle.ldm_intake.specs.Receiving.{with_last}
use Rattle.ldm_intake.specs.Step.{Goes, Step}
use Rattle.ldm_intake.specs.TakesRecord.{TakesRecord, stands}
use Rattle.ldm_intake.proofs.Announcing.{accepts-blocks, accepts-empty, waits-copy}
use Rattle.ldm_intake.proofs.Calling.{goes_by_none, goes_by_one}
use Rattle.ldm_intake.proofs.intake.Intake.accept_blocks.Goals as goal

pub returns-then-size-ne0 : goal.returns-then-size-ne0
returns-then-size-ne0 g c =
    let self = c.args.self.now in
    let soon = c.args.soon.now in
    goes_by_none self c.wait_for.new.self (record self { pending = Some (record { info = soon.info; r = c.args.r; blocks = 0 }) })
    (sent.ComingsoonReply soon.xid soon_answer.Ok ∷ []) []
    c.args.out.now.items c.put_soon.new.out.items c.args.notes.now.items c.args.notes.now.items
    (waits-copy self c.wait_for.new.self soon.info c.copy.result c.args.r c.wait_for.ensures c.copy.ensures)
    c.put_soon.ensures (sym (append-nil c.args.notes.now.items))
    (accepts self c.args.now soon.xid soon.info c.args.r) c.args.pass.now
    (accepts-blocks self c.args.now soon.xid soon.info c.args.r (λ e. c.if-size-ne0.true (c.size.ensures ∙ e)))

pub returns-in-Done : goal.returns-in-Done
returns-in-Done g c =
    let self = c.args.self.now in
    let soon = c.args.soon.now in
    let s = with_last self soon.info in
    let replies = sent.ComingsoonReply soon.xid soon_answer.Ok ∷ [] in
    let reply = commit_answer c.in-Done.reply in
    let old = stands self c.args.pass.now c.args.out.now.items c.args.notes.now.items in
    let new = stands c.pass_by.new.self c.commit.new.pass c.put_soon-in-Done.new.out.items c.note_commit.new.notes.items in
    subst (λ (course : Course Step). TakesRecord message_end.Goes course old new) (sym (accepts-empty self c.args.now soon.xid soon.info c.args.r (sym c.size.ensures ∙ c.if-size-ne0.false)))
    (goes_by_one self c.pass_by.new.self s replies (commit_note soon.info reply)
    c.args.out.now.items c.put_soon-in-Done.new.out.items c.args.notes.now.items c.note_commit.new.notes.items
    c.pass_by.ensures c.put_soon-in-Done.ensures c.note_commit.ensures
    (Commit c.args.r c.args.now) (λ r. Comes (Goes s replies (commit_note soon.info r))) reply c.args.pass.now c.commit.new.pass c.in-Done.ensures.done refl)

use Rattle.std.proofs.Common.{[], ◌∷◌, sym, subst}
use Rattle.ldm_model.specs.Answers.{reserve_answer}
use Rattle.ldm_model.specs.declared.event.Event.TheVariants.{Reserve}
use Rattle.ldm_model.specs.declared.replies.ReserveReply.{ReserveReply}
use Rattle.ldm_relay.specs.Sent as sent
use Rattle.ldm_relay.specs.declared.message.SoonAnswer.TheVariants as soon_answer
use Rattle.ldm_shared.specs.declared.turn.Turn.TheVariants.{Done}
use Rattle.ldm_intake.specs.Products.{reserved, reserve_note}
use Rattle.ldm_intake.specs.Receiving.{with_last}
use Rattle.ldm_intake.specs.TakesRecord.{TakesRecord, stands}
use Rattle.ldm_intake.specs.Turning.{end_of_turn}
use Rattle.ldm_intake.proofs.Announcing.{reserved-refused}
use Rattle.ldm_intake.proofs.Calling.{goes_by_none, takes_after}
use Rattle.ldm_intake.proofs.intake.Intake.reserve.Goals as goal

pub returns-in-Reserved : goal.returns-in-Reserved
returns-in-Reserved g c =
    let self = c.args.self.now in
    let soon = c.args.soon.now in
    let between = stands self c.reserve.new.pass c.args.out.now.items c.args.notes.now.items in
    let new = stands c.accept_blocks.new.self c.accept_blocks.new.pass c.accept_blocks.new.out.items c.accept_blocks.new.notes.items in
    let P : ReserveReply → Type 0 = λ reply. TakesRecord (end_of_turn c.accept_blocks.result) (reserved self c.args.now soon.xid soon.info (reserve_answer reply)) between new in
    takes_after (Reserve soon.info) (reserved self c.args.now soon.xid soon.info)
    (stands self c.args.pass.now c.args.out.now.items c.args.notes.now.items) c.calls_made.ensures.more (reserve_answer c.in-Done.reply)
    c.reserve.new.pass c.accept_blocks.result new c.in-Done.ensures.done (subst P (sym c.in-Reserved.is) c.accept_blocks.ensures)

pub returns-in_default : goal.returns-in_default
returns-in_default g c =
    let self = c.args.self.now in
    let soon = c.args.soon.now in
    let reply = reserve_answer c.in-Done.reply in
    let out = c.args.out.now.items in
    let notes = c.args.notes.now.items in
    takes_after (Reserve soon.info) (reserved self c.args.now soon.xid soon.info) (stands self c.args.pass.now out notes) c.calls_made.ensures.more reply
    c.reserve.new.pass (Done _) (stands c.decline.new.self c.reserve.new.pass c.decline.new.out.items c.note_reserve.new.notes.items) c.in-Done.ensures.done
    (goes_by_none self c.decline.new.self (with_last self soon.info) (sent.ComingsoonReply soon.xid soon_answer.DontSend ∷ []) (reserve_note soon.info reply)
    out c.decline.new.out.items notes c.note_reserve.new.notes.items c.decline.ensures.passed_by c.decline.ensures.replied c.note_reserve.ensures
    (reserved self c.args.now soon.xid soon.info reply) c.reserve.new.pass
    (reserved-refused self c.args.now soon.xid soon.info c.in-Done.reply c.in_default.not-Reserved))

use Rattle.std.proofs.Common.{ℕ, List, [], ◌∷◌, ◌++◌, sym, ap, ◌∙◌}
use Rattle.ldm_relay.specs.Sent as sent
use Rattle.ldm_relay.specs.declared.message.SoonAnswer.TheVariants as soon_answer
use Rattle.ldm_intake.specs.Notes.{Unwanted, note_lines}
use Rattle.ldm_intake.specs.Products.{comingsoon}
use Rattle.ldm_intake.specs.Receiving.{Receiving, with_last}
use Rattle.ldm_relay.specs.Spelling.{records_of}
use Rattle.ldm_intake.proofs.Announcing.{comingsoon-unwanted}
use Rattle.ldm_intake.proofs.Calling.{goes_by_none}
use Rattle.ldm_intake.proofs.intake.Intake.comingsoon.Goals as goal

pub returns-in-Ok-false : goal.returns-in-Ok-false
returns-in-Ok-false g c =
    let self = c.args.self.now in
    let soon = c.args.soon.now in
    let replies = sent.ComingsoonReply soon.xid soon_answer.DontSend ∷ [] in
    let notes = Unwanted soon.info.ident ∷ [] in
    goes_by_none self c.decline.new.self (with_last self soon.info) replies notes
    c.args.out.now.items c.decline.new.out.items c.args.notes.now.items c.put_unwanted.new.notes.items
    (c.decline.ensures.passed_by ∙ ap (λ (s : Receiving). with_last s soon.info) c.in-Ok-false.ensures.same)
    (c.decline.ensures.replied ∙ ap (λ (out : List ℕ). out ++ records_of replies) c.reply_room.ensures.same)
    (c.put_unwanted.ensures ∙ ap (λ (log : List ℕ). log ++ note_lines notes) c.note_room.ensures.same)
    (comingsoon self c.args.now soon.xid soon.info soon.block_size) c.args.pass.now
    (comingsoon-unwanted self c.args.now soon.xid soon.info soon.block_size (sym c.is_idle.ensures ∙ c.if-not-is_idle.false)
    c.if-soon-ne-LARGEST_BLOCK.false (sym c.in-Ok-false.ensures.wanted ∙ c.in-Ok-false.field-0-test))

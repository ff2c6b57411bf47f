use Rattle.std.proofs.Common.{[], refl, sym, append-nil}
use Rattle.ldm_model.specs.Answers.{insert_answer}
use Rattle.ldm_model.specs.declared.event.Event.TheVariants.{Insert}
use Rattle.ldm_intake.specs.Course.{Comes}
use Rattle.ldm_intake.specs.Products.{insert_note}
use Rattle.ldm_intake.specs.Receiving.{with_last}
use Rattle.ldm_intake.specs.Step.{Goes}
use Rattle.ldm_intake.proofs.Calling.{goes_by_one}
use Rattle.ldm_intake.proofs.intake.Intake.insert.Goals as goal

pub returns-in-Done : goal.returns-in-Done
returns-in-Done g c = λ out.
    let info = c.args.product.now.info in
    let s = with_last c.args.self.now info in
    let reply = insert_answer c.in-Done.reply in
    goes_by_one c.args.self.now c.pass_by.new.self s [] (insert_note info reply) out out c.args.notes.now.items c.note_insert.new.notes.items
    c.pass_by.ensures (sym (append-nil out)) c.note_insert.ensures
    (Insert c.args.now info c.args.product.now.body.now) (λ r. Comes (Goes s [] (insert_note info r))) reply c.args.pass.now c.insert.new.pass c.in-Done.ensures.done refl

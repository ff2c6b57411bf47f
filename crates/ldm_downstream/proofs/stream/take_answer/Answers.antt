use Rattle.ldm_intake.specs.TakesRecord.{stands}
use Rattle.ldm_downstream.proofs.Found.{found-answer}
use Rattle.ldm_downstream.proofs.stream.take_answer.Goals as goal

pub returns : goal.returns
returns c = λ now pass notes.
    rw c.end_of_answer.ensures
    (found-answer now c.args.at c.args.content.now c.take_answer.result (stands c.args.intake.now pass c.args.out.now.items notes)
    (stands c.take_answer.new.self pass c.take_answer.new.out.items notes) (c.take_answer.ensures.took now pass notes))

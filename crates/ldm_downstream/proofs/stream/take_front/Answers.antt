use Rattle.ldm_intake.specs.TakesRecord.{stands}
use Rattle.ldm_downstream.proofs.Found.{found-answer, found-message}
use Rattle.ldm_downstream.proofs.stream.take_front.Goals as goal

pub returns-then-is_feeding : goal.returns-then-is_feeding
returns-then-is_feeding c = λ content now pass out notes of.
    rw c.end_by_message.ensures
    (found-message now c.args.at content c.take_front.result c.args.end.now (stands c.args.intake.now pass out notes) (stands c.args.intake.now pass out notes)
    c.requires (c.take_front.ensures content now pass out notes of))

pub returns-else-is_feeding : goal.returns-else-is_feeding
returns-else-is_feeding c = λ content now pass out notes of.
    rw c.end_of_answer.ensures
    (found-answer now c.args.at content c.take_answer_front.result (stands c.args.intake.now pass out notes) (stands c.args.intake.now pass out notes)
    (c.take_answer_front.ensures content now pass out notes of))

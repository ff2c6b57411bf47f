use Rattle.ldm_model.specs.declared.event.Event.TheVariants.{Step}
use Rattle.ldm_model.specs.Answers.{step_answer}
use Rattle.ldm_shared.proofs.shared.Shared.step.Given as goal

abbrev pub ghosts-call : goal.ghosts-call
ghosts-call g a = record { event = Step a.event.now; reply = λ answer into. step_answer answer }

use Rattle.ldm_model.specs.declared.event.Event.TheVariants.{Fill}
use Rattle.ldm_model.specs.Answers.{fill_answer}
use Rattle.ldm_shared.proofs.shared.Shared.fill.Given as goal

abbrev pub ghosts-call : goal.ghosts-call
ghosts-call g a = record { event = Fill a.event.now.0 a.event.now.1.now; reply = λ answer into. fill_answer answer }

use Rattle.ldm_model.specs.declared.event.Event.TheVariants.{Look}
use Rattle.ldm_model.specs.Answers.{look_answer}
use Rattle.ldm_shared.proofs.shared.Shared.look.Given as goal

abbrev pub ghosts-call : goal.ghosts-call
ghosts-call g a = record { event = Look a.event.now; reply = λ answer into. look_answer answer }

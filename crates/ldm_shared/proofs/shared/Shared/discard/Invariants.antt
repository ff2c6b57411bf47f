use Rattle.ldm_model.specs.declared.event.Event.TheVariants.{Discard}
use Rattle.ldm_model.specs.Answers.{discard_answer}
use Rattle.ldm_shared.proofs.shared.Shared.discard.Given as goal

abbrev pub ghosts-call : goal.ghosts-call
ghosts-call g a = record { event = Discard a.event.now; reply = λ answer into. discard_answer answer }

use Rattle.ldm_model.specs.declared.event.Event.TheVariants.{Close}
use Rattle.ldm_model.specs.Answers.{close_answer}
use Rattle.ldm_shared.proofs.shared.Shared.close.Given as goal

abbrev pub ghosts-call : goal.ghosts-call
ghosts-call g a = record { event = Close a.event.now; reply = λ answer into. close_answer answer }

use Rattle.ldm_model.specs.declared.event.Event.TheVariants.{Insert}
use Rattle.ldm_model.specs.Answers.{insert_answer}
use Rattle.ldm_shared.proofs.shared.Shared.insert.Given as goal

abbrev pub ghosts-call : goal.ghosts-call
ghosts-call g a = record { event = Insert a.event.now.0 a.event.now.1.now a.event.now.2.now; reply = λ answer into. insert_answer answer }

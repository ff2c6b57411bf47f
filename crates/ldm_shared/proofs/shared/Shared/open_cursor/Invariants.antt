use Rattle.ldm_model.specs.declared.event.Event.TheVariants.{OpenCursor}
use Rattle.ldm_model.specs.Answers.{open_answer}
use Rattle.ldm_shared.proofs.shared.Shared.open_cursor.Given as goal

abbrev pub ghosts-call : goal.ghosts-call
ghosts-call g a = record { event = OpenCursor a.event.now.0 a.event.now.1.now; reply = λ answer into. open_answer answer }

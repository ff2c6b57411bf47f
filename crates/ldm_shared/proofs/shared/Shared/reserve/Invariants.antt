use Rattle.ldm_model.specs.declared.event.Event.TheVariants.{Reserve}
use Rattle.ldm_model.specs.Answers.{reserve_answer}
use Rattle.ldm_shared.proofs.shared.Shared.reserve.Given as goal

abbrev pub ghosts-call : goal.ghosts-call
ghosts-call g a = record { event = Reserve a.event.now; reply = λ answer into. reserve_answer answer }

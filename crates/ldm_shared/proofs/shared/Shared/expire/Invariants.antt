use Rattle.ldm_model.specs.declared.event.Event.TheVariants.{Expire}
use Rattle.ldm_model.specs.Answers.{expire_answer}
use Rattle.ldm_shared.proofs.shared.Shared.expire.Given as goal

abbrev pub ghosts-call : goal.ghosts-call
ghosts-call g a = record { event = Expire; reply = λ answer into. expire_answer answer }

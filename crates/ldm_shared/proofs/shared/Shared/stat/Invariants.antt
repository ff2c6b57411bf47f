use Rattle.ldm_model.specs.declared.event.Event.TheVariants.{Stat}
use Rattle.ldm_model.specs.Answers.{stat_answer}
use Rattle.ldm_shared.proofs.shared.Shared.stat.Given as goal

abbrev pub ghosts-call : goal.ghosts-call
ghosts-call g a = record { event = Stat; reply = λ answer into. stat_answer answer }

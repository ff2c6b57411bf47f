use Rattle.ldm_model.specs.declared.event.Event.TheVariants.{Tally}
use Rattle.ldm_model.specs.Answers.{tally_answer}
use Rattle.ldm_shared.proofs.shared.Shared.tally.Given as goal

abbrev pub ghosts-call : goal.ghosts-call
ghosts-call g a = record { event = Tally a.event.now; reply = λ answer into. tally_answer answer }

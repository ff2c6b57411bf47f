use Rattle.ldm_model.specs.declared.event.Event.TheVariants.{Release}
use Rattle.ldm_model.specs.Answers.{release_answer}
use Rattle.ldm_shared.proofs.shared.Shared.release.Given as goal

abbrev pub ghosts-call : goal.ghosts-call
ghosts-call g a = record { event = Release a.event.now; reply = λ answer into. release_answer answer }

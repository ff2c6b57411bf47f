use Rattle.ldm_model.specs.declared.event.Event.TheVariants.{Commit}
use Rattle.ldm_model.specs.Answers.{commit_answer}
use Rattle.ldm_shared.proofs.shared.Shared.commit.Given as goal

abbrev pub ghosts-call : goal.ghosts-call
ghosts-call g a = record { event = Commit a.event.now.0 a.event.now.1; reply = λ answer into. commit_answer answer }

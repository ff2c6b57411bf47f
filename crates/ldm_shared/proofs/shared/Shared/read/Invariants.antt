use Rattle.std.proofs.Common.{length}
use Rattle.ldm_model.specs.declared.event.Event.TheVariants.{Read}
use Rattle.ldm_model.specs.Answers.{read_answer, asked_bytes}
use Rattle.ldm_shared.proofs.shared.Shared.read.Given as goal

abbrev pub ghosts-call : goal.ghosts-call
ghosts-call g a = record { event = Read a.event.now.0 a.event.now.1 (asked_bytes (length a.into.now)); reply = λ answer into. read_answer answer into }

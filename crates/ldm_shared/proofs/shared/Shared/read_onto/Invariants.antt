use Rattle.std.proofs.Common.{drop, length}
use Rattle.ldm_model.specs.declared.event.Event.TheVariants.{Read}
use Rattle.ldm_model.specs.Answers.{read_answer, asked_bytes}
use Rattle.ldm_shared.proofs.shared.Shared.read_onto.Given as goal

abbrev pub ghosts-call_onto : goal.ghosts-call_onto
ghosts-call_onto g a = record { event = Read a.event.now.0 a.event.now.1 (asked_bytes a.event.now.2); reply = λ answer out. read_answer answer (drop (length a.out.now.items) out) }

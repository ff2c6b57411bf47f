use Rattle.std.proofs.Common.{arith}
use Rattle.ldm_relay.specs.declared.procedure.Procedure.TheVariants as procedure
use Rattle.ldm_relay.specs.Procedure.{number_of}
use Rattle.ldm_intake.specs.TakesRecord.{stands}
use Rattle.ldm_intake.proofs.KeptFronts.{no_answer}
use Rattle.ldm_intake.proofs.intake.Intake.take_answer_front.Goals as goal

pub returns-then-held-gt-LONGEST_CALL : goal.returns-then-held-gt-LONGEST_CALL
returns-then-held-gt-LONGEST_CALL c content now pass out notes of =
    no_answer c.args.self.now now content (stands c.args.self.now pass out notes) c.requires.asked
    (λ m. c.long_records_carry.ensures.replies (number_of procedure.Feedme) content m (omega (arith, of.len, c.if-held-gt-LONGEST_CALL.true)))

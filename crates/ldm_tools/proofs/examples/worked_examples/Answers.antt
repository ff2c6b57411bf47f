use Rattle.std.proofs.Common.{refl}
use Rattle.std.specs.Fmt.{digits}
use Rattle.ldm_answers.specs.Answer.{answer_line, reply_text}
use Rattle.ldm_tools.proofs.examples.worked_examples.Goals as goal

pub returns-clause-lines : goal.returns-clause-lines
unfolding answer_line reply_text digits
returns-clause-lines c = refl

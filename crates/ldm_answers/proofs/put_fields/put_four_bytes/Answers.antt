use Rattle.std.proofs.Common.{arith}
use Rattle.ldm_answers.proofs.ReadFields.{number_up_to-decimal}
use Rattle.ldm_answers.proofs.put_fields.put_four_bytes.Goals as goal

pub returns-clause-read_back : goal.returns-clause-read_back
returns-clause-read_back c = number_up_to-decimal _ _ (omega arith) (omega arith)

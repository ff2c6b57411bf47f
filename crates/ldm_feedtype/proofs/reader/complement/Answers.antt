use Rattle.std.proofs.Common.{arith}
use Rattle.ldm_feedtype.proofs.Sets.{set_of-not}
use Rattle.ldm_feedtype.proofs.reader.complement.Goals as goal

pub returns : goal.returns
returns c = set_of-not c.args.set (omega arith)

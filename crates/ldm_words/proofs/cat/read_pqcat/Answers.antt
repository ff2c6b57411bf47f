use Rattle.std.proofs.Common.{subst, sym}
use Rattle.ldm_words.specs.Commands.{IsPlain}
use Rattle.ldm_words.proofs.Parsing.{pqcat_plain}
use Rattle.ldm_words.proofs.cat.read_pqcat.Goals as goal

pub parse-requires : goal.parse-requires
parse-requires c = subst IsPlain (sym c.in_ok-pqcat_command.ensures) pqcat_plain

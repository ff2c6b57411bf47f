use Rattle.std.proofs.Common.{subst, sym}
use Rattle.ldm_words.specs.Commands.{IsPlain}
use Rattle.ldm_words.proofs.Parsing.{pqmon_plain}
use Rattle.ldm_words.proofs.mon.read_pqmon.Goals as goal

pub parse-requires : goal.parse-requires
parse-requires c = subst IsPlain (sym c.in_ok-pqmon_command.ensures) pqmon_plain

use Rattle.std.proofs.Common.{subst, sym}
use Rattle.ldm_words.specs.Commands.{IsPlain}
use Rattle.ldm_words.proofs.Parsing.{pqstats_plain}
use Rattle.ldm_words.proofs.stats.read_pqstats.Goals as goal

pub parse-requires : goal.parse-requires
parse-requires c = subst IsPlain (sym c.in_ok-pqstats_command.ensures) pqstats_plain

use Rattle.std.proofs.Common.{subst, sym}
use Rattle.ldm_words.specs.Commands.{IsPlain}
use Rattle.ldm_words.proofs.Parsing.{wmo_plain}
use Rattle.ldm_words.proofs.wmo.read_wmo.Goals as goal

pub parse-requires : goal.parse-requires
parse-requires c = subst IsPlain (sym c.in_ok-wmo_command.ensures) wmo_plain

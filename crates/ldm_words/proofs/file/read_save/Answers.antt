use Rattle.std.proofs.Common.{subst, sym}
use Rattle.ldm_words.specs.Commands.{IsPlain}
use Rattle.ldm_words.proofs.Parsing.{save_plain}
use Rattle.ldm_words.proofs.file.read_save.Goals as goal

pub parse-requires : goal.parse-requires
parse-requires c = subst IsPlain (sym c.in_ok-save_command.ensures) save_plain

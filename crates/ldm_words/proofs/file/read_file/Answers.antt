use Rattle.std.proofs.Common.{subst, sym}
use Rattle.ldm_words.specs.Commands.{IsPlain}
use Rattle.ldm_words.proofs.Parsing.{file_plain}
use Rattle.ldm_words.proofs.file.read_file.Goals as goal

pub parse-requires : goal.parse-requires
parse-requires c = subst IsPlain (sym c.in_ok-file_command.ensures) file_plain

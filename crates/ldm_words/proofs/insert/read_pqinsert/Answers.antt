use Rattle.std.proofs.Common.{subst, sym}
use Rattle.ldm_words.specs.Commands.{IsPlain}
use Rattle.ldm_words.proofs.Parsing.{pqinsert_plain}
use Rattle.ldm_words.proofs.insert.read_pqinsert.Goals as goal

pub parse-requires : goal.parse-requires
parse-requires c = subst IsPlain (sym c.in_ok-pqinsert_command.ensures) pqinsert_plain

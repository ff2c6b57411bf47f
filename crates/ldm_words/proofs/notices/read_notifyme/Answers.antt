use Rattle.std.proofs.Common.{subst, sym}
use Rattle.ldm_words.specs.Commands.{IsPlain}
use Rattle.ldm_words.proofs.Parsing.{notifyme_plain}
use Rattle.ldm_words.proofs.notices.read_notifyme.Goals as goal

pub parse-requires : goal.parse-requires
parse-requires c = subst IsPlain (sym c.in_ok-notifyme_command.ensures) notifyme_plain

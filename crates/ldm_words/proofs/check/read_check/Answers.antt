use Rattle.std.proofs.Common.{refl, subst, sym}
use Rattle.ldm_words.specs.Checking.{check_command}
use Rattle.ldm_words.specs.Commands.{IsPlain}
use Rattle.ldm_words.proofs.check.read_check.Goals as goal

check_plain : IsPlain check_command
unfolding check_command
check_plain = record { simple = refl; alone = refl; defaults = refl }

pub parse-requires : goal.parse-requires
parse-requires c = subst IsPlain (sym c.in_ok-check_command.ensures) check_plain

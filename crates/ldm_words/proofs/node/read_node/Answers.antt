use Rattle.std.proofs.Common.{subst, sym}
use Rattle.ldm_words.specs.Commands.{IsPlain}
use Rattle.ldm_words.proofs.Parsing.{node_plain}
use Rattle.ldm_words.proofs.node.read_node.Goals as goal

pub parse-requires : goal.parse-requires
parse-requires c = subst IsPlain (sym c.in_ok-node_command.ensures) node_plain

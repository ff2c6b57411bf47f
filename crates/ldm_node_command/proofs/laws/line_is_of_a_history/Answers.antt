use Rattle.ldm_node_command.proofs.HistoryLemmas.{line_written}
use Rattle.ldm_node_command.proofs.laws.line_is_of_a_history.Goals as goal

pub returns : goal.returns
returns g c = λ tells setup code old new has obeys. line_written tells setup code old new has obeys

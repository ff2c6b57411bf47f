use Rattle.ldm_actions.proofs.Commands.{few_begun, few_finished, few_given}
use Rattle.ldm_actions.proofs.laws.few_run_under_pipe.Goals as goal

pub returns-clause-begun : goal.returns-clause-begun
returns-clause-begun c = λ action world few. few_begun action world few

pub returns-clause-given : goal.returns-clause-given
returns-clause-given c = λ hand bytes world. few_given hand bytes world

pub returns-clause-finished : goal.returns-clause-finished
returns-clause-finished c = λ hand world. few_finished hand world

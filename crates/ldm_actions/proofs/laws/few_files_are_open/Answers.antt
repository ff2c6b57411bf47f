use Rattle.ldm_actions.proofs.FewOpen.{few_at_first, few_begun, few_closed, few_finished, few_given, none_at_last as none_is_open}
use Rattle.ldm_actions.proofs.laws.few_files_are_open.Goals as goal

pub returns-clause-at_first : goal.returns-clause-at_first
returns-clause-at_first c = λ store launcher none. few_at_first store launcher none

pub returns-clause-begun : goal.returns-clause-begun
returns-clause-begun c = λ result action old new it few. few_begun old new result action it few

pub returns-clause-given : goal.returns-clause-given
returns-clause-given c = λ result bytes old new it few. few_given old new result bytes it few

pub returns-clause-finished : goal.returns-clause-finished
returns-clause-finished c = λ result old new it few. few_finished old new result it few

pub returns-clause-closed : goal.returns-clause-closed
returns-clause-closed c = λ result old new it few. few_closed old new result it few

pub returns-clause-none_at_last : goal.returns-clause-none_at_last
returns-clause-none_at_last c = λ old new it few. none_is_open old new it few

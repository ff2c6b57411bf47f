use Rattle.std.proofs.Common.{refl}
use Rattle.ldm_words.proofs.Literals.{on_literals}
use Rattle.ldm_words.proofs.examples.worked_examples_of_pqmon.Goals as goal

pub returns-clause-by_default : goal.returns-clause-by_default
unfolding on_literals
returns-clause-by_default c = refl

pub returns-clause-given : goal.returns-clause-given
unfolding on_literals
returns-clause-given c = refl

pub returns-clause-last_colon : goal.returns-clause-last_colon
unfolding on_literals
returns-clause-last_colon c = refl

pub returns-clause-no_colon : goal.returns-clause-no_colon
unfolding on_literals
returns-clause-no_colon c = refl

pub returns-clause-no_port : goal.returns-clause-no_port
unfolding on_literals
returns-clause-no_port c = refl

pub returns-clause-twice : goal.returns-clause-twice
unfolding on_literals
returns-clause-twice c = refl

pub returns-clause-no_second : goal.returns-clause-no_second
unfolding on_literals
returns-clause-no_second c = refl

pub returns-clause-no_word : goal.returns-clause-no_word
unfolding on_literals
returns-clause-no_word c = refl

pub returns-clause-no_help : goal.returns-clause-no_help
unfolding on_literals
returns-clause-no_help c = refl

use Rattle.std.proofs.Common.{refl}
use Rattle.ldm_words.proofs.Literals.{on_literals}
use Rattle.ldm_words.proofs.examples.worked_examples_of_wmo.Goals as goal

pub returns-clause-by_default : goal.returns-clause-by_default
unfolding on_literals
returns-clause-by_default c = refl

pub returns-clause-given : goal.returns-clause-given
unfolding on_literals
returns-clause-given c = refl

pub returns-clause-socket : goal.returns-clause-socket
unfolding on_literals
returns-clause-socket c = refl

pub returns-clause-socket_twice : goal.returns-clause-socket_twice
unfolding on_literals
returns-clause-socket_twice c = refl

pub returns-clause-zero_byte : goal.returns-clause-zero_byte
unfolding on_literals
returns-clause-zero_byte c = refl

pub returns-clause-no_word : goal.returns-clause-no_word
unfolding on_literals
returns-clause-no_word c = refl

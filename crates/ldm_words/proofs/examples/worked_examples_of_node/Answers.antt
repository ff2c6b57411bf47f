use Rattle.std.proofs.Common.{refl}
use Rattle.ldm_words.proofs.Literals.{on_literals}
use Rattle.ldm_words.proofs.examples.worked_examples_of_node.Goals as goal

pub returns-clause-by_default : goal.returns-clause-by_default
unfolding on_literals
returns-clause-by_default c = refl

pub returns-clause-given : goal.returns-clause-given
unfolding on_literals
returns-clause-given c = refl

pub returns-clause-too_many_slots : goal.returns-clause-too_many_slots
unfolding on_literals
returns-clause-too_many_slots c = refl

pub returns-clause-leading_zero : goal.returns-clause-leading_zero
unfolding on_literals
returns-clause-leading_zero c = refl

pub returns-clause-two_files : goal.returns-clause-two_files
unfolding on_literals
returns-clause-two_files c = refl

pub returns-clause-no_file : goal.returns-clause-no_file
unfolding on_literals
returns-clause-no_file c = refl

pub returns-clause-kept : goal.returns-clause-kept
unfolding on_literals
returns-clause-kept c = refl

pub returns-clause-no_journal : goal.returns-clause-no_journal
unfolding on_literals
returns-clause-no_journal c = refl

pub returns-clause-ends_twice : goal.returns-clause-ends_twice
unfolding on_literals
returns-clause-ends_twice c = refl

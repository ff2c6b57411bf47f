use Rattle.std.proofs.Common.{refl}
use Rattle.ldm_words.proofs.Literals.{on_literals}
use Rattle.ldm_words.proofs.examples.worked_examples_of_files.Goals as goal

pub returns-clause-save : goal.returns-clause-save
unfolding on_literals
returns-clause-save c = refl

pub returns-clause-dash : goal.returns-clause-dash
unfolding on_literals
returns-clause-dash c = refl

pub returns-clause-no_slots : goal.returns-clause-no_slots
unfolding on_literals
returns-clause-no_slots c = refl

pub returns-clause-too_many_slots : goal.returns-clause-too_many_slots
unfolding on_literals
returns-clause-too_many_slots c = refl

pub returns-clause-file : goal.returns-clause-file
unfolding on_literals
returns-clause-file c = refl

pub returns-clause-no_file : goal.returns-clause-no_file
unfolding on_literals
returns-clause-no_file c = refl

pub returns-clause-two_files : goal.returns-clause-two_files
unfolding on_literals
returns-clause-two_files c = refl

pub returns-clause-no_option : goal.returns-clause-no_option
unfolding on_literals
returns-clause-no_option c = refl

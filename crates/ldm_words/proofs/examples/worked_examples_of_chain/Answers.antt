use Rattle.std.proofs.Common.{refl}
use Rattle.regex.proofs.OnLiterals.{regex_on_literals}
use Rattle.ldm_pattern.specs.Patterns.{pattern_meaning}
use Rattle.ldm_words.proofs.Literals.{on_literals}
use Rattle.ldm_words.proofs.examples.worked_examples_of_chain.Goals as goal

pub returns-clause-without_conf : goal.returns-clause-without_conf
unfolding on_literals regex_on_literals pattern_meaning
returns-clause-without_conf c = refl

pub returns-clause-with_conf : goal.returns-clause-with_conf
unfolding on_literals regex_on_literals pattern_meaning
returns-clause-with_conf c = refl

pub returns-clause-conf_behind : goal.returns-clause-conf_behind
unfolding on_literals regex_on_literals pattern_meaning
returns-clause-conf_behind c = refl

pub returns-clause-no_conf : goal.returns-clause-no_conf
unfolding on_literals regex_on_literals pattern_meaning
returns-clause-no_conf c = refl

pub returns-clause-no_class : goal.returns-clause-no_class
unfolding on_literals regex_on_literals pattern_meaning
returns-clause-no_class c = refl

pub returns-clause-no_pattern : goal.returns-clause-no_pattern
unfolding on_literals regex_on_literals pattern_meaning
returns-clause-no_pattern c = refl

pub returns-clause-too_many_slots : goal.returns-clause-too_many_slots
unfolding on_literals regex_on_literals pattern_meaning
returns-clause-too_many_slots c = refl

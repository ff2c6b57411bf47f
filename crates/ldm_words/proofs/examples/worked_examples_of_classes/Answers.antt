use Rattle.std.proofs.Common.{refl}
use Rattle.regex.proofs.OnLiterals.{regex_on_literals}
use Rattle.ldm_pattern.specs.Patterns.{pattern_meaning}
use Rattle.ldm_words.proofs.Literals.{on_literals}
use Rattle.ldm_words.proofs.examples.worked_examples_of_classes.Goals as goal

pub returns-clause-by_default : goal.returns-clause-by_default
unfolding on_literals regex_on_literals pattern_meaning
returns-clause-by_default c = refl

pub returns-clause-given : goal.returns-clause-given
unfolding on_literals regex_on_literals pattern_meaning
returns-clause-given c = refl

pub returns-clause-sizes : goal.returns-clause-sizes
unfolding on_literals regex_on_literals pattern_meaning
returns-clause-sizes c = refl

pub returns-clause-too_many_slots : goal.returns-clause-too_many_slots
unfolding on_literals regex_on_literals pattern_meaning
returns-clause-too_many_slots c = refl

pub returns-clause-no_count : goal.returns-clause-no_count
unfolding on_literals regex_on_literals pattern_meaning
returns-clause-no_count c = refl

pub returns-clause-no_pattern : goal.returns-clause-no_pattern
unfolding on_literals regex_on_literals pattern_meaning
returns-clause-no_pattern c = refl

pub returns-clause-no_peer : goal.returns-clause-no_peer
unfolding on_literals regex_on_literals pattern_meaning
returns-clause-no_peer c = refl

pub returns-clause-state : goal.returns-clause-state
unfolding on_literals regex_on_literals pattern_meaning
returns-clause-state c = refl

pub returns-clause-two_states : goal.returns-clause-two_states
unfolding on_literals regex_on_literals pattern_meaning
returns-clause-two_states c = refl

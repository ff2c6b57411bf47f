use Rattle.std.proofs.Common.{refl}
use Rattle.regex.proofs.OnLiterals.{regex_on_literals}
use Rattle.ldm_pattern.specs.Patterns.{pattern_meaning}
use Rattle.ldm_words.proofs.Literals.{on_literals}
use Rattle.ldm_words.proofs.examples.worked_examples_of_notifyme.Goals as goal

pub returns-clause-by_default : goal.returns-clause-by_default
unfolding on_literals regex_on_literals pattern_meaning
returns-clause-by_default c = refl

pub returns-clause-given : goal.returns-clause-given
unfolding on_literals regex_on_literals pattern_meaning
returns-clause-given c = refl

pub returns-clause-twice : goal.returns-clause-twice
unfolding on_literals regex_on_literals pattern_meaning
returns-clause-twice c = refl

pub returns-clause-with_value : goal.returns-clause-with_value
unfolding on_literals regex_on_literals pattern_meaning
returns-clause-with_value c = refl

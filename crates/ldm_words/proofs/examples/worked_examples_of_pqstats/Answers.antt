use Rattle.std.proofs.Common.{refl}
use Rattle.regex.proofs.OnLiterals.{regex_on_literals}
use Rattle.ldm_pattern.specs.Patterns.{pattern_meaning}
use Rattle.ldm_words.proofs.Literals.{on_literals}
use Rattle.ldm_words.proofs.examples.worked_examples_of_pqstats.Goals as goal

pub returns-clause-by_default : goal.returns-clause-by_default
unfolding on_literals regex_on_literals pattern_meaning
returns-clause-by_default c = refl

pub returns-clause-given : goal.returns-clause-given
unfolding on_literals regex_on_literals pattern_meaning
returns-clause-given c = refl

pub returns-clause-no_hour : goal.returns-clause-no_hour
unfolding on_literals regex_on_literals pattern_meaning
returns-clause-no_hour c = refl

pub returns-clause-too_many_hours : goal.returns-clause-too_many_hours
unfolding on_literals regex_on_literals pattern_meaning
returns-clause-too_many_hours c = refl

pub returns-clause-twice : goal.returns-clause-twice
unfolding on_literals regex_on_literals pattern_meaning
returns-clause-twice c = refl

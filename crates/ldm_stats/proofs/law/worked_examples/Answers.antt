use Rattle.std.proofs.Common.{refl}
use Rattle.std.specs.Fmt.{digits}
use Rattle.ldm_feedtype.specs.Text.{hex_digits}
use Rattle.ldm_pqact_match.specs.Dates.{date_behind}
use Rattle.ldm_pqact_match.specs.Substitution.{last_digits}
use Rattle.ldm_stats.proofs.law.worked_examples.Goals as goal

pub returns-clause-one_hour : goal.returns-clause-one_hour
unfolding digits hex_digits date_behind last_digits
returns-clause-one_hour c = refl

pub returns-clause-next_hour : goal.returns-clause-next_hour
unfolding digits hex_digits date_behind last_digits
returns-clause-next_hour c = refl

pub returns-clause-first_hour : goal.returns-clause-first_hour
unfolding digits hex_digits date_behind last_digits
returns-clause-first_hour c = refl

pub returns-clause-last_of_year : goal.returns-clause-last_of_year
unfolding date_behind last_digits
returns-clause-last_of_year c = refl

pub returns-clause-first_of_year : goal.returns-clause-first_of_year
unfolding date_behind last_digits
returns-clause-first_of_year c = refl

pub returns-clause-hours : goal.returns-clause-hours
returns-clause-hours c = refl

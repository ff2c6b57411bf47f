use Rattle.std.proofs.Common.{inl, inr, refl}
use Rattle.std.specs.Fmt.{digits}
use Rattle.ldm_feedtype.specs.Text.{hex_digits}
use Rattle.ldm_pqact_match.specs.Dates.{date_behind}
use Rattle.ldm_pqact_match.specs.Substitution.{last_digits}
use Rattle.ldm_pqstats.proofs.Completed.{long_ends, none_sent}
use Rattle.ldm_pqstats.proofs.examples.worked_examples.Goals as goal

pub returns-clause-ident : goal.returns-clause-ident
unfolding date_behind last_digits
returns-clause-ident c = refl

pub returns-clause-body : goal.returns-clause-body
unfolding digits hex_digits date_behind last_digits
returns-clause-body c = refl

pub returns-clause-sent : goal.returns-clause-sent
unfolding digits hex_digits date_behind last_digits
returns-clause-sent c = refl

pub returns-clause-owed : goal.returns-clause-owed
unfolding digits hex_digits date_behind last_digits
returns-clause-owed c = (refl, inr refl)

pub returns-clause-ending : goal.returns-clause-ending
unfolding digits hex_digits date_behind last_digits
returns-clause-ending c = refl

pub returns-clause-denied : goal.returns-clause-denied
unfolding digits hex_digits date_behind last_digits
returns-clause-denied c = inl refl

pub returns-clause-denied_ending : goal.returns-clause-denied_ending
returns-clause-denied_ending c = refl

pub returns-clause-long : goal.returns-clause-long
returns-clause-long c stats hour behind long = none_sent stats hour behind long

pub returns-clause-long_ending : goal.returns-clause-long_ending
returns-clause-long_ending c stats hour behind long = long_ends stats hour behind long

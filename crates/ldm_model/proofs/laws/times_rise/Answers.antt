use Rattle.ldm_model.proofs.Times.{times-rise, times-instants, last-is-newest}
use Rattle.ldm_model.proofs.laws.times_rise.Goals as goal

pub returns-clause-rise : goal.returns-clause-rise
returns-clause-rise c = times-rise

pub returns-clause-instants : goal.returns-clause-instants
returns-clause-instants c = times-instants

pub returns-clause-last : goal.returns-clause-last
returns-clause-last c = last-is-newest

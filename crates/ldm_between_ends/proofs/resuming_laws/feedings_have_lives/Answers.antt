use Rattle.ldm_between_ends.proofs.Living.{has-life, fed-life, seen-then}
use Rattle.ldm_between_ends.proofs.resuming_laws.feedings_have_lives.Goals as goal

pub returns-clause-called : goal.returns-clause-called
returns-clause-called c = λ old new asked feeding missed k called unmade more has calls answered are none.
    has-life c.own_readers.ensures.seen old new asked feeding missed k called unmade more (seen-then old new _ has calls) calls answered are none

pub returns-clause-fed : goal.returns-clause-fed
returns-clause-fed c = λ why asked ahead old new before after feeds has missed k answered.
    fed-life why asked ahead old new before after feeds missed k answered c.own_readers.ensures.seen

use Rattle.ldm_journal.proofs.RunLemmas.{fitting_drops, fitting_fits}
use Rattle.ldm_journal.proofs.laws.the_fewest_are_dropped.Goals as goal

pub returns-clause-fits : goal.returns-clause-fits
returns-clause-fits c = fitting_fits

pub returns-clause-fewest : goal.returns-clause-fewest
returns-clause-fewest c = λ most all. let d = fitting_drops most all in (d.dropped, d.is, d.fewest)

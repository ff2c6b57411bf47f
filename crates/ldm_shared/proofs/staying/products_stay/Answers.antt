use Rattle.ldm_shared.proofs.RowsStay.{stays, whole, fits}
use Rattle.ldm_shared.proofs.staying.products_stay.Goals as goal

pub returns-clause-stays : goal.returns-clause-stays
returns-clause-stays c = stays

pub returns-clause-whole : goal.returns-clause-whole
returns-clause-whole c = whole

pub returns-clause-fits : goal.returns-clause-fits
returns-clause-fits c = fits

use Rattle.ldm_between_ends.proofs.Keeping.{keeps-entries}
use Rattle.ldm_between_ends.proofs.reading.readers_keep_products.Goals as goal

pub returns : goal.returns
returns c = keeps-entries

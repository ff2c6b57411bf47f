use Rattle.ldm_between_ends.proofs.Feeding.{feeding-reads}
use Rattle.ldm_between_ends.proofs.reading.feedings_only_read.Goals as goal

pub returns : goal.returns
returns c = feeding-reads

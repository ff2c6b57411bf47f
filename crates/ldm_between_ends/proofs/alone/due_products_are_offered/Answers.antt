use Rattle.ldm_between_ends.proofs.Offering.{offered-feeding}
use Rattle.ldm_between_ends.proofs.alone.due_products_are_offered.Goals as goal

pub returns : goal.returns
returns c = offered-feeding

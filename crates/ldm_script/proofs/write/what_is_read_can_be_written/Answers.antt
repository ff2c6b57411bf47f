use Rattle.ldm_script.proofs.Askable.{writable_order}
use Rattle.ldm_script.proofs.write.what_is_read_can_be_written.Goals as goal

pub returns : goal.returns
returns c actors line order is = writable_order actors line order is

use Rattle.std.proofs.Common.{refl}
use Rattle.ldm_rpc.specs.Streams.{in_hand}
use Rattle.ldm_tools.proofs.Heard.{hears_nothing}
use Rattle.ldm_tools.proofs.reader.LinkReader.create.Goals as goal

pub returns : goal.returns
unfolding in_hand
returns c = hears_nothing (record { records = c.create.result; begins = 0; came = 0; waiting = c.in_ok-create.field-0 }) c.create.ensures refl refl c.in_ok-create.ensures

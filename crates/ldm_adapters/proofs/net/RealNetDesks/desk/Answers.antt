-- The gate of a desk tells no number, so it may be asked for with any.
use Rattle.std.proofs.Common.{refl}
use Rattle.ldm_adapters.proofs.net.RealNetDesks.desk.Goals as goal

pub returns-in-Ok-clause-given : goal.returns-in-Ok-clause-given
returns-in-Ok-clause-given c = (c.in-Ok.ensures c.args.idles, refl)

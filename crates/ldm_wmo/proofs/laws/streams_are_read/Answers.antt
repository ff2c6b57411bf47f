use Rattle.ldm_wmo.proofs.Holding.{stream_holds}
use Rattle.ldm_wmo.proofs.Once.{holds_once}
use Rattle.ldm_wmo.proofs.laws.streams_are_read.Goals as goal

pub returns : goal.returns
returns c = record { holds = stream_holds; once = holds_once 0 }

-- What contracts see of what reads a stream.
use Rattle.ldm_rpc.specs.Streams.{Position}
use Rattle.ldm_watch.specs.declared.watching.Watching.{Watching}

-- A stream that is watched: where the watching stands, and what is in hand.
pub record StreamView : Type 0 where
  pub watching : Watching
  pub hand : Position

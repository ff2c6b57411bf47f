use Rattle.ldm_wmo.proofs.Frames.{stream_read}
use Rattle.ldm_wmo.proofs.laws.frames_are_read.Goals as goal

pub returns : goal.returns
returns c = record { items = λ stream. (stream_read stream).items; cut = λ stream. (stream_read stream).cut }

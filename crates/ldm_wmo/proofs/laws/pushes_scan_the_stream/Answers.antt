use Rattle.ldm_wmo.proofs.Joined.{pushed}
use Rattle.ldm_wmo.proofs.laws.pushes_scan_the_stream.Goals as goal

pub returns : goal.returns
returns c = record { items = λ s piece unended. (pushed s piece unended).items; in_hand = λ s piece unended. (pushed s piece unended).in_hand_is }

use Rattle.ldm_wmo.proofs.Joined.{after-append, in_hand-append, items-append}
use Rattle.ldm_wmo.proofs.laws.pieces_join.Goals as goal

pub returns : goal.returns
returns c = record { after = after-append; items = items-append; in_hand = in_hand-append }

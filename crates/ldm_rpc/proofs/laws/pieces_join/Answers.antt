use Rattle.ldm_rpc.proofs.Joined.{after-append, taken-append, records-append, in_hand-append}
use Rattle.ldm_rpc.proofs.laws.pieces_join.Goals as goal

pub returns : goal.returns
returns c = record { after = after-append; taken = taken-append; records = records-append; in_hand = in_hand-append }

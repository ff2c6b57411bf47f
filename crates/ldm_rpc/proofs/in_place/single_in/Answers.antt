use Rattle.std.proofs.Common.{◌+◌, length, refl}
use Rattle.ldm_rpc.proofs.Single.{is_single}
use Rattle.ldm_rpc.proofs.in_place.single_in.Goals as goal

pub returns-clause-single : goal.returns-clause-single
returns-clause-single c = is_single c.args.limit c.args.piece.now (record { content = c.in_ok-content.content; taken = 4 + length c.in_ok-content.content.now }) refl c.in_ok-content.ensures.begins

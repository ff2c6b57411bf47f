use Rattle.ldm_rpc.proofs.Single.{begins-single}
use Rattle.ldm_rpc.proofs.in_place.content_in.Goals as goal

pub returns-clause-begins : goal.returns-clause-begins
returns-clause-begins c =
    begins-single c.args.limit c.args.piece.now c.split_at.result.0.now c.split_at.result.1.now c.read_u32-number.result (λ i. (c.type_inv.piece i).fits) c.split_at.ensures.by_index.0
    c.split_at.ensures.front c.split_at.ensures.front_len c.read_u32-number.ensures c.if-number-lt-LAST_FRAGMENT.false c.read_u32-number.type_inv c.if-number-limit.false
    c.if-len-behind.false

use Rattle.std.proofs.Common.{refl}
use Rattle.ldm_rpc.specs.Streams.{in_hand}
use Rattle.ldm_session.proofs.HearingLemmas.{hears_nothing}
use Rattle.ldm_session.proofs.replies.Replies.create.Goals as goal

pub returns : goal.returns
unfolding in_hand
returns c =
    record { heard = hears_nothing c.args.ahead.now (record { records = c.create.result; begins = 0; came = 0; waiting = c.in_ok-create.field-0 }) c.create.ensures refl refl c.in_ok-create.ensures }

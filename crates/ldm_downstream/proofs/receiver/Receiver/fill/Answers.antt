use Rattle.std.proofs.Common.{ap, ◌∙◌}
use Rattle.ldm_downstream.specs.ReceiverView.{ReceiverView}
use Rattle.ldm_downstream.proofs.Filled.{goes-below}
use Rattle.ldm_downstream.proofs.receiver.Receiver.fill.Goals as goal

pub fill-requires-clause-below : goal.fill-requires-clause-below
fill-requires-clause-below g c =
    goes-below c.self.inside.end c.self.inside.stream.hand (ap (λ (v : ReceiverView). v.end) c.self.view_is ∙ c.requires.live) c.self.invariant

use Rattle.std.proofs.Common.{ap, sym, ◌∙◌}
use Rattle.ldm_downstream.specs.ReceiverView.{ReceiverView}
use Rattle.ldm_downstream.proofs.Passing.{ends-at}
use Rattle.ldm_downstream.proofs.receiver.Receiver.end.Goals as goal

pub returns-clause-ends : goal.returns-clause-ends
returns-clause-ends g c =
    ends-at c.args.self.end c.close.result c.args.self c.close.new.self c.args.pass.now c.close.new.pass
    (sym (ap (λ (v : ReceiverView). v.end) c.receiver.view_is) ∙ c.in-None.is) c.close.ensures.finishes

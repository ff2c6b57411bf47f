use Rattle.ldm_downstream.specs.ReceiverView.{moment}
use Rattle.ldm_downstream.proofs.Found.{held-none}
use Rattle.ldm_downstream.proofs.stream.take_held.Goals as goal

pub returns-in_default-clause-finds : goal.returns-in_default-clause-finds
returns-in_default-clause-finds g c =
    rw c.in_default.is
    (λ content is. held-none c.args.now c.args.at content c.args.end.now (moment c.args.intake.now c.args.pass.now c.args.out.now c.args.notes.now) is c.requires.going)

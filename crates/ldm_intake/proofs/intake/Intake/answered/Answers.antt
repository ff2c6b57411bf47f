use Rattle.ldm_intake.proofs.Replying.{feed_begins}
use Rattle.ldm_intake.proofs.intake.Intake.answered.Goals as goal

pub returns-in-Ok : goal.returns-in-Ok
returns-in-Ok c = λ pass notes.
    feed_begins pass c.args.out.now.items notes c.args.self.now c.feed.new.self c.args.asked.now c.args.again c.args.answer c.in-Ok.is c.feed.ensures

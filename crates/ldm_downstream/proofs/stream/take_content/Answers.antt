use Rattle.ldm_downstream.specs.ReceiverView.{moment}
use Rattle.ldm_downstream.proofs.Found.{found-goes, found-message}
use Rattle.ldm_downstream.proofs.stream.take_content.Goals as goal

pub returns-in-Goes-clause-finds : goal.returns-in-Goes-clause-finds
returns-in-Goes-clause-finds g c =
    rw c.requires.going
    (found-goes c.args.now c.args.at c.args.content.now (moment c.args.intake.now c.args.pass.now c.args.out.now c.args.notes.now)
    (moment c.take_message.new.self c.take_message.new.pass c.take_message.new.out c.take_message.new.notes) c.in-Goes.ensures.took)

pub returns-in_default : goal.returns-in_default
returns-in_default g c = record {
  kept = c.take_message.ensures.kept;
  finds = rw c.end_by_message.ensures
      (found-message c.args.now c.args.at c.args.content.now c.take_message.result c.args.end.now
      (moment c.args.intake.now c.args.pass.now c.args.out.now c.args.notes.now)
      (moment c.take_message.new.self c.take_message.new.pass c.take_message.new.out c.take_message.new.notes) c.requires.going
      c.take_message.ensures.took);
}

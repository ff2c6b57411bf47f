use Rattle.ldm_actions.proofs.Commands.{same_command}
use Rattle.ldm_actions.proofs.laws.one_child_for_one_command.Goals as goal

pub returns : goal.returns
returns c = λ words others options world same. same_command words others options world same

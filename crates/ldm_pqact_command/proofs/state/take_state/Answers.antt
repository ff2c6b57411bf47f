use Rattle.ldm_pqact_command.proofs.Keeping.{from_spare}
use Rattle.ldm_pqact_command.proofs.state.take_state.Goals as goal

pub returns-in-Other-clause-takes : goal.returns-in-Other-clause-takes
returns-in-Other-clause-takes g c = from_spare c.take_spare.result c.args.path.now _ _ _ c.in-Other.ensures.reads c.take_spare.ensures.takes

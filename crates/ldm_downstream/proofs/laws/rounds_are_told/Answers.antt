use Rattle.ldm_downstream.proofs.InTurn.{told-given, told-sent}
use Rattle.ldm_downstream.proofs.laws.rounds_are_told.Goals as goal

pub returns-clause-sent : goal.returns-clause-sent
returns-clause-sent c = told-sent

pub returns-clause-given : goal.returns-clause-given
returns-clause-given c = told-given

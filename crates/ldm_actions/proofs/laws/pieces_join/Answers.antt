use Rattle.ldm_actions.proofs.Pieces.{given_more}
use Rattle.ldm_actions.proofs.laws.pieces_join.Goals as goal

pub returns : goal.returns
returns c = λ hand first second world. given_more hand first second world

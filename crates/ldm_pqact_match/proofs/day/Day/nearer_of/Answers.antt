use Rattle.ldm_pqact_match.proofs.Nearer.{first_nearer, second_nearer}
use Rattle.ldm_pqact_match.proofs.day.Day.nearer_of.Goals as goal

pub returns-then-distance : goal.returns-then-distance
returns-then-distance c = second_nearer c.args.first c.args.second _ _ _ _ c.distance.ensures c.distance-2.ensures c.if-distance.true

pub returns-else-distance : goal.returns-else-distance
returns-else-distance c = first_nearer c.args.first c.args.second _ _ _ _ c.distance.ensures c.distance-2.ensures c.if-distance.false

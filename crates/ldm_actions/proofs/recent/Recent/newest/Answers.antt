use Rattle.ldm_actions.proofs.KeptLemmas.{first_newest, some_first}
use Rattle.ldm_actions.proofs.recent.Recent.newest.Goals as goal

pub unwrap-requires : goal.unwrap-requires
unwrap-requires c = rw c.first.ensures (some_first c.args.self.now c.requires)

pub returns : goal.returns
returns c = first_newest c.args.self.now c.first.result c.unwrap.result c.first.ensures c.unwrap.ensures

use Rattle.ldm_actions.proofs.Named.{pops_oldest}
use Rattle.ldm_actions.proofs.recent.Recent.take_oldest.Goals as goal

pub returns : goal.returns
returns c =
    pops_oldest c.self.inside.cache c.pop_lru.new.self c.args.self.now c.pop_lru.result c.number.result c.self.view_is c.number.ensures c.pop_lru.ensures.value
    c.pop_lru.ensures.entries

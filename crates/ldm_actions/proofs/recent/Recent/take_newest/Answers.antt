use Rattle.ldm_actions.proofs.Named.{pops_newest}
use Rattle.ldm_actions.proofs.recent.Recent.take_newest.Goals as goal

pub returns : goal.returns
returns c =
    pops_newest c.self.inside.cache c.pop_mru.new.self c.args.self.now c.pop_mru.result c.number.result c.self.view_is c.number.ensures c.pop_mru.ensures.value
    c.pop_mru.ensures.entries

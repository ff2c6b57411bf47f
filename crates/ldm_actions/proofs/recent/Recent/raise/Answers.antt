use Rattle.ldm_actions.proofs.Named.{promotes_found, promotes_named}
use Rattle.ldm_actions.proofs.recent.Recent.raise.Goals as goal

pub returns-clause-found : goal.returns-clause-found
returns-clause-found c = promotes_found c.args.name.now c.self.inside.cache c.args.self.now c.promote.result c.self.view_is c.promote.ensures.value

pub returns-clause-raised : goal.returns-clause-raised
returns-clause-raised c =
    promotes_named c.args.name.now c.self.inside.cache c.promote.new.self c.args.self.now c.self.view_is c.promote.ensures.entries

use Rattle.std.proofs.Common.{sym}
use Rattle.ldm_actions.proofs.Named.{sets_named, sets_none}
use Rattle.ldm_actions.proofs.recent.Recent.set_number.Goals as goal

pub returns-in_default : goal.returns-in_default
returns-in_default c =
    sets_none c.args.name.now c.self.inside.cache c.args.self.now c.args.number c.self.view_is (sym c.in_default.ensures.value)

pub returns : goal.returns
returns c = sets_named c.args.name.now c.self.inside.cache c.args.self.now c.args.number c.self.view_is

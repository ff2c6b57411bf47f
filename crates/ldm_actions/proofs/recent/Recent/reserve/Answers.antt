use Rattle.std.proofs.Common.{◌∙◌}
use Rattle.ldm_actions.proofs.Named.{pushes_gone, pushes_named}
use Rattle.ldm_actions.proofs.recent.Recent.reserve.Goals as goal

pub returns-clause-gone : goal.returns-clause-gone
returns-clause-gone c =
    c.number.ensures
    ∙ pushes_gone c.self.inside.cache c.args.self.now c.in_ok-name.name c.args.name.now 0 c.self.view_is c.self.invariant c.in_ok-name.ensures.ok c.requires
    c.in_ok-push.field-0 c.in_ok-push.ensures.old

pub returns-clause-reserved : goal.returns-clause-reserved
returns-clause-reserved c =
    pushes_named c.self.inside.cache c.args.self.now c.in_ok-name.name c.args.name.now 0 c.self.view_is c.self.invariant c.in_ok-name.ensures.ok c.requires
    c.push.new.self c.in_ok-push.ensures.entries

use Rattle.std.proofs.Common.{◌-◌, arith}
use Rattle.ldm_freelist.proofs.Kept.{root_low, few, counted, some_tree, best}
use Rattle.ldm_freelist.proofs.free_set.FreeSet.best.Goals as goal

pub first_from-requires-clause-tree : goal.first_from-requires-clause-tree
first_from-requires-clause-tree g c = some_tree c.self.inside.table c.self.inside.root c.self.inside.free c.self.invariant c.args.self.now c.self.view_is

pub first_from-requires-clause-few : goal.first_from-requires-clause-few
first_from-requires-clause-few g c = omega (arith, root_low c.self.inside.table c.self.inside.root c.self.inside.free c.self.invariant c.args.self.now c.self.view_is, c.requires)

pub returns-clause-best : goal.returns-clause-best
returns-clause-best g c = best c.self.inside.table c.self.inside.root c.self.inside.free c.self.invariant c.args.self.now c.self.view_is c.args.need c.first_from.result c.first_from.ensures.found

pub returns-clause-few : goal.returns-clause-few
returns-clause-few g c = omega (arith, root_low c.self.inside.table c.self.inside.root c.self.inside.free c.self.invariant c.args.self.now c.self.view_is, c.requires, c.first_from.ensures.few)

pub returns-clause-logarithm : goal.returns-clause-logarithm
returns-clause-logarithm g c = few c.self.inside.table c.self.inside.root c.self.inside.free c.self.invariant c.args.self.now c.self.view_is (c.first_from.new.steps - c.args.steps.now)
    (omega (arith, c.first_from.ensures.few))

pub returns-clause-counted : goal.returns-clause-counted
returns-clause-counted g c = counted c.self.inside.table c.self.inside.root c.self.inside.free c.self.invariant c.args.self.now c.self.view_is (c.first_from.new.steps - c.args.steps.now)
    (omega (arith, c.first_from.ensures.counted, c.first_from.ensures.steps))

use Rattle.std.proofs.Common.{◌-◌, arith}
use Rattle.ldm_freelist.proofs.Kept.{root_low, few, counted, some_tree, last_found}
use Rattle.ldm_freelist.proofs.free_set.FreeSet.last_to.Goals as goal

pub last_to-requires-clause-tree : goal.last_to-requires-clause-tree
last_to-requires-clause-tree g c = some_tree c.self.inside.table c.self.inside.root c.self.inside.free c.self.invariant c.args.self.now c.self.view_is

pub last_to-requires-clause-few : goal.last_to-requires-clause-few
last_to-requires-clause-few g c = omega (arith, root_low c.self.inside.table c.self.inside.root c.self.inside.free c.self.invariant c.args.self.now c.self.view_is, c.requires)

pub returns-clause-last : goal.returns-clause-last
returns-clause-last g c = last_found c.self.inside.table c.self.inside.root c.self.inside.free c.self.invariant c.args.self.now c.self.view_is c.args.most c.last_to.result c.last_to.ensures.found

pub returns-clause-few : goal.returns-clause-few
returns-clause-few g c = omega (arith, root_low c.self.inside.table c.self.inside.root c.self.inside.free c.self.invariant c.args.self.now c.self.view_is, c.requires, c.last_to.ensures.few)

pub returns-clause-logarithm : goal.returns-clause-logarithm
returns-clause-logarithm g c = few c.self.inside.table c.self.inside.root c.self.inside.free c.self.invariant c.args.self.now c.self.view_is (c.last_to.new.steps - c.args.steps.now)
    (omega (arith, c.last_to.ensures.few))

pub returns-clause-counted : goal.returns-clause-counted
returns-clause-counted g c = counted c.self.inside.table c.self.inside.root c.self.inside.free c.self.invariant c.args.self.now c.self.view_is (c.last_to.new.steps - c.args.steps.now)
    (omega (arith, c.last_to.ensures.counted, c.last_to.ensures.steps))

use Rattle.std.proofs.Common.{length}
use Rattle.ldm_chain.proofs.NodeLemmas.{MadeTo}
use Rattle.ldm_chain.proofs.nodes.all_nodes.Given as goal

abbrev pub invariant-loop-alloc : goal.invariant-loop-alloc
invariant-loop-alloc l = MadeTo l.arena l.slots l.max_hereis l.fn.first l.fn.classes.items l.nodes.items l.classes.items

abbrev pub decreases-loop-alloc : goal.decreases-loop-alloc
decreases-loop-alloc l = length l.classes.items

use Rattle.std.proofs.Common.{ap}
use Rattle.std.proofs.lemmas.Bool.{eq-eqb, ne_eqb}
use Rattle.ldm_freelist.specs.Nodes.{height_at}
use Rattle.ldm_freelist.specs.declared.node_table.TheConstants.{NONE}
use Rattle.ldm_freelist.specs.declared.node_table.Node.{Node}
use Rattle.ldm_freelist.proofs.node_table.NodeTable.height.Goals as goal

pub returns-then-node-eq-NONE : goal.returns-then-node-eq-NONE
unfolding height_at
returns-then-node-eq-NONE c = rw (eq-eqb c.args.node NONE c.if-node-eq-NONE.true)

pub returns-else-node-eq-NONE : goal.returns-else-node-eq-NONE
unfolding height_at
returns-else-node-eq-NONE c = rw (ne_eqb c.args.node NONE c.if-node-eq-NONE.false) (ap (λ (n : Node). n.height) c.node.ensures)

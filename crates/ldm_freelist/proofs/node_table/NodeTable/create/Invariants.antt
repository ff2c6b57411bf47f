use Rattle.std.proofs.Common.{◌≡◌}
use Rattle.ldm_freelist.specs.Nodes.{free_nodes}
use Rattle.ldm_freelist.proofs.node_table.NodeTable.create.Given as goal

abbrev pub invariant-loop-number : goal.invariant-loop-number
invariant-loop-number l = l.nodes.items ≡ free_nodes l.number

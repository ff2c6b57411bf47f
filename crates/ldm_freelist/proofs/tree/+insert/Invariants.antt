use Rattle.ldm_freelist.specs.Nodes.{height_at}
use Rattle.ldm_freelist.proofs.tree.+insert.Given as goal

abbrev pub decreases-insert : goal.decreases-insert
decreases-insert g l = height_at l.table.now l.root

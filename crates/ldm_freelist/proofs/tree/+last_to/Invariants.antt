use Rattle.ldm_freelist.specs.Nodes.{height_at}
use Rattle.ldm_freelist.proofs.tree.+last_to.Given as goal

abbrev pub decreases-last_to : goal.decreases-last_to
decreases-last_to g l = height_at l.table.now l.root

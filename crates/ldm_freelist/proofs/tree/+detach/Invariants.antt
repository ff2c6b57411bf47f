use Rattle.ldm_freelist.specs.Nodes.{height_at}
use Rattle.ldm_freelist.proofs.tree.+detach.Given as goal

abbrev pub decreases-detach : goal.decreases-detach
decreases-detach g l = height_at l.table.now l.root

use Rattle.ldm_freelist.specs.Nodes.{height_at}
use Rattle.ldm_freelist.proofs.tree.+last.Given as goal

abbrev pub decreases-last : goal.decreases-last
decreases-last l = height_at l.table.now l.root

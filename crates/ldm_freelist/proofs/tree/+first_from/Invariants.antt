use Rattle.ldm_freelist.specs.Nodes.{height_at}
use Rattle.ldm_freelist.proofs.tree.+first_from.Given as goal

abbrev pub decreases-first_from : goal.decreases-first_from
decreases-first_from g l = height_at l.table.now l.root

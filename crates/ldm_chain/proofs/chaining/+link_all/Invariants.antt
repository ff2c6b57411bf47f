use Rattle.std.proofs.Common.{length}
use Rattle.ldm_chain.proofs.chaining.+link_all.Given as goal

abbrev pub decreases-link_all : goal.decreases-link_all
decreases-link_all g l = length l.nodes.now

use Rattle.ldm_sigindex.specs.Entries.{free_of}
use Rattle.ldm_sigindex.proofs.Round.{way}
use Rattle.ldm_sigindex.proofs.Walked.{IsWalked}
use Rattle.std.proofs.Common.{length}
use Rattle.ldm_sigindex.proofs.entries.free_place.Given as goal

abbrev pub invariant-loop-at : goal.invariant-loop-at
invariant-loop-at l = IsWalked l.entries l.home l.at

abbrev pub decreases-loop-at : goal.decreases-loop-at
decreases-loop-at l = way (length l.entries) l.at (free_of l.entries)

use Rattle.std.proofs.Common.{length}
use Rattle.ldm_sigindex.specs.Entries.{free_of}
use Rattle.ldm_sigindex.proofs.Closing.{IsClosing}
use Rattle.ldm_sigindex.proofs.Round.{way}
use Rattle.ldm_sigindex.proofs.entries.close.Given as goal

abbrev pub invariant-loop-entries : goal.invariant-loop-entries
invariant-loop-entries l = IsClosing l.fn.entries l.entries l.fn.place l.hole l.at

abbrev pub decreases-loop-entries : goal.decreases-loop-entries
decreases-loop-entries l = way (length l.fn.entries) l.at (free_of l.fn.entries)

use Rattle.std.proofs.Common.{length}
use Rattle.ldm_sigindex.specs.Entries.{free_of, table_of}
use Rattle.ldm_sigindex.proofs.Round.{way}
use Rattle.ldm_sigindex.proofs.Walked.{IsPassed}
use Rattle.ldm_sigindex.proofs.entries.seek.Given as goal

abbrev pub invariant-loop-at : goal.invariant-loop-at
invariant-loop-at l = IsPassed l.key l.entries (table_of l.slots) l.signature.0 l.at

abbrev pub decreases-loop-at : goal.decreases-loop-at
decreases-loop-at l = way (length l.entries) l.at (free_of l.entries)

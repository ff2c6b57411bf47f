use Rattle.std.proofs.Common.{◌-◌, ◌≤◌}
use Rattle.ldm_book.specs.Readers.{AreAhead}
use Rattle.ldm_book.proofs.book.Book.first_free.Given as goal

abbrev pub invariant-loop-n : goal.invariant-loop-n
invariant-loop-n l = record { ahead : AreAhead l.at l.self.cursors l.self.rows; above : l.from ≤ l.at }

abbrev pub decreases-loop-n : goal.decreases-loop-n
decreases-loop-n l = l.self.admitted - l.at

use Rattle.std.proofs.Common.{◌≡◌, ◌<◌, ℕ}
use Rattle.ldm_book.specs.Restoring.{IsGoodRow, IsSoFar, backup, backup_with}
use Rattle.ldm_book.proofs.book.Book.restore.Given as goal

-- the rows so far were good, and were put back
abbrev pub invariant-loop-i : goal.invariant-loop-i
invariant-loop-i l = record {
  sofar : IsSoFar l.rows l.i l.book;
  same : backup_with l.book l.rows ≡ backup l.fn.arena.items l.fn.slots l.fn.admitted l.fn.last l.rows;
  good : (earlier : ℕ) → earlier < l.i → IsGoodRow (backup l.fn.arena.items l.fn.slots l.fn.admitted l.fn.last l.rows) earlier;
}

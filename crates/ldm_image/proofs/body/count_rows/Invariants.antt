use Rattle.std.proofs.Common.{◌≤◌, length}
use Rattle.ldm_image.proofs.body.count_rows.Given as goal

abbrev pub invariant-loop-i : goal.invariant-loop-i
invariant-loop-i l = l.i ≤ length l.book.rows

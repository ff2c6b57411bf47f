use Rattle.std.proofs.Common.{subst, sym, arith}
use Rattle.ldm_cursor.specs.Places.{CountsBelow}
use Rattle.ldm_cursor.proofs.CallerLemmas.{CountsBelow-empty}
use Rattle.drive_values.proofs.queue.cursors.Seats.create.Goals as goal

pub invariant_of-result : goal.invariant_of-result
invariant_of-result c = (omega arith, subst (CountsBelow 1) (sym c.in_ok-cursors.ensures) (CountsBelow-empty 1 64))

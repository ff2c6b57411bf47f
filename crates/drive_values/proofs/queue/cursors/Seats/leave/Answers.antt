use Rattle.std.proofs.Common.{subst, sym}
use Rattle.ldm_cursor.specs.Places.{CountsBelow}
use Rattle.ldm_cursor.proofs.CallerLemmas.{CountsBelow-without_cursor}
use Rattle.drive_values.proofs.queue.cursors.Seats.leave.Goals as goal

pub invariant_of-self : goal.invariant_of-self
invariant_of-self c =
    let limit = c.self.inside.limit in (
      c.self.invariant.0,
      subst (CountsBelow limit) (sym c.leave.ensures.left) (CountsBelow-without_cursor limit c.args.k c.self.inside.cursors c.self.invariant.1),
    )

use Rattle.std.proofs.Common.{subst, sym, ◌+◌, arith}
use Rattle.ldm_cursor.specs.Places.{CountsBelow}
use Rattle.ldm_cursor.proofs.CallerLemmas.{CountsBelow-with_loss}
use Rattle.drive_values.proofs.queue.cursors.Seats.lose.Goals as goal

pub invariant_of-self : goal.invariant_of-self
invariant_of-self c =
    let limit = c.self.inside.limit in (
      omega arith,
      subst (CountsBelow (limit + 1)) (sym c.lose.ensures.lost) (CountsBelow-with_loss limit c.args.n c.args.feed.0 c.self.inside.cursors c.self.invariant.1),
    )

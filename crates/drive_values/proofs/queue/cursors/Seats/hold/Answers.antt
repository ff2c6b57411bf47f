use Rattle.std.proofs.Common.{subst, sym, ◌+◌, arith}
use Rattle.ldm_cursor.specs.Places.{CountsBelow, after_hold}
use Rattle.ldm_cursor.proofs.CallerLemmas.{CountsBelow-with_change, HasCountsBelow-after_hold}
use Rattle.drive_values.proofs.queue.cursors.Seats.hold.Goals as goal

pub invariant_of-self : goal.invariant_of-self
invariant_of-self c =
    let limit = c.self.inside.limit in (
      omega arith,
      subst (CountsBelow (limit + 1)) (sym c.hold.ensures.held)
          (CountsBelow-with_change limit (limit + 1) c.args.k (after_hold c.args.n) c.self.inside.cursors (omega arith) (HasCountsBelow-after_hold limit c.args.n) c.self.invariant.1),
    )

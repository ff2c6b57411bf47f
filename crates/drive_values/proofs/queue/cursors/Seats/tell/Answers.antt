use Rattle.std.proofs.Common.{subst, sym, arith}
use Rattle.ldm_cursor.specs.Places.{CountsBelow, after_tell}
use Rattle.ldm_cursor.proofs.CallerLemmas.{CountsBelow-with_change, HasCountsBelow-after_tell}
use Rattle.drive_values.proofs.queue.cursors.Seats.tell.Goals as goal

pub invariant_of-self : goal.invariant_of-self
invariant_of-self c =
    let limit = c.self.inside.limit in (
      c.self.invariant.0,
      subst (CountsBelow limit) (sym c.tell.ensures.told)
          (CountsBelow-with_change limit limit c.args.k after_tell c.self.inside.cursors (omega arith) (HasCountsBelow-after_tell limit) c.self.invariant.1),
    )

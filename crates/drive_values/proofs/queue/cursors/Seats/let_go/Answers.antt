use Rattle.std.proofs.Common.{subst, sym, arith}
use Rattle.ldm_types.specs.Cursors.{KeptCursor}
use Rattle.ldm_cursor.specs.Places.{CountsBelow, HasCountsBelow, after_release}
use Rattle.ldm_cursor.proofs.CallerLemmas.{CountsBelow-with_change}
use Rattle.drive_values.proofs.queue.cursors.Seats.let_go.Goals as goal

pub invariant_of-self : goal.invariant_of-self
invariant_of-self c =
    let limit = c.self.inside.limit in (
      c.self.invariant.0,
      subst (CountsBelow limit) (sym c.let_go.ensures.released)
          (CountsBelow-with_change limit limit c.args.k after_release c.self.inside.cursors (omega arith) (λ (cursor : KeptCursor) (below : HasCountsBelow limit cursor). record { untold = below.untold; given = below.given; lost = below.lost }) c.self.invariant.1),
    )

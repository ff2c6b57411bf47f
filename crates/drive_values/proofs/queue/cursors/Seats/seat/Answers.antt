use Rattle.ldm_cursor.proofs.CallerLemmas.{CountsBelow-seated}
use Rattle.drive_values.proofs.queue.cursors.Seats.seat.Goals as goal

pub invariant_of-self : goal.invariant_of-self
invariant_of-self c = (
  c.self.invariant.0,
  CountsBelow-seated c.self.inside.limit c.args.actor c.args.feed.0 c.args.position c.self.inside.cursors c.seat.new.self c.seat.result c.self.invariant.0 c.seat.ensures.seated c.self.invariant.1,
)

-- A session: a feeder reads its queue by a cursor, and a receiver takes what comes of it, cut anywhere.
use Rattle.ldm_model.specs.Law.{Point}
use Rattle.ldm_shared.specs.Passes.{PassView, HasSeen}
use Rattle.ldm_upstream.specs.Course.{AreRows}
use Rattle.ldm_upstream.specs.Feeding.{given_of}
use Rattle.ldm_between_ends.specs.Passing.{Passing, IsPassing}
use Rattle.ldm_between_ends.specs.Life.{HasLife}

-- What a feeder and a receiver did, as plain data.
pub record Session : Type 0 where
  -- the feeder's pass, with what it has seen of its queue
  pub pass : PassView
  -- the life of its cursor in that history, up to the last call that it made for the session
  pub life : Point
  -- what it fed, and what the receiver did with the bytes that came
  pub passing : Passing

-- The feeder read its queue so, each product that it fed is the one of its number, and the bytes that came to the receiver are the
-- first of what is owed.
pub record IsSession (s : Session) : Type 0 where
  pub has_seen : HasSeen s.pass
  pub has_life : HasLife s.pass s.passing.asked s.passing.feeding s.life
  pub rows : AreRows s.pass (given_of s.passing.feeding)
  pub passing : IsPassing s.passing

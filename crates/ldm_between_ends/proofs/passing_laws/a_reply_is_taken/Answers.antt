use Rattle.ldm_between_ends.proofs.Replying.{part-goes_on, replies}
use Rattle.ldm_between_ends.proofs.passing_laws.a_reply_is_taken.Goals as goal

pub returns-clause-whole : goal.returns-clause-whole
returns-clause-whole c = λ p ungranted. replies c.streams_are_read.ensures p ungranted c.what_is_written_is_read.ensures

pub returns-clause-part : goal.returns-clause-part
returns-clause-part c = λ p ungranted. part-goes_on c.streams_are_read.ensures p ungranted

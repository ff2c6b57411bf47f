use Rattle.ldm_between_ends.proofs.Owing.{answers-all}
use Rattle.ldm_between_ends.proofs.passing_laws.announcements_are_answered.Goals as goal

pub returns : goal.returns
returns c = λ p product sent_at at given more behind passing carries last said is other.
    answers-all c.what_is_written_is_read.ensures c.streams_are_read.ensures p passing carries product sent_at at given more behind last said is other

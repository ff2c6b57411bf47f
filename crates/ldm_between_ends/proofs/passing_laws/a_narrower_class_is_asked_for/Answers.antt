use Rattle.ldm_between_ends.proofs.Narrowing.{narrows}
use Rattle.ldm_between_ends.proofs.passing_laws.a_narrower_class_is_asked_for.Goals as goal

pub returns : goal.returns
returns c = narrows c.what_is_written_is_read.ensures c.streams_are_read.ensures

use Rattle.ldm_upstream.proofs.Complete.{completes, spelled}
use Rattle.ldm_upstream.proofs.laws.answered_feedings_are_completed.Goals as goal

pub returns-clause-completes : goal.returns-clause-completes
returns-clause-completes c = completes

pub returns-clause-spelled : goal.returns-clause-spelled
returns-clause-spelled c = spelled c.what_is_written_is_read.ensures c.records_are_read.ensures.records

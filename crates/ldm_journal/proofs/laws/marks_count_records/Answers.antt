use Rattle.ldm_journal.proofs.EventLemmas.{all_bytes}
use Rattle.ldm_journal.proofs.laws.marks_count_records.Goals as goal

pub returns : goal.returns
returns c = all_bytes
